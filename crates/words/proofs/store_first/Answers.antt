-- `words::store_first` meets its contract: the word's bytes are std's (`word_bytes-is`), and the first of them replace
-- those of s.
-- Assumes nothing.
use mathlib.Core.List.{List, ◌++◌}
use mathlib.Core.Path.{◌≡◌, ap, ap₂, ◌∙◌}
use Prim.Native.Nat.{ℕ, ◌+◌, min}
use native.Mathlib.Omega.{arith}
use lib.ListN.{length, take, drop}
use Rattle.std.proofs.Common.{rules}
use Rattle.std.specs.Int.{w64, to_be_bytes}
use Rattle.words.specs.Words.{with_first}
use Rattle.words.proofs.WordsLaws.{word_bytes-is}
use Rattle.words.proofs.store_first.Goals as goal

firsts : (s l w : List ℕ) (x n : ℕ) → n ≡ min (length s) 8 → w ≡ to_be_bytes w64 x → l ≡ take n w → l ++ drop n s ≡ with_first s x
unfolding with_first
firsts s l w x n e ew h =
    let z : n ≡ 0 + min (length s) 8 = omega arith in
    ap₂ ◌++◌ (h ∙ ap₂ take e (ew ∙ word_bytes-is x)) (ap (λ (k : ℕ). drop k s) z)

pub returns : goal.returns
returns c = search (rules, firsts)
