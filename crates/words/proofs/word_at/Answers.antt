-- `words::word_at` meets its contract: the eight bytes are there, or zeros are read.
-- Assumes nothing.
use Rattle.std.proofs.Common.{rules}
use Rattle.words.proofs.word_at.Goals as goal
use mathlib.Core.List.{List}
use mathlib.Core.Path.{◌≡◌, sym, ◌∙◌}
use Prim.Native.Nat.{ℕ, ◌-◌, ◌*◌, ◌≤◌, ◌<◌}
use native.Mathlib.Omega.{arith}
use lib.ListN.{length, drop}
use Rattle.format.specs.Bits.{bits, bits_of, fill}
use Rattle.words.specs.Words.{word_bits}
use Rattle.words.proofs.NumberLaws.{bits-zero}
use Rattle.words.proofs.WordsLaws.{word_bits_in, word_bits_out}

there : (s : List ℕ) (i n r : ℕ) → n ≡ length s - 7 → i < n → bits 64 r ≡ fill 64 (drop (8 * i) (bits_of s))
    → bits 64 r ≡ word_bits s i
there s i n r e h er = er ∙ sym (word_bits_in s i (omega arith))

past : (s : List ℕ) (i n : ℕ) → n ≡ length s - 7 → n ≤ i → bits 64 0 ≡ word_bits s i
past s i n e h = bits-zero 64 ∙ sym (word_bits_out s i (omega arith))

ruleset laws = (there, past)

pub returns-then-saturating_sub-i : goal.returns-then-saturating_sub-i
returns-then-saturating_sub-i c = search (rules, laws)

pub returns : goal.returns
returns c = search (rules, laws)
