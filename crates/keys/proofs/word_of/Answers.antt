-- `keys::word_of` meets its contract: where the other key has 64 bits or more here, its word; else its first
-- bits, with the bits of s behind them, as many as are left.
-- Assumes nothing.
use mathlib.Core.List.{List, ◌++◌, append-nil}
use mathlib.Core.Path.{◌≡◌, sym, ap, ap₂, ◌∙◌}
use Prim.Native.Nat.{ℕ, ◌+◌, ◌-◌, ◌≤◌}
use native.Mathlib.Omega.{arith}
use lib.ListN.{length, take, drop, length-append}
use lib.Seq.{take_all, take_at}
use Rattle.format.specs.Bits.{bits, bits_of, fill}
use Rattle.facts.proofs.BitsLaws.{length-bits, fill-take}
use Rattle.words.proofs.WindowLaws.{fill-take-fill, take-fill-append}
use Rattle.std.proofs.Common.{rules}
use Rattle.keys.proofs.word_of.Goals as goal

module _ (s : List ℕ) (x lo q start len kept : ℕ) (ek : kept ≡ q - lo) where
  whole : 64 ≤ kept
      → bits 64 x ≡ fill 64 (take (q - lo) (bits 64 x) ++ take (len - (lo - q)) (drop (start + (lo - q)) (bits_of s)))
  whole h =
      let t : List ℕ = take (len - (lo - q)) (drop (start + (lo - q)) (bits_of s)) in
      let l : 64 ≤ length (bits 64 x ++ t) = omega (arith, length-append (bits 64 x) t, length-bits 64 x) in
      sym (ap (λ (u : List ℕ). fill 64 (u ++ t)) (take_all (q - lo) (bits 64 x) (omega (arith, length-bits 64 x)))
      ∙ fill-take 64 (bits 64 x ++ t) l ∙ take_at (bits 64 x) t 64 (length-bits 64 x))

  module _ (skip left : ℕ) (es : skip ≡ lo - q) (el : left ≡ len - skip) (r : ℕ) where
    none : left ≡ 0 → bits 64 r ≡ fill 64 (take kept (bits 64 x))
        → bits 64 r ≡ fill 64 (take (q - lo) (bits 64 x) ++ take (len - (lo - q)) (drop (start + (lo - q)) (bits_of s)))
    none z e =
        let l : 0 ≡ len - (lo - q) = omega arith in
        e ∙ ap (λ (n : ℕ). fill 64 (take n (bits 64 x))) ek
        ∙ ap (fill 64) (sym (append-nil (take (q - lo) (bits 64 x))))
        ∙ ap (λ (n : ℕ). fill 64 (take (q - lo) (bits 64 x) ++ take n (drop (start + (lo - q)) (bits_of s)))) l

    part : (w y : ℕ) → bits 64 w ≡ fill 64 (drop (start + skip) (bits_of s))
        → bits 64 y ≡ fill 64 (take left (bits 64 w))
        → bits 64 r ≡ take 64 (take kept (bits 64 x) ++ bits 64 y)
        → bits 64 r ≡ fill 64 (take (q - lo) (bits 64 x) ++ take (len - (lo - q)) (drop (start + (lo - q)) (bits_of s)))
    part w y ew ey er =
        let z : List ℕ = drop (start + skip) (bits_of s) in
        let l : left ≡ len - (lo - q) = omega arith in
        er
        ∙ ap (λ (u : List ℕ). take 64 (take kept (bits 64 x) ++ u))
        (ey ∙ ap (λ (u : List ℕ). fill 64 (take left u)) ew ∙ fill-take-fill 64 left z)
        ∙ take-fill-append 64 64 (take kept (bits 64 x)) (take left z) (omega arith)
        ∙ ap₂ (λ (i j : ℕ). fill 64 (take i (bits 64 x) ++ take j z)) ek l
        ∙ ap (λ (k : ℕ). fill 64 (take (q - lo) (bits 64 x) ++ take (len - (lo - q)) (drop (start + k) (bits_of s)))) es

ruleset laws = (whole, none, part)

pub returns-then-kept-ge64 : goal.returns-then-kept-ge64
returns-then-kept-ge64 c = search (rules, laws)

pub returns-then-left-eq0 : goal.returns-then-left-eq0
returns-then-left-eq0 c = search (rules, laws)

pub returns : goal.returns
returns c = search (rules, laws)
