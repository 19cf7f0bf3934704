-- `words::window_at` meets its contract: bit h % 8 of byte i is that bit of the slice.
-- Assumes nothing.
use Rattle.std.proofs.Common.{rules}
use Rattle.words.proofs.window_at.Goals as goal
use mathlib.Core.Bool.{Bool, cond}
use mathlib.Core.List.{List}
use mathlib.Core.Path.{◌≡◌, sym, ap, ◌∙◌}
use Prim.Native.Nat.{ℕ, ◌+◌, ◌-◌, ◌*◌, ◌/◌, ◌%◌, ◌≤◌, ◌<◌}
use native.Mathlib.Omega.{arith}
use borrow.Author.Tests.{lt-ltb, le-ltb}
use lib.ListN.{length, drop, replicate}
use Rattle.format.specs.Bits.{bits, bits_of, fill}
use Rattle.words.specs.Words.{window_bits}
use Rattle.words.proofs.NumberLaws.{bits-zero}

fits : (s : List ℕ) (i h n r : ℕ) → n ≡ length s - 8 → i < n
    → bits 64 r ≡ fill 64 (drop (8 * i + h % 8) (bits_of s)) → bits 64 r ≡ window_bits s (8 * i + h % 8)
unfolding window_bits
fits s i h n r en l er =
    let b : ℕ = 8 * i + h % 8 in
    let k : b / 8 + 8 < length s = omega arith in
    er ∙ sym (ap (λ (t : Bool). cond t (fill 64 (drop b (bits_of s))) (replicate 64 0)) (lt-ltb (b / 8 + 8) (length s) k))

past : (s : List ℕ) (i h n : ℕ) → n ≡ length s - 8 → n ≤ i → bits 64 0 ≡ window_bits s (8 * i + h % 8)
unfolding window_bits
past s i h n en l =
    let b : ℕ = 8 * i + h % 8 in
    let k : length s ≤ b / 8 + 8 = omega arith in
    bits-zero 64
    ∙ sym (ap (λ (t : Bool). cond t (fill 64 (drop b (bits_of s))) (replicate 64 0)) (le-ltb (b / 8 + 8) (length s) k))

ruleset laws = (fits, past)

pub returns-then-i-saturating_sub : goal.returns-then-i-saturating_sub
returns-then-i-saturating_sub c = search (rules, laws)

pub returns : goal.returns
returns c = search (rules, laws)
