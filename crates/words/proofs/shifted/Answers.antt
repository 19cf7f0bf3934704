-- `words::shifted` meets its contract: the word without its first h bits, and the first h bits of the byte.
-- Assumes nothing.
use mathlib.Core.List.{List, ◌++◌, append_assoc}
use mathlib.Core.Path.{◌≡◌, sym, ap, ap₂, subst, ◌∙◌}
use Prim.Native.Nat.{ℕ, ◌+◌, ◌-◌, ◌*◌, ◌/◌, ◌%◌, ◌^◌, ◌≤◌, ◌<◌}
use native.Mathlib.Nat.{mod-lt}
use native.Mathlib.Omega.{arith}
use lib.Arith.{digits_lt}
use lib.Pow.{pow_pos, pow-add, shr_lt}
use lib.ListN.{length, take, drop, length-append}
use lib.Seq.{take_at, drop_at}
use Rattle.format.specs.Bits.{bits}
use Rattle.facts.proofs.BitsLaws.{length-bits, bits_cat}
use Rattle.words.proofs.NumberLaws.{bits_split, shl_64}
use Rattle.std.proofs.Common.{rules}
use Rattle.words.proofs.shifted.Goals as goal

module _ (x y h : ℕ) (l : h < 8) (ly : y < 256) where
  small : y / 2 ^ (8 - h) < 2 ^ h
  small =
      let e : 8 ≡ h + (8 - h) = omega arith in
      shr_lt h (8 - h) (subst (λ (k : ℕ). y < 2 ^ k) e ly)

  summed : x * 2 ^ h % 2 ^ 64 + y / 2 ^ (8 - h) ≡ (x % 2 ^ (64 - h)) * 2 ^ h + y / 2 ^ (8 - h)
  summed =
      let k : h ≤ 64 = omega arith in
      ap (λ (n : ℕ). n + y / 2 ^ (8 - h)) (shl_64 x h k)

  fits : x * 2 ^ h % 2 ^ 64 + y / 2 ^ (8 - h) < 2 ^ 64
  fits =
      let e : (64 - h) + h ≡ 64 = omega arith in
      subst (λ (n : ℕ). n < 2 ^ 64) (sym summed)
      (subst (λ (n : ℕ). (x % 2 ^ (64 - h)) * 2 ^ h + y / 2 ^ (8 - h) < n)
      (sym (pow-add 2 (64 - h) h) ∙ ap (λ (n : ℕ). 2 ^ n) e) (digits_lt (mod-lt x (pow_pos (64 - h))) small))

  are : bits 64 (x * 2 ^ h % 2 ^ 64 + y / 2 ^ (8 - h)) ≡ take 64 (drop h (bits 64 x ++ bits 8 y))
  are =
      let e : 64 ≡ (64 - h) + h = omega arith in
      let e' : 64 ≡ h + (64 - h) = omega arith in
      let e8 : 8 ≡ h + (8 - h) = omega arith in
      let H : List ℕ = bits h (x / 2 ^ (64 - h)) in
      let X : List ℕ = bits (64 - h) (x % 2 ^ (64 - h)) in
      let Y : List ℕ = bits h (y / 2 ^ (8 - h)) in
      let L : List ℕ = bits (8 - h) (y % 2 ^ (8 - h)) in
      let lx : length (X ++ Y) ≡ 64 =
      omega (arith, length-append X Y, length-bits (64 - h) (x % 2 ^ (64 - h)), length-bits h (y / 2 ^ (8 - h))) in
      ap₂ bits e summed ∙ bits_cat (64 - h) h (x % 2 ^ (64 - h)) (y / 2 ^ (8 - h)) small
      ∙ sym (ap₂ (λ (u v : List ℕ). take 64 (drop h (u ++ v))) (ap (λ (n : ℕ). bits n x) e' ∙ bits_split h (64 - h) x)
      (ap (λ (n : ℕ). bits n y) e8 ∙ bits_split h (8 - h) y)
      ∙ ap (λ (u : List ℕ). take 64 (drop h u)) (append_assoc H X (Y ++ L))
      ∙ ap (take 64) (drop_at H (X ++ (Y ++ L)) h (length-bits h (x / 2 ^ (64 - h))) ∙ sym (append_assoc X Y L))
      ∙ take_at (X ++ Y) L 64 lx)

ruleset laws = (fits, are)

pub returns : goal.returns
returns c = search (rules, laws)

pub overflow_add-result : goal.overflow_add-result
overflow_add-result c = search (rules, laws)
