-- `sizes::reduced` meets its contract: what is taken off, times q, goes into the others by themselves, or the whole
-- times of q that they have go off first and the rest is compared in times of q.
-- Assumes nothing.
use mathlib.Core.Path.{◌≡◌, sym, ap, ◌∙◌}
use Prim.Native.Nat.{ℕ, ◌+◌, ◌-◌, ◌*◌, ◌/◌, ◌%◌, ◌^◌, ◌≤◌, ◌<◌}
use native.Mathlib.Nat.{div-add-mod', add-mul, mod-lt}
use native.Mathlib.Omega.{arith}
use Rattle.format.specs.Answer.{Answer}
use Rattle.format.specs.Sizes.{difference}
use Rattle.std.specs.Prelude.{Result}
use Rattle.format.specs.declared.refusal.Refusal.{Refusal}
use Rattle.sizes.specs.Sizes.{size_answer}
use Rattle.sizes.proofs.SizesLaws.{diff_is, diff_low, diff_same, times_le, times_past}
use Rattle.std.proofs.Common.{rules}
use Rattle.sizes.proofs.reduced.Goals as goal

module _ (head others times q : ℕ) (z : q ≡ 0 → ⊥) where
  few_le : times ≤ others / q → times * q ≤ others
  few_le h = times_le times q others z h

  few_fits : others < 2 ^ 64 → times ≤ others / q → times * q < 2 ^ 64
  few_fits k h = omega (arith, few_le h)

  few : times ≤ others / q → (r : Result ℕ Refusal) → size_answer r ≡ difference (head + (others - times * q) + 0) 0
      → size_answer r ≡ difference (head + others) (times * q)
  few h r e =
      e ∙ diff_same (head + others) (times * q) (head + (others - times * q) + 0) (rest (times * q) (few_le h))
    where
      rest : (p : ℕ) → p ≤ others → (head + (others - p) + 0) + p ≡ head + others
      rest p k = omega arith

  -- the whole times of q that the others have, and the rest
  parts : others ≡ others / q * q + others % q
  parts = sym (div-add-mod' others q)

  times_parts : others / q < times → times * q ≡ others / q * q + (times - others / q) * q
  times_parts h =
      let e : times ≡ others / q + (times - others / q) = omega arith in
      ap (λ (x : ℕ). x * q) e ∙ add-mul (others / q) (times - others / q) q

  many_low : others / q < times → (head + others % q) / q < times - others / q
      → Answer.Refused 19 ≡ difference (head + others) (times * q)
  many_low h k =
      diff_low (head + others) (times * q)
      (low (others / q * q) (others % q) ((times - others / q) * q) (times * q) parts (times_parts h)
      (times_past (times - others / q) q (head + others % q) z k))
    where
      low : (w r x p : ℕ) → others ≡ w + r → p ≡ w + x → head + r < x → head + others < p
      low w r x p eo ep b = omega arith

  more_le : times - others / q ≤ (head + others % q) / q → (times - others / q) * q ≤ head + others % q
  more_le k = times_le (times - others / q) q (head + others % q) z k

  module _ (hq : head + q < 2 ^ 64) where
    have_fits : head + others % q < 2 ^ 64
    have_fits = omega (arith, mod-lt others {m = q} (omega (arith, z)))

    more_fits : times - others / q ≤ (head + others % q) / q → (times - others / q) * q < 2 ^ 64
    more_fits k = omega (arith, have_fits, more_le k)

    many_is : others / q < times → times - others / q ≤ (head + others % q) / q
        → Answer.Value ((head + others % q) - (times - others / q) * q) ≡ difference (head + others) (times * q)
    many_is h k =
        diff_is (head + others) (times * q) ((head + others % q) - (times - others / q) * q)
        (equal (others / q * q) (others % q) ((times - others / q) * q) (times * q) parts (times_parts h) (more_le k))
        (small (others % q) ((times - others / q) * q) have_fits)
      where
        equal : (w r x p : ℕ) → others ≡ w + r → p ≡ w + x → x ≤ head + r → ((head + r) - x) + p ≡ head + others
        equal w r x p eo ep b = omega arith

        small : (r x : ℕ) → head + r < 2 ^ 64 → (head + r) - x < 2 ^ 64
        small r x b = omega arith

ruleset laws = (few_le, few_fits, few, have_fits, many_low, more_fits, more_le, many_is)

pub returns-then-times-whole : goal.returns-then-times-whole
returns-then-times-whole c = search (rules, laws)

pub returns-then-have-q : goal.returns-then-have-q
returns-then-have-q c = search (rules, laws)

pub returns : goal.returns
returns c = search (rules, laws)
