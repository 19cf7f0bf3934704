-- `sizes::uncompressed_separator_range_size` meets its contract: for n of at least 1 the result is the sum of
-- three parts, q (n - 1) and what the first keeps of q among them; for n = 0 it is a difference.
-- Assumes nothing.
use mathlib.Core.Path.{◌≡◌, refl, ap, ◌∙◌}
use Prim.Native.Nat.{ℕ, zero, suc, ◌+◌, ◌-◌, ◌*◌, ◌^◌, ◌≤◌, ◌<◌, min}
use native.Mathlib.Omega.{arith}
use Rattle.format.specs.Answer.{Answer}
use Rattle.format.specs.Sizes.{difference, whole_from_stored}
use Rattle.std.specs.Prelude.{Option, Some, None, Result, SomeIff}
use Rattle.std.specs.Option.{ok_or}
use Rattle.format.specs.declared.refusal.Refusal.{Refusal}
use Rattle.format.specs.declared.refusal.Refusal.TheVariants.{Unrepresentable}
use Rattle.sizes.specs.Sizes.{size_answer}
use Rattle.sizes.proofs.SizesLaws.{diff_is, diff_low, diff_high, diff_same}
use Rattle.std.proofs.Common.{rules}
use Rattle.sizes.proofs.uncompressed_separator_range_size.Goals as goal

-- the last of n times q
last_one : (q n : ℕ) → (n ≡ 0 → ⊥) → q * n ≡ q * (n - 1) + q
last_one q zero z = absurd (z refl)
last_one q (suc n) z =
    let e : n ≡ suc n - 1 = omega arith in
    let f : q * suc n ≡ q * n + q = omega arith in
    f ∙ ap (λ (x : ℕ). q * x + q) e

module _ (q sum n first kept : ℕ) (ek : kept ≡ min q first) where
  none_times : n ≡ 0 → sum + q * n ≡ sum
  none_times z = ap (λ (x : ℕ). sum + q * x) z ∙ omega arith

  none_is : n ≡ 0 → sum < 2 ^ 64 → (a m : ℕ) (r : Result ℕ Refusal) (x : Option ℕ) → r ≡ ok_or x Unrepresentable
      → SomeIff x (m ≤ a) (a - m) → sum + m ≡ a + (q - kept) → size_answer r ≡ whole_from_stored q sum n first
  unfolding whole_from_stored
  none_is z l a m r None e u d =
      ap size_answer e ∙ diff_low (sum + q * n) (q - first) (omega (arith, none_times z, u))
  none_is z l a m r (Some y) e u d =
      ap size_answer e
      ∙ diff_is (sum + q * n) (q - first) y (omega (arith, none_times z, u.0, u.1)) (omega (arith, u.1))

  module _ (z : n ≡ 0 → ⊥) where
    some_past : (q * (n - 1) < 2 ^ 64 → ⊥) → Answer.Refused 19 ≡ whole_from_stored q sum n first
    unfolding whole_from_stored
    some_past u = diff_high (sum + q * n) (q - first) (omega (arith, last_one q n z, u))

    some_is : (p : ℕ) (r : Result ℕ Refusal) → p ≡ q * (n - 1) → size_answer r ≡ difference (sum + p + kept) 0
        → size_answer r ≡ whole_from_stored q sum n first
    unfolding whole_from_stored
    some_is p r e er = er ∙ diff_same (sum + q * n) (q - first) (sum + p + kept) (omega (arith, last_one q n z))

ruleset laws = (none_is, some_past, some_is)

pub returns-then-n-eq0 : goal.returns-then-n-eq0
returns-then-n-eq0 c = search (rules, laws)

pub returns-in_default : goal.returns-in_default
returns-in_default c = search (rules, laws)

pub returns : goal.returns
returns c = record { answer = some_is _ _ _ _ _ c.min-kept.ensures c.if-n-eq0.false _ _ c.in-Some.ensures.1 c.total.ensures.answer }
