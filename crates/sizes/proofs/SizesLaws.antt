-- Laws of the size formulas (format's specs/Sizes.antt), in the steps in which 64-bit numbers answer them.
-- In order: a difference; a size that is checked; products and quotients.
-- Assumes nothing.
use mathlib.Core.Path.{◌≡◌, sym, ap, ◌∙◌}
use Prim.Native.Nat.{ℕ, ◌+◌, ◌-◌, ◌*◌, ◌/◌, ◌^◌, ◌≤◌, ◌<◌}
use native.Mathlib.Nat.{div-lt_iff_lt-mul}
use native.Mathlib.Omega.{arith}
use native.Mathlib.Decide.{dec_le}
use Rattle.format.specs.Answer.{Answer}
use Rattle.format.specs.Sizes.{difference}
use Rattle.facts.proofs.SizesLaws.{difference-value, difference_below, difference_past}
use Rattle.std.specs.Prelude.{Option, Some, None, Result, SomeIff}
use Rattle.std.specs.Option.{ok_or}
use Rattle.format.specs.declared.refusal.Refusal.{Refusal}
use Rattle.format.specs.declared.refusal.Refusal.TheVariants.{Unrepresentable}
use Rattle.sizes.specs.Sizes.{size_answer}

-- ---- a difference

pub diff_is : (plus minus r : ℕ) → r + minus ≡ plus → r < 2 ^ 64 → Answer.Value r ≡ difference plus minus
diff_is plus minus r e h =
    let d : plus - minus ≡ r = omega arith in
    sym (difference-value plus minus (omega arith) (omega arith) ∙ ap (λ (n : ℕ). Answer.Value n) d)

pub diff_low : (plus minus : ℕ) → plus < minus → Answer.Refused 19 ≡ difference plus minus
diff_low plus minus h = sym (difference_below plus minus h)

pub diff_high : (plus minus : ℕ) → 2 ^ 64 + minus ≤ plus → Answer.Refused 19 ≡ difference plus minus
diff_high plus minus h = sym (difference_past plus minus (omega arith) (omega arith))

-- the same on both sides
pub diff_same : (plus minus r : ℕ) → r + minus ≡ plus → difference r 0 ≡ difference plus minus
diff_same plus minus r e = go (dec_le (2 ^ 64) r)
  where
    go : Dec (2 ^ 64 ≤ r) → difference r 0 ≡ difference plus minus
    go (yes h) = sym (diff_high r 0 (omega arith)) ∙ diff_high plus minus (omega arith)
    go (no h) = sym (diff_is r 0 r (omega arith) (omega (arith, h))) ∙ diff_is plus minus r e (omega (arith, h))

-- ---- a size that is checked

-- it is there exactly where it fits, and else 19 is the answer
pub size_checked : (r : Result ℕ Refusal) (x : Option ℕ) (s plus minus : ℕ) → r ≡ ok_or x Unrepresentable
    → SomeIff x (s < 2 ^ 64) s → s + minus ≡ plus → size_answer r ≡ difference plus minus
size_checked r None s plus minus q u e = ap size_answer q ∙ diff_high plus minus (omega (arith, u))
size_checked r (Some y) s plus minus q u e =
    ap size_answer q ∙ diff_is plus minus y (omega (arith, u.1)) (omega (arith, u.0, u.1))

-- one that does not fit keeps a greater one from fitting
pub size_past : (s plus minus : ℕ) → (s < 2 ^ 64 → ⊥) → s + minus ≤ plus → Answer.Refused 19 ≡ difference plus minus
size_past s plus minus u e = diff_high plus minus (omega (arith, u))

-- ---- products and quotients

pub times_le : (a b x : ℕ) → (b ≡ 0 → ⊥) → a ≤ x / b → a * b ≤ x
times_le a b x z h = go (dec_le (a * b) x)
  where
    go : Dec (a * b ≤ x) → a * b ≤ x
    go (yes l) = l
    go (no n) =
        let l : x < a * b = omega (arith, n) in
        let k : x / b < a = (div-lt_iff_lt-mul {k = b} {x = x} {y = a} (omega (arith, z))).1 l in
        absurd (omega arith)

pub times_past : (a b x : ℕ) → (b ≡ 0 → ⊥) → x / b < a → x < a * b
times_past a b x z h = (div-lt_iff_lt-mul {k = b} {x = x} {y = a} (omega (arith, z))).0 h
