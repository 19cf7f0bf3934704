-- Laws of the refusals' numbers (`specs/Refusals.antt` of `format`): no two refusals have one number, and none has 0.
-- So an answer of the code that is known by its number is known.
-- In order: the refusal of a number; refusals; outcomes; what an answer holds.
-- Assumes nothing.
use mathlib.Core.Bool.{cond}
use mathlib.Core.Path.{◌≡◌, refl, sym, ap, ◌∙◌}
use Prim.Native.Nat.{ℕ, ◌≤◌}
use native.Mathlib.Omega.{arith}
use lib.Dec.{eqb}
use Rattle.std.specs.Prelude.{⊤, Result, Ok, Err, IsErr, IsErrAnd}
use Rattle.format.specs.Answer.{Answer, refusal_of}
use Rattle.format.specs.Refusals.{refusal_number, outcome_number, answer_of}
use Rattle.format.specs.declared.refusal.Refusal.{Refusal}
use Rattle.format.specs.declared.refusal.Refusal.TheVariants.{PageLength, NoEntries, CompressedCount, PrefixLength, BodyTooLong, OffsetsFall, EntryBits, KeysNotAscending, OutputLength, MalformedRecord, EditOutside, NoEdits, NewKeysNotAscending, NoRoom, UndoTooShort, IndexPastEnd, NotBelow, RangeOutside, Unrepresentable}

-- the refusal that has a number; 19 and any other: the last
named : ℕ → Refusal
named n =
    cond (eqb n 1) PageLength
    (cond (eqb n 2) NoEntries
    (cond (eqb n 3) CompressedCount
    (cond (eqb n 4) PrefixLength
    (cond (eqb n 5) BodyTooLong
    (cond (eqb n 6) OffsetsFall
    (cond (eqb n 7) EntryBits
    (cond (eqb n 8) KeysNotAscending
    (cond (eqb n 9) OutputLength
    (cond (eqb n 10) MalformedRecord
    (cond (eqb n 11) EditOutside
    (cond (eqb n 12) NoEdits
    (cond (eqb n 13) NewKeysNotAscending
    (cond (eqb n 14) NoRoom
    (cond (eqb n 15) UndoTooShort
    (cond (eqb n 16) IndexPastEnd
    (cond (eqb n 17) NotBelow
    (cond (eqb n 18) RangeOutside
    Unrepresentable)))))))))))))))))

named_number : (r : Refusal) → named (refusal_number r) ≡ r
unfolding named
named_number PageLength = refl
named_number NoEntries = refl
named_number CompressedCount = refl
named_number PrefixLength = refl
named_number BodyTooLong = refl
named_number OffsetsFall = refl
named_number EntryBits = refl
named_number KeysNotAscending = refl
named_number OutputLength = refl
named_number MalformedRecord = refl
named_number EditOutside = refl
named_number NoEdits = refl
named_number NewKeysNotAscending = refl
named_number NoRoom = refl
named_number UndoTooShort = refl
named_number IndexPastEnd = refl
named_number NotBelow = refl
named_number RangeOutside = refl
named_number Unrepresentable = refl

pub refusal_number_inj : (r s : Refusal) → refusal_number r ≡ refusal_number s → r ≡ s
refusal_number_inj r s e = sym (named_number r) ∙ ap named e ∙ named_number s

pub refusal_number_positive : (r : Refusal) → 1 ≤ refusal_number r
refusal_number_positive PageLength = omega arith
refusal_number_positive NoEntries = omega arith
refusal_number_positive CompressedCount = omega arith
refusal_number_positive PrefixLength = omega arith
refusal_number_positive BodyTooLong = omega arith
refusal_number_positive OffsetsFall = omega arith
refusal_number_positive EntryBits = omega arith
refusal_number_positive KeysNotAscending = omega arith
refusal_number_positive OutputLength = omega arith
refusal_number_positive MalformedRecord = omega arith
refusal_number_positive EditOutside = omega arith
refusal_number_positive NoEdits = omega arith
refusal_number_positive NewKeysNotAscending = omega arith
refusal_number_positive NoRoom = omega arith
refusal_number_positive UndoTooShort = omega arith
refusal_number_positive IndexPastEnd = omega arith
refusal_number_positive NotBelow = omega arith
refusal_number_positive RangeOutside = omega arith
refusal_number_positive Unrepresentable = omega arith

pub outcome_number_inj : (a b : Result ⊤ Refusal) → outcome_number a ≡ outcome_number b → a ≡ b
outcome_number_inj (Ok x) (Ok y) e = refl
outcome_number_inj (Ok x) (Err s) e = absurd (omega (arith, refusal_number_positive s))
outcome_number_inj (Err r) (Ok y) e = absurd (omega (arith, refusal_number_positive r))
outcome_number_inj (Err r) (Err s) e = ap Err (refusal_number_inj r s e)

-- the value of an answer; d where it is refused
unfoldable pub value_or : {A : Type 0} → A → Answer A → A
value_or d (Answer.Refused r) = d
value_or d (Answer.Value x) = x

module _ {A : Type 0} where
  -- equal refusals have one number
  pub refused_same : (r s : Refusal) → ◌≡◌ {A = Answer A} (Answer.Refused (refusal_number r)) (Answer.Refused (refusal_number s)) → r ≡ s
  unfolding refusal_of
  refused_same r s e = refusal_number_inj r s (ap refusal_of e)

  -- a value is no refusal
  pub value-refused : (x : A) (r : Refusal) → Answer.Value x ≡ Answer.Refused (refusal_number r) → ⊥
  unfolding refusal_of
  value-refused x r e = let z : 0 ≡ refusal_number r = ap refusal_of e in omega (arith, refusal_number_positive r)

-- an answer whose value tells the result tells all of it
pub answer_of_inj : {R A : Type 0} (f : R → A) → ((x y : R) → f x ≡ f y → x ≡ y) → (a b : Result R Refusal)
    → answer_of f a ≡ answer_of f b → a ≡ b
answer_of_inj f u (Ok x) (Ok y) e = ap Ok (u x y (cc))
answer_of_inj f u (Ok x) (Err s) e = absurd (value-refused (f x) s e)
answer_of_inj f u (Err r) (Ok y) e = absurd (value-refused (f y) r (sym e))
answer_of_inj f u (Err r) (Err s) e = ap Err (refused_same r s e)

-- what `?` hands on is the refusal that came
pub err_handed : {R : Type 0} (r : Result R Refusal) (e : Refusal) → IsErr r → IsErrAnd r (λ (x : Refusal). x ≡ e) → r ≡ Err e
err_handed (Ok x) e u v = absurd v
err_handed (Err x) e u v = ap Err v
