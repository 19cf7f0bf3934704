-- An answer, and the tests behind it in the order in which they are made. Document 01, "Refusal numbers".
-- In order: Answer refusal_of afterwards · Test refuse first unless some · NoneHolds FirstHolds.
-- Assumes nothing.
use Rattle.std.specs.Prelude.{◌≡◌, ℕ, zero, suc, Bool, true, false, cond, ◌||◌, List, [], ◌∷◌, ◌++◌}

-- A value, or a refusal by its number in document 01.
pub data Answer (A : Type 0) : Type 0 where
  Refused : ℕ → Answer A
  Value : A → Answer A

-- The number of the refusal; 0 for a value.
unfoldable pub refusal_of : {A : Type 0} → Answer A → ℕ
refusal_of (Refused r) = r
refusal_of (Value v) = 0

-- Lent memory after an answer: what is written of the value; after a refusal, what it held before.
unfoldable pub afterwards : {A : Type 0} → Answer A → (A → List ℕ) → List ℕ → List ℕ
afterwards (Refused r) written was = was
afterwards (Value v) written was = written v

-- A refusal's number, and whether its condition holds.
pub record Test : Type 0 where
  pub number : ℕ
  pub holds : Bool

-- The test for refusal r.
abbrev pub refuse : ℕ → Bool → Test
refuse r condition = record { number = r; holds = condition }

-- The number of the first test that holds; 0 where none does.
unfoldable pub first : List Test → ℕ
first [] = 0
first (t ∷ ts) = cond t.holds t.number (first ts)

-- The refusal r, or the value where r is 0.
unfoldable pub unless : {A : Type 0} → ℕ → A → Answer A
unless zero v = Answer.Value v
unless (suc r) v = Answer.Refused (suc r)

-- f holds at some i below n.
unfoldable pub some : ℕ → (ℕ → Bool) → Bool
some zero f = false
some (suc n) f = f n || some n f

-- No test holds.
abbrev pub NoneHolds : List Test → Type 0
NoneHolds [] = Unit {0}
NoneHolds (t ∷ ts) = (t.holds ≡ false) × NoneHolds ts

-- r is the number of a test that holds, and none before it does.
pub record FirstHolds (ts : List Test) (r : ℕ) : Type 0 where
  pub before : List Test
  pub test : Test
  pub after : List Test
  pub order : ts ≡ before ++ test ∷ after
  pub none : NoneHolds before
  pub holds : test.holds ≡ true
  pub number : test.number ≡ r
