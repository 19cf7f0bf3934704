-- Laws of a record's refusals (`read_tests` of `specs/Record.antt`).
-- In order: which is the first, by what the code knows where it answers; what is so where there is none.
-- Assumes nothing.
use mathlib.Core.Bool.{Bool, true, false, not}
use mathlib.Core.List.{List}
use mathlib.Core.Option.{Option}
use mathlib.Core.Path.{◌≡◌, refl, sym, ◌∙◌}
use Prim.Native.Nat.{ℕ, ◌≤◌}
use native.Mathlib.Omega.{arith}
use borrow.Author.Tests.{not-true, not-false, ne_eqb, eqb-false}
use lib.ListN.{length}
use Rattle.format.specs.Answer.{NoneHolds, first}
use Rattle.format.specs.Build.{edits_of, malformed}
use Rattle.format.specs.Edit.{Edit, read_record, any_outside}
use Rattle.facts.proofs.AnswerLaws.{NoneHolds-first}
use Rattle.edits.specs.Record.{formed_in, count_of, read_tests}
use Rattle.edits.proofs.ReadingLaws.{length-record}

formed_option : (o : Option (List Edit)) → formed_in o ≡ not (malformed o)
unfolding formed_in
formed_option o = refl

-- ---- the first refusal

module _ (n : ℕ) (s : List ℕ) (f : Bool) (ef : f ≡ formed_in (read_record s)) where
  pub formed_yes : not f ≡ false → formed_in (read_record s) ≡ true
  formed_yes z = sym ef ∙ not-false f z

  was_formed : not f ≡ false → malformed (read_record s) ≡ false
  was_formed z = not-true (malformed (read_record s)) (sym (formed_option (read_record s)) ∙ formed_yes z)

  pub first_10 : not f ≡ true → 10 ≡ first (read_tests n s)
  unfolding read_tests first
  first_10 z =
      let e : malformed (read_record s) ≡ true =
      not-false (malformed (read_record s)) (sym (formed_option (read_record s)) ∙ sym ef ∙ not-true f z) in
      rw e

  module _ (fz : not f ≡ false) (g : Bool) (eg : g ≡ not (any_outside n (edits_of (read_record s)))) where
    pub first_11 : not g ≡ true → 11 ≡ first (read_tests n s)
    unfolding read_tests first
    first_11 z =
        let o : any_outside n (edits_of (read_record s)) ≡ true =
        not-false (any_outside n (edits_of (read_record s))) (sym eg ∙ not-true g z) in
        rw (was_formed fz, o)

    module _ (gz : not g ≡ false) (k : ℕ) (ek : k ≡ count_of s) where
      are_inside : any_outside n (edits_of (read_record s)) ≡ false
      are_inside = not-true (any_outside n (edits_of (read_record s))) (sym eg ∙ not-false g gz)

      edits_are : length (edits_of (read_record s)) ≡ k
      edits_are = length-record s (formed_yes fz) ∙ sym ek

      pub first_12 : k ≡ 0 → 12 ≡ first (read_tests n s)
      unfolding read_tests first
      first_12 z =
          let e : length (edits_of (read_record s)) ≡ 0 = edits_are ∙ z in
          rw (was_formed fz, are_inside, e)

      pub first_0 : (k ≡ 0 → ⊥) → 0 ≡ first (read_tests n s)
      unfolding read_tests first
      first_0 z =
          let e : length (edits_of (read_record s)) ≡ 0 → ⊥ = λ q. z (sym edits_are ∙ q) in
          rw (was_formed fz, are_inside, ne_eqb (length (edits_of (read_record s))) 0 e)

-- ---- where there is none

pub read_tests-none : (n : ℕ) (s : List ℕ) → first (read_tests n s) ≡ 0 → NoneHolds (read_tests n s)
unfolding read_tests
read_tests-none n s e = NoneHolds-first (read_tests n s) (omega arith, (omega arith, (omega arith, tt))) e

-- a record that is not refused: it is well-formed, its positions are inside, and it has an edit
pub record Accepted (n : ℕ) (s : List ℕ) : Type 0 where
  pub formed : malformed (read_record s) ≡ false
  pub inside : any_outside n (edits_of (read_record s)) ≡ false
  pub edits : 1 ≤ length (edits_of (read_record s))

pub accepted : (n : ℕ) (s : List ℕ) → first (read_tests n s) ≡ 0 → Accepted n s
unfolding read_tests
accepted n s e =
    let h : NoneHolds (read_tests n s) = read_tests-none n s e in
    let z : length (edits_of (read_record s)) ≡ 0 → ⊥ = eqb-false (length (edits_of (read_record s))) 0 h.1.1.0 in
    record { formed = h.0; inside = h.1.0; edits = omega arith }
