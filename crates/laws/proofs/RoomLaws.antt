-- Laws of a build that is refused with 14: none of 1 to 13 holds, so the new entries rise, and they do not fit.
-- In order: the tests before 14 and those from there on; what they say.
-- Assumes nothing.
use mathlib.Core.Bool.{Bool, cond, false, not, true}
use mathlib.Core.List.{List, [], ◌∷◌, ◌++◌, append_assoc}
use mathlib.Core.Option.{some}
use mathlib.Core.Path.{ap, refl, sym, ◌∙◌, ◌≡◌}
use Prim.Native.Nat.{ℕ}
use native.Mathlib.Omega.{arith}
use borrow.Author.Tests.{eqb-false, not-false}
use lib.Dec.{eqb, ltb}
use lib.ListN.{length}
use Rattle.format.specs.Bits.{AllBelow}
use Rattle.format.specs.Answer.{Answer, NoneHolds, Test, first, refuse}
use Rattle.format.specs.Page.{Entry, entries, page_tests}
use Rattle.format.specs.Normal.{fits}
use Rattle.format.specs.Edit.{Edit, any_outside, apply, ascending, read_record}
use Rattle.format.specs.Undo.{undo_record}
use Rattle.format.specs.Build.{base_tests, build, build_tests, edit_tests, edits_of, malformed}
use Rattle.facts.proofs.AnswerLaws.{Earlier, earlier_append, first-append, FirstHolds-first, NoneHolds_earlier, NoneHolds_right}
use Rattle.facts.proofs.PageLaws.{entries_sound}
use Rattle.facts.proofs.RecordLaws.{read_record-accepted}
use Rattle.facts.proofs.EditLaws.{length-apply, sound_apply}
use Rattle.facts.proofs.BuildLaws.{build-refused, edits_of-some, some-malformed}
use Rattle.laws.specs.Pages.{Rising}

-- the new entries of a build that is refused with 14
pub record Full (base rec : List ℕ) (es : List Edit) : Type 0 where
  pub edits : read_record rec ≡ some es
  pub rising : Rising (apply (entries base) es)
  pub full : fits (apply (entries base) es) ≡ false

earlier_base_tests : (base : List ℕ) → Earlier 14 (base_tests base)
unfolding base_tests page_tests
earlier_base_tests [] = tt
earlier_base_tests (x ∷ xs) = omega arith

-- 14 is given by the test for 14
fourteen : (b c : Bool) → ◌≡◌ {A = ℕ} (cond (not b) 14 (cond c 15 0)) 14 → b ≡ false
fourteen false c e = refl
fourteen true true e = absurd (omega arith)
fourteen true false e = absurd (omega arith)

module _ (base rec : List ℕ) (number : ℕ) (page undo : List ℕ) where
  old : List Entry
  old = entries base

  es : List Edit
  es = edits_of (read_record rec)

  -- 9 to 13
  middle : List Test
  middle =
      refuse 9 (not (eqb (length page) 4096))
      ∷ refuse 10 (malformed (read_record rec))
      ∷ refuse 11 (any_outside (length old) es)
      ∷ refuse 12 (eqb (length es) 0)
      ∷ refuse 13 (not (ascending (apply old es)))
      ∷ []

  -- 14 and 15
  last : List Test
  last = refuse 14 (not (fits (apply old es))) ∷ refuse 15 (ltb (length undo) (length (undo_record old (apply old es)))) ∷ []

  parts : build_tests base rec page undo ≡ (base_tests base ++ middle) ++ last
  unfolding build_tests edit_tests old es middle last
  parts = sym (append_assoc (base_tests base) middle last)

  earlier_middle : Earlier 14 middle
  unfolding middle
  earlier_middle = omega arith

  module _ (bb : AllBelow 256 base) (rb : AllBelow 256 rec) (e : (build base rec number page undo).answer ≡ Answer.Refused 14) where
    first_14 : first ((base_tests base ++ middle) ++ last) ≡ 14
    first_14 = ap first (sym parts) ∙ FirstHolds-first (build_tests base rec page undo) 14 (build-refused base rec number page undo 14 e).first_test

    before : NoneHolds (base_tests base ++ middle)
    before =
        NoneHolds_earlier 14 (base_tests base ++ middle) last
        (earlier_append 14 (base_tests base) middle (earlier_base_tests base) earlier_middle)
        first_14

    none_middle : NoneHolds middle
    none_middle = NoneHolds_right (base_tests base) middle before

    pub no_room : (l : List Edit) × Full base rec l
    unfolding middle last old first es
    no_room =
        let found : (l : List Edit) × (read_record rec ≡ some l) = some-malformed (read_record rec) none_middle.1.0 in
        let l : List Edit = found.0 in
        let q : edits_of (read_record rec) ≡ l = edits_of-some (read_record rec) l found.1 in
        let inside : any_outside (length (entries base)) l ≡ false =
        ap (any_outside (length (entries base))) (sym q) ∙ none_middle.1.1.0 in
        let one : length l ≡ 0 → ⊥ = eqb-false (length l) 0 (ap (λ (x : List Edit). eqb (length x) 0) (sym q) ∙ none_middle.1.1.1.0) in
        let rises : ascending (apply (entries base) l) ≡ true =
        ap (λ (x : List Edit). ascending (apply (entries base) x)) (sym q) ∙ not-false (ascending (apply (entries base) (edits_of (read_record rec)))) none_middle.1.1.1.1.0 in
        let full : fits (apply (entries base) l) ≡ false =
        ap (λ (x : List Edit). fits (apply (entries base) x)) (sym q)
        ∙ fourteen (fits (apply (entries base) (edits_of (read_record rec)))) (ltb (length undo) (length (undo_record old (apply old es))))
        (sym (first-append (base_tests base ++ middle) last before) ∙ first_14) in
        let rising : Rising (apply (entries base) l) =
        record {
          one = omega (arith, length-apply (entries base) l inside, one);
          sound = sound_apply (entries base) l (entries_sound base bb) (read_record-accepted rec l rb found.1).formed inside;
          rises = rises;
        } in
        (l, record { edits = found.1; rising = rising; full = full })
