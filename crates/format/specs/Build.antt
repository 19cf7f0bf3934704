-- Build: its answer, and the output page and the undo buffer as it leaves them. Document 01, "Undo record" (its end),
-- and the refusals 1 to 15.
-- In order: base_tests edits_of malformed edit_tests build_tests · Numbers Built refused accepted after_tests build.
-- Assumes nothing.
use Rattle.std.specs.Prelude.{ℕ, zero, suc, Bool, true, false, not, List, [], ◌∷◌, ◌++◌, length, drop, eqb, ltb}
use Rattle.std.proofs.Math.Option.{Option, none, some}
use Rattle.format.specs.Answer.{Answer, Test, refuse, first}
use Rattle.format.specs.Page.{Entry, page_tests, entries}
use Rattle.format.specs.Normal.{Choice, choice, keys, normal_page, fits}
use Rattle.format.specs.Edit.{Edit, read_record, apply, any_outside, ascending}
use Rattle.format.specs.Undo.{undo_record}

-- The refusals 1 to 8 of the base; none where it has no bytes, which means no base.
unfoldable pub base_tests : List ℕ → List Test
unfolding page_tests
base_tests [] = []
base_tests (x ∷ xs) = page_tests (x ∷ xs)

-- The edits that were read; none of a malformed record.
unfoldable pub edits_of : Option (List Edit) → List Edit
edits_of none = []
edits_of (some es) = es

-- The record was malformed.
unfoldable pub malformed : Option (List Edit) → Bool
malformed none = true
malformed (some es) = false

-- The refusals 11 to 15 of edits over the base's entries, where the undo buffer has room bytes.
unfoldable pub edit_tests : List Entry → List Edit → ℕ → List Test
unfolding any_outside ascending apply fits undo_record
edit_tests base es room =
    let new : List Entry = apply base es in
    refuse 11 (any_outside (length base) es)
    ∷ refuse 12 (eqb (length es) 0)
    ∷ refuse 13 (not (ascending new))
    ∷ refuse 14 (not (fits new))
    ∷ refuse 15 (ltb room (length (undo_record base new)))
    ∷ []

-- The refusals 1 to 15, in order.
unfoldable pub build_tests : List ℕ → List ℕ → List ℕ → List ℕ → List Test
unfolding base_tests malformed edits_of read_record entries edit_tests
build_tests base rec page undo =
    base_tests base
    ++ refuse 9 (not (eqb (length page) 4096))
    ∷ refuse 10 (malformed (read_record rec))
    ∷ edit_tests (entries base) (edits_of (read_record rec)) (length undo)

-- What an accepted build answers: n, m, q and bits of the new page, and the length of the undo record.
pub record Numbers : Type 0 where
  pub n : ℕ
  pub m : ℕ
  pub q : ℕ
  pub bits : ℕ
  pub undo : ℕ

-- The answer of a build, and lent memory after it.
pub record Built : Type 0 where
  pub answer : Answer Numbers
  pub page : List ℕ
  pub undo : List ℕ

-- A refused build: the number, and lent memory as it was.
unfoldable pub refused : ℕ → List ℕ → List ℕ → Built
refused r page undo = record { answer = Answer.Refused r; page = page; undo = undo }

-- An accepted build: the numbers, the normal page of the new entries, and the undo record, behind which the buffer
-- keeps its content.
unfoldable pub accepted : List Entry → List Entry → ℕ → List ℕ → Built
unfolding choice keys normal_page undo_record
accepted base new number undo =
    let c : Choice = choice (keys new) in
    let u : List ℕ = undo_record base new in
    record {
      answer = Answer.Value (record { n = length new; m = c.m; q = c.q; bits = c.bits; undo = length u });
      page = normal_page number new;
      undo = u ++ drop (length u) undo;
    }

-- The build refused with r, or the accepted one where r is 0.
unfoldable pub after_tests : ℕ → List Entry → List Entry → ℕ → List ℕ → List ℕ → Built
unfolding accepted refused
after_tests zero base new number page undo = accepted base new number undo
after_tests (suc r) base new number page undo = refused (suc r) page undo

-- Build, whole: over a base, with an edit record and a page number, into an output page and an undo buffer.
unfoldable pub build : List ℕ → List ℕ → ℕ → List ℕ → List ℕ → Built
unfolding after_tests first build_tests entries apply edits_of read_record
build base rec number page undo =
    after_tests (first (build_tests base rec page undo)) (entries base)
    (apply (entries base) (edits_of (read_record rec))) number page undo
