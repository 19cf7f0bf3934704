-- `node::reader::load_page` meets its contract: after 1 to 7, by `shaped`, the table is as it was; else it has the
-- page's entries, and 8 is answered where `load_rows` tells it.
-- Assumes nothing.
use mathlib.Core.Bool.{Bool, true, false}
use mathlib.Core.List.{List}
use mathlib.Core.Path.{◌≡◌, sym, subst, ◌∙◌}
use Prim.Native.Nat.{ℕ}
use native.Mathlib.Omega.{arith}
use Rattle.format.specs.Answer.{Answer}
use Rattle.format.specs.Page.{check_page, entries, key_of}
use Rattle.format.specs.Refusals.{refusal_number}
use Rattle.format.specs.declared.refusal.Refusal.{Refusal}
use Rattle.rows.specs.Rows.{with_rows}
use Rattle.rows.specs.declared.table.Row.{Row}
use Rattle.shape.specs.declared.Header.{Header}
use Rattle.std.specs.Prelude.{Result, Ok, Err}
use Rattle.shape.specs.Shape.{Early, ShapeFits, Shaping, SizesFit, header_meant, unordered}
use Rattle.node.specs.Reader.{loaded}
use Rattle.shape.proofs.TestsLaws.{refuse_8, accept}
use Rattle.node.proofs.LoadedLaws.{loaded-refused, loaded-unordered, loaded-accepted}
use Rattle.std.proofs.Common.{rules}
use Rattle.node.proofs.reader.load_page.Goals as goal

module _ (p : List ℕ) (c : Result Header Refusal) (s : Shaping p c) where
  module _ (x : Refusal) (e : c ≡ Err x) where
    early : Early p (refusal_number x)
    early = subst (Shaping p) e s

    too_soon : Answer.Refused (refusal_number x) ≡ check_page p
    too_soon = early.answered

    too_soon_kept : (t : List Row) → t ≡ loaded p t
    too_soon_kept t = sym (loaded-refused p t (refusal_number x) too_soon (λ z. omega (arith, early.early)))

  module _ (h : Header) (e : c ≡ Ok h) where
    shape : ShapeFits p h
    shape = subst (Shaping p) e s

    fits : SizesFit p h
    fits = shape.sizes

    module _ (r : Bool) (er : r ≡ unordered (key_of p) h.n) where
      unsorted : r ≡ true → Answer.Refused 8 ≡ check_page p
      unsorted q = refuse_8 p h shape (sym er ∙ q)

      good : r ≡ false → Answer.Value (header_meant h) ≡ check_page p
      good q = accept p h shape (sym er ∙ q)

      module _ (t u : List Row) (eu : u ≡ with_rows t 0 (entries p)) where
        unsorted_rows : r ≡ true → u ≡ loaded p t
        unsorted_rows q = eu ∙ sym (loaded-unordered p t (unsorted q))

        good_rows : r ≡ false → u ≡ loaded p t
        good_rows q = eu ∙ sym (loaded-accepted p t (header_meant h) (good q))

ruleset laws = (too_soon, too_soon_kept, fits, unsorted, unsorted_rows, good, good_rows)

pub returns-in_err-header-clause-written : goal.returns-in_err-header-clause-written
returns-in_err-header-clause-written c = search (rules, laws)

pub returns-then-load_rows-clause-answer : goal.returns-then-load_rows-clause-answer
returns-then-load_rows-clause-answer c = search (rules, laws)

pub returns-then-load_rows-clause-written : goal.returns-then-load_rows-clause-written
returns-then-load_rows-clause-written c = search (rules, laws)

pub returns-clause-answer : goal.returns-clause-answer
returns-clause-answer c = search (rules, laws)

pub returns-clause-written : goal.returns-clause-written
returns-clause-written c = search (rules, laws)
