-- `build::build` meets its contract: because what a part refuses is the first that the definition's tests refuse, and after an
-- accepted plan `finish` writes the definition's page and record.
-- Assumes nothing.
use Rattle.std.proofs.Common.{rules}
use Rattle.build.proofs.build.Goals as goal
use mathlib.Core.List.{List, ◌++◌}
use mathlib.Core.Path.{◌≡◌, ap, subst, ◌∙◌}
use Prim.Native.Nat.{ℕ}
use lib.ListN.{length, drop, take}
use Rattle.format.specs.Answer.{Answer}
use Rattle.format.specs.Build.{build}
use Rattle.format.specs.Normal.{normal_page}
use Rattle.format.specs.Refusals.{refusal_number}
use Rattle.format.specs.declared.refusal.Refusal.{Refusal}
use Rattle.shape.specs.declared.Header.{Header}
use Rattle.std.specs.Prelude.{Result, Ok, Err, IsErr, IsErrAnd}
use Rattle.facts.proofs.RefusalLaws.{err_handed}
use Rattle.rows.specs.Rows.{rows}
use Rattle.rows.specs.declared.table.Row.{Row}
use Rattle.build.specs.declared.Numbers.{Numbers}
use Rattle.build.specs.Built.{BaseKnown, Held, Old, Planned, Planning, Ready, built_answer, numbers_meant}
use Rattle.build.proofs.BuiltLaws.{Left, left_accepted, left_base, left_page, left_plan, old_rows, ready}

module _ (base rec : List ℕ) (number : ℕ) (page undo : List ℕ) (old : List Row)
    (x : Result Header Refusal) (k : BaseKnown base x old) where
  module _ (r : Refusal) (e : x ≡ Err r) where
    by_base : Left (build base rec number page undo) (Answer.Refused (refusal_number r)) page undo
    by_base =
        let f : BaseKnown base (Err r) old = subst (λ (y : Result Header Refusal). BaseKnown base y old) e k in
        left_base base rec number page undo (refusal_number r) f.0 f.1

    -- what `?` hands on
    base_answer : (w : Result Numbers Refusal) → IsErr w → IsErrAnd w (λ (z : Refusal). z ≡ r)
        → built_answer w ≡ (build base rec number page undo).answer
    base_answer w a b = ap built_answer (err_handed w r a b) ∙ by_base.answer_is

    base_page : page ≡ (build base rec number page undo).page
    base_page = by_base.page_is

    base_undo : undo ≡ (build base rec number page undo).undo
    base_undo = by_base.undo_is

  module _ (h : Header) (e : x ≡ Ok h) where
    held : Held base h old
    held = subst (λ (y : Result Header Refusal). BaseKnown base y old) e k

    old_held : Old h.n old
    old_held = old_rows base rec number page undo h old held

    module _ (z : length page ≡ 4096 → ⊥) where
      page_answer : Answer.Refused 9 ≡ (build base rec number page undo).answer
      page_answer = (left_page base rec number page undo h old held z).answer_is

      page-page : page ≡ (build base rec number page undo).page
      page-page = (left_page base rec number page undo h old held z).page_is

      page_undo : undo ≡ (build base rec number page undo).undo
      page_undo = (left_page base rec number page undo h old held z).undo_is

    module _ (size : length page ≡ 4096) (new : List Row) (scratch : List ℕ)
        (y : Result Numbers Refusal)
        (p : Planning (rows h.n old) rec (length undo) y new scratch) where
      module _ (r : Refusal) (ey : y ≡ Err r) where
        by_plan : Left (build base rec number page undo) (Answer.Refused (refusal_number r)) page undo
        by_plan =
            let f : Planning (rows h.n old) rec (length undo) (Err r) new scratch =
            subst (λ (w : Result Numbers Refusal). Planning (rows h.n old) rec (length undo) w new scratch) ey p in
            left_plan base rec number page undo h old held size (refusal_number r) f.0 f.1

        plan_answer : (w : Result Numbers Refusal) → IsErr w → IsErrAnd w (λ (z : Refusal). z ≡ r)
            → built_answer w ≡ (build base rec number page undo).answer
        plan_answer w a b = ap built_answer (err_handed w r a b) ∙ by_plan.answer_is

        plan-page : page ≡ (build base rec number page undo).page
        plan-page = by_plan.page_is

        plan_undo : undo ≡ (build base rec number page undo).undo
        plan_undo = by_plan.undo_is

      module _ (v : Numbers) (ey : y ≡ Ok v) where
        as_planned : Planned (rows h.n old) rec (length undo) v new scratch
        as_planned = subst (λ (w : Result Numbers Refusal). Planning (rows h.n old) rec (length undo) w new scratch) ey p

        can_finish : Ready base h v new page scratch undo
        can_finish = ready base rec number page undo h old held size v new scratch as_planned

        module _ (page' undo' : List ℕ) (ep : page' ≡ normal_page number (rows v.n new))
            (eu : undo' ≡ take v.undo scratch ++ drop v.undo undo) where
          done : Left (build base rec number page undo) (Answer.Value (numbers_meant v)) page' undo'
          done = left_accepted base rec number page undo h old held size v new scratch as_planned page' undo' ep eu

          done_answer : Answer.Value (numbers_meant v) ≡ (build base rec number page undo).answer
          done_answer = done.answer_is

          done_page : page' ≡ (build base rec number page undo).page
          done_page = done.page_is

          done_undo : undo' ≡ (build base rec number page undo).undo
          done_undo = done.undo_is

ruleset laws = (old_held, page_answer, page-page, page_undo)

pub load_base-requires : goal.load_base-requires
load_base-requires c = search (rules, laws)

pub plan-requires : goal.plan-requires
plan-requires c = search (rules, laws)

pub finish-requires : goal.finish-requires
finish-requires c =
    can_finish _ _ 0 _ _ _ _ c.load_base.ensures.known _ c.in_ok-h.was (search rules) _ _ _ c.plan.ensures.known _
    c.in_ok-v.was

pub returns-in_err-h : goal.returns-in_err-h
returns-in_err-h c =
    record {
      answer =
          base_answer _ _ _ _ _ _ _ c.load_base.ensures.known _ c.in_err-h.was _ c.from_residual.ensures.0
          c.from_residual.ensures.1;
      page = base_page _ _ _ _ _ _ _ c.load_base.ensures.known _ c.in_err-h.was;
      undo = base_undo _ _ _ _ _ _ _ c.load_base.ensures.known _ c.in_err-h.was;
    }

pub returns-then-page-ne-PAGE_SIZE : goal.returns-then-page-ne-PAGE_SIZE
returns-then-page-ne-PAGE_SIZE c = search (rules, laws)

pub returns-in_err-v : goal.returns-in_err-v
returns-in_err-v c =
    record {
      answer =
          plan_answer _ _ _ _ _ _ _ c.load_base.ensures.known _ c.in_ok-h.was (search rules) _ _ _ c.plan.ensures.known _
          c.in_err-v.was _ c.from_residual-in_err-v.ensures.0 c.from_residual-in_err-v.ensures.1;
      page =
          plan-page _ _ _ _ _ _ _ c.load_base.ensures.known _ c.in_ok-h.was (search rules) _ _ _ c.plan.ensures.known _
          c.in_err-v.was;
      undo =
          plan_undo _ _ _ _ _ _ _ c.load_base.ensures.known _ c.in_ok-h.was (search rules) _ _ _ c.plan.ensures.known _
          c.in_err-v.was;
    }

pub returns : goal.returns
returns c =
    record {
      answer =
          done_answer _ _ _ _ _ _ _ c.load_base.ensures.known _ c.in_ok-h.was (search rules) _ _ _ c.plan.ensures.known _
          c.in_ok-v.was _ _ c.finish.ensures.page c.finish.ensures.undo;
      page =
          done_page _ _ _ _ _ _ _ c.load_base.ensures.known _ c.in_ok-h.was (search rules) _ _ _ c.plan.ensures.known _
          c.in_ok-v.was _ _ c.finish.ensures.page c.finish.ensures.undo;
      undo =
          done_undo _ _ _ _ _ _ _ c.load_base.ensures.known _ c.in_ok-h.was (search rules) _ _ _ c.plan.ensures.known _
          c.in_ok-v.was _ _ c.finish.ensures.page c.finish.ensures.undo;
    }
