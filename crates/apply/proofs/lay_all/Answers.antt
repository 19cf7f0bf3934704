-- `apply::lay_all` meets its contract: after i edits the pass over the items of the rest leaves what the pass over all
-- does (`Applying`), and one that fell leaves it as it is.
-- Assumes nothing.
use Rattle.apply.proofs.PassLaws.{applying_start, applying_next, applying_stop, applying_end}
use Rattle.std.proofs.Common.{rules}
use Rattle.apply.proofs.lay_all.Goals as goal

ruleset laws = (applying_start, applying_next, applying_stop, applying_end)

pub loop-init : goal.loop-init
loop-init c = search (rules, laws)

pub returns-in_err-l : goal.returns-in_err-l
returns-in_err-l c = search (rules, laws)

pub loop-preserved : goal.loop-preserved
loop-preserved c = (
  search rules,
  search rules,
  search rules,
  applying_next _ _ _ _ _ _ _ _ c.loop.invariant.3 (search rules) _ _ _ c.edit_at-e.ensures.answer.0
      c.lay_edit.ensures.answer _ c.in_ok-l.was (search rules) _ c.size-p.ensures.answer.0,
)

pub returns : goal.returns
returns c = search (rules, laws)
