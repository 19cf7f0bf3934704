-- `branch_ops::choice::choose` meets its contract: after i keys the pass over the rest finds what the pass over all
-- does (`Choosing`).
-- Assumes nothing.
use Rattle.branch_ops.proofs.ChoiceLaws.{choosing_start, choosing_next, end_taken, end_refused, too_many, no_rows}
use Rattle.std.proofs.Common.{rules}
use Rattle.branch_ops.proofs.choice.choose.Goals as goal

ruleset laws = (choosing_start, choosing_next, end_taken, end_refused, too_many, no_rows)

pub returns-then-n-gt-MOST_ENTRIES : goal.returns-then-n-gt-MOST_ENTRIES
returns-then-n-gt-MOST_ENTRIES c = search (rules, laws)

pub returns-then-n-eq0 : goal.returns-then-n-eq0
returns-then-n-eq0 c = search (rules, laws)

pub loop-i-init : goal.loop-i-init
loop-i-init c = search (rules, laws)

pub loop-i-preserved : goal.loop-i-preserved
loop-i-preserved c = search (rules, laws)

pub returns-then-not-body_fits : goal.returns-then-not-body_fits
returns-then-not-body_fits c = search (rules, laws)

pub returns : goal.returns
returns c = search (rules, laws)
