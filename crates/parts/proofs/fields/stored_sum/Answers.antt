-- `parts::fields::stored_sum` meets its contract: because it goes by the same test as `stored_sum`, and each turn
-- adds the stored length of one row more.
-- Assumes nothing.
use Rattle.std.proofs.Common.{rules}
use Rattle.parts.proofs.fields.stored_sum.Goals as goal
use Rattle.parts.proofs.PartLaws.{summed_start, summed_more, summed_end, summed_small, summed_many}

ruleset laws = (summed_start, summed_more, summed_end, summed_small, summed_many)

pub returns-then-n-gt-MOST_ENTRIES : goal.returns-then-n-gt-MOST_ENTRIES
returns-then-n-gt-MOST_ENTRIES c = search (rules, laws)

pub loop-i-preserved : goal.loop-i-preserved
loop-i-preserved c = search (rules, laws)

pub returns : goal.returns
returns c = search (rules, laws)

pub loop-i-init : goal.loop-i-init
loop-i-init c = search (rules, laws)
