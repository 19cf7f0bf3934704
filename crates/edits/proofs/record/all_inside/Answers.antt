-- `edits::record::all_inside` meets its contract: after i edits inside the base one is outside exactly where one of
-- the rest is (`Placing`).
-- Assumes nothing.
use Rattle.edits.proofs.ReadingLaws.{kinds, placing_start, placing_bad, placing_next, placing_end}
use Rattle.std.proofs.Common.{rules}
use Rattle.edits.proofs.record.all_inside.Goals as goal

ruleset laws = (kinds, placing_start, placing_bad, placing_next, placing_end)

pub loop-init : goal.loop-init
loop-init c = search (rules, laws)

pub returns-then-not-inside : goal.returns-then-not-inside
returns-then-not-inside c = search (rules, laws)

pub loop-preserved : goal.loop-preserved
loop-preserved c = search (rules, laws)

pub returns : goal.returns
returns c = search (rules, laws)
