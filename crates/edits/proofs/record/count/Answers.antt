-- `edits::record::count` meets its contract: the window at bit 0 begins with the ten bits of the count.
-- Assumes nothing.
use Rattle.edits.proofs.ReadingLaws.{count_is, count-lt}
use Rattle.std.proofs.Common.{rules}
use Rattle.edits.proofs.record.count.Goals as goal

ruleset laws = (count_is, count-lt)

pub returns : goal.returns
returns c = search (rules, laws)
