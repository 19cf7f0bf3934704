-- `edits::record::head_at` meets its contract: the window at bit p begins with the 44 bits of the fields.
-- Assumes nothing.
use Rattle.edits.proofs.ReadingLaws.{head_is}
use Rattle.std.proofs.Common.{rules}
use Rattle.edits.proofs.record.head_at.Goals as goal

ruleset laws = (head_is)

pub returns : goal.returns
returns c = search (rules, laws)
