-- `edits::record::padded` meets its contract: the window at bit p is 0 exactly where the bits that are left are
-- zeros.
-- Assumes nothing.
use Rattle.edits.proofs.ReadingLaws.{pad_long, pad_is}
use Rattle.std.proofs.Common.{rules}
use Rattle.edits.proofs.record.padded.Goals as goal

ruleset laws = (pad_long, pad_is)

pub returns-then-s-p-ge8 : goal.returns-then-s-p-ge8
returns-then-s-p-ge8 c = search (rules, laws)

pub returns : goal.returns
returns c = search (rules, laws)
