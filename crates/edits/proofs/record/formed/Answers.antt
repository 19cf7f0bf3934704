-- `edits::record::formed` meets its contract: after i edits the record is well-formed exactly where the rest is
-- (`Forming`), and one that is over 37,085 bytes long is not.
-- Assumes nothing.
use Rattle.edits.proofs.ReadingLaws.{kinds, record_short, record_long, forming_start, forming_bad, forming_next, forming_end}
use Rattle.std.proofs.Common.{rules}
use Rattle.edits.proofs.record.formed.Goals as goal

ruleset laws = (kinds, record_short, record_long, forming_start, forming_bad, forming_next, forming_end)

pub returns-then-s-lt2 : goal.returns-then-s-lt2
returns-then-s-lt2 c = search (rules, laws)

pub returns-then-s-gt-LONGEST_RECORD : goal.returns-then-s-gt-LONGEST_RECORD
returns-then-s-gt-LONGEST_RECORD c = search (rules, laws)

pub loop-init : goal.loop-init
loop-init c = search (rules, laws)

pub returns-in_default : goal.returns-in_default
returns-in_default c = search (rules, laws)

pub loop-preserved : goal.loop-preserved
loop-preserved c = search (rules, laws)

pub returns : goal.returns
returns c = search (rules, laws)
