-- `edits::record::key_at` meets its contract: the four windows are the 256 bits behind the kind.
-- Assumes nothing.
use Rattle.edits.proofs.ReadingLaws.{key-words}
use Rattle.std.proofs.Common.{rules}
use Rattle.edits.proofs.record.key_at.Goals as goal

ruleset laws = (key-words)

pub returns : goal.returns
returns c = search (rules, laws)
