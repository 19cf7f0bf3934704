-- `edits::record::edit_at` meets its contract: the head and, for an Insert, the windows behind it hold the fields
-- that `edit_of` takes.
-- Assumes nothing.
use Rattle.edits.proofs.ReadingLaws.{kinds, inserted, updated, kept, place_lt, end_lt}
use Rattle.std.proofs.Common.{rules}
use Rattle.edits.proofs.record.edit_at.Goals as goal

ruleset laws = (kinds, inserted, updated, kept, place_lt, end_lt)

pub returns-in-Insert : goal.returns-in-Insert
returns-in-Insert c = search (rules, laws)

pub returns-in-Update : goal.returns-in-Update
returns-in-Update c = search (rules, laws)

pub returns-in_default : goal.returns-in_default
returns-in_default c = search (rules, laws)
