-- `edits::record::inside` meets its contract: each kind answers what `inside_head` says of it.
-- Assumes nothing.
use Rattle.edits.proofs.ReadingLaws.{kinds, inside_insert, inside_update, inside-keep, inside_empty}
use Rattle.std.proofs.Common.{rules}
use Rattle.edits.proofs.record.inside.Goals as goal

ruleset laws = (kinds, inside_insert, inside_update, inside-keep, inside_empty)

pub returns-in-Insert : goal.returns-in-Insert
returns-in-Insert c = search (rules, laws)

pub returns-in-Update : goal.returns-in-Update
returns-in-Update c = search (rules, laws)

pub returns-then-h : goal.returns-then-h
returns-then-h c = search (rules, laws)

pub returns-else-h : goal.returns-else-h
returns-else-h c = search (rules, laws)
