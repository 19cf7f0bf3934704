-- `edits::record::Kind::field_bits` meets its contract: each kind answers what `field_bits` says of it.
-- Assumes nothing.
use Rattle.edits.proofs.ReadingLaws.{kinds, field_insert, field_update, field-keep}
use Rattle.std.proofs.Common.{rules}
use Rattle.edits.proofs.record.Kind.field_bits.Goals as goal

ruleset laws = (kinds, field_insert, field_update, field-keep)

pub returns-in-Insert : goal.returns-in-Insert
returns-in-Insert c = search (rules, laws)

pub returns-in-Update : goal.returns-in-Update
returns-in-Update c = search (rules, laws)

pub returns-in_default : goal.returns-in_default
returns-in_default c = search (rules, laws)
