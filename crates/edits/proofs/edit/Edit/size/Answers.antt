-- `edits::edit::Edit::size` meets its contract: the kind and the fields have these bits together.
-- Assumes nothing.
use Rattle.edits.proofs.ReadingLaws.{size_insert, size_update, size-keep}
use Rattle.std.proofs.Common.{arith}
use Rattle.edits.proofs.edit.Edit.size.Goals as goal

pub returns-in-Insert : goal.returns-in-Insert
returns-in-Insert c = record { answer = (size_insert _ _ _ c.in-Insert.is, omega arith) }

pub returns-in-Update : goal.returns-in-Update
returns-in-Update c = record { answer = (size_update _ _ _ c.in-Update.is, omega arith) }

pub returns-in-KeepChunk : goal.returns-in-KeepChunk
returns-in-KeepChunk c = record { answer = (size-keep _ _ _ c.in-KeepChunk.is, omega arith) }
