-- `branch_ops::writer::put_edit` meets its contract: each kind's bits are those of `edit_bits`.
-- Assumes nothing.
use Rattle.std.proofs.Common.{rules}
use Rattle.branch_ops.proofs.writer.put_edit.Goals as goal
use Rattle.branch_ops.proofs.PutLaws.{edit_inserted, edit_updated, edit_kept, room_insert}

ruleset laws = (edit_inserted, edit_updated, edit_kept, room_insert)

pub put_insert-requires : goal.put_insert-requires
put_insert-requires c = search (rules, laws)

pub returns-in-Insert : goal.returns-in-Insert
returns-in-Insert c = search (rules, laws)

pub returns-in-Update : goal.returns-in-Update
returns-in-Update c = search (rules, laws)

pub returns-in-KeepChunk : goal.returns-in-KeepChunk
returns-in-KeepChunk c = search (rules, laws)
