-- `branch_ops::writer::RecordWriter::push` meets its contract: its tests are those of `has_room`, and the bits that
-- are written are those of `with_bits`.
-- Assumes nothing.
use Rattle.branch_ops.proofs.WriterLaws.{
  many_writer,
  many_bytes,
  full_writer,
  full_bytes,
  push_room,
  push_near,
  push-fits,
  push_writer,
  push_bytes,
}
use Rattle.std.proofs.Common.{rules}
use Rattle.branch_ops.proofs.writer.RecordWriter.push.Goals as goal

ruleset laws = (many_writer, many_bytes, full_writer, full_bytes, push_room, push_near, push-fits, push_writer, push_bytes)

pub returns-then-self-ge-MOST_EDITS : goal.returns-then-self-ge-MOST_EDITS
returns-then-self-ge-MOST_EDITS c = search (rules, laws)

pub returns-then-min-bytes_for : goal.returns-then-min-bytes_for
returns-then-min-bytes_for c = search (rules, laws)

pub put_edit-requires : goal.put_edit-requires
put_edit-requires c = search (rules, laws)

pub overflow_add-result-2 : goal.overflow_add-result-2
overflow_add-result-2 c = search (rules, laws)

pub returns : goal.returns
returns c = search (rules, laws)
