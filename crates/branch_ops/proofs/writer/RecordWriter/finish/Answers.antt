-- `branch_ops::writer::RecordWriter::finish` meets its contract: its tests are those of `has_end`, and padding and
-- count are written where `finished_bytes` has them.
-- Assumes nothing.
use Rattle.branch_ops.proofs.WriterLaws.{
  short_end,
  past_end,
  finish-sub,
  finish-fits,
  finish_pad,
  finish_bytes,
  size_answer_lem,
}
use Rattle.std.proofs.Common.{rules}
use Rattle.branch_ops.proofs.writer.RecordWriter.finish.Goals as goal

ruleset laws = (short_end, past_end, finish-sub, finish-fits, finish_pad, finish_bytes, size_answer_lem)

pub returns-then-room-lt2 : goal.returns-then-room-lt2
returns-then-room-lt2 c = search (rules, laws)

pub returns-then-room-size : goal.returns-then-room-size
returns-then-room-size c = search (rules, laws)

pub overflow_sub-size : goal.overflow_sub-size
overflow_sub-size c = search (rules, laws)

pub returns : goal.returns
returns c = search (rules, laws)
