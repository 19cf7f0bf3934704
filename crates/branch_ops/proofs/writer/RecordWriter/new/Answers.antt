-- `branch_ops::writer::RecordWriter::new` meets its contract: it is the writer that has written no edit.
-- Assumes nothing.
use Rattle.branch_ops.specs.Writer.{starting_writer}
use Rattle.std.proofs.Common.{rules}
use Rattle.branch_ops.proofs.writer.RecordWriter.new.Goals as goal

pub returns : goal.returns
unfolding starting_writer
returns c = search rules
