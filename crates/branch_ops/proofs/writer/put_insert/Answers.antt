-- `branch_ops::writer::put_insert` meets its contract: its kind, its key and its pointer stand one behind the other.
-- Assumes nothing.
use Rattle.std.proofs.Common.{rules}
use Rattle.branch_ops.proofs.writer.put_insert.Goals as goal
use Rattle.branch_ops.proofs.PutLaws.{put_insert_lem}

ruleset laws = (put_insert_lem)

pub returns : goal.returns
returns c = search (rules, laws)
