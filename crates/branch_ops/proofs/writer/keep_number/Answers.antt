-- `branch_ops::writer::keep_number` meets its contract: each field is below the power of two that the one above it is
-- multiplied by.
-- Assumes nothing.
use Rattle.std.proofs.Common.{rules}
use Rattle.branch_ops.proofs.writer.keep_number.Goals as goal
use Rattle.branch_ops.proofs.PutLaws.{keep-bits}

ruleset laws = (keep-bits)

pub returns : goal.returns
returns c = search (rules, laws)
