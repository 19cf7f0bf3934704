-- `builder::page::BranchNodeBuilder::push_chunk` meets its contract: because it copies the run's bits behind the
-- entries before.
-- Assumes nothing.
use Rattle.std.proofs.Common.{rules}
use Rattle.builder.proofs.page.BranchNodeBuilder.push_chunk.Goals as goal
use Rattle.builder.proofs.OverLaws.{moved}

pub returns-clause-written : goal.returns-clause-written
returns-clause-written c = search (rules, moved)
