-- `builder::page::BranchNodeBuilder::push_next` meets its contract: because a run of kept rows has their bits side
-- by side, and any other row has its own.
-- Assumes nothing.
use Rattle.std.proofs.Common.{rules}
use Rattle.builder.proofs.page.BranchNodeBuilder.push_next.Goals as goal
use Rattle.builder.proofs.PushLaws.{pushed_room}
use Rattle.builder.proofs.OverLaws.{run_to, run_from, pushed_run, kept-true, pushed_own}

ruleset laws = (pushed_room, run_to, run_from, pushed_run, kept-true, pushed_own)

pub push_chunk-requires-clause-j_bound : goal.push_chunk-requires-clause-j_bound
push_chunk-requires-clause-j_bound c = (search (rules, laws), search (rules, laws))

pub returns-then-is_kept : goal.returns-then-is_kept
returns-then-is_kept c = search (rules, laws)

pub push-requires : goal.push-requires
push-requires c = search (rules, laws)

pub returns : goal.returns
returns c = search (rules, laws)
