-- `builder::kept::Base::is_kept` meets its contract: because its tests are those of `kept`.
-- Assumes nothing.
use Rattle.std.proofs.Common.{rules}
use Rattle.builder.proofs.kept.Base.is_kept.Goals as goal
use Rattle.builder.proofs.OverLaws.{kept_plain, kept_no_source, kept_other_length, kept-last}

ruleset laws = (kept_plain, kept_no_source, kept_other_length, kept-last)

pub returns-then-rows-i : goal.returns-then-rows-i
returns-then-rows-i c = search (rules, laws)

pub returns-then-self-s : goal.returns-then-self-s
returns-then-self-s c = search (rules, laws)

pub returns-then-end-start_offset : goal.returns-then-end-start_offset
returns-then-end-start_offset c = search (rules, laws)

pub returns-else-end-start_offset : goal.returns-else-end-start_offset
returns-else-end-start_offset c = search (rules, laws)
