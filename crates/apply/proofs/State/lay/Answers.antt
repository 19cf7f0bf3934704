-- `apply::State::lay` meets its contract: its two cases are those of `lay_one` in a pass that rises.
-- Assumes nothing.
use Rattle.apply.proofs.PassLaws.{lay_stop, lay_next}
use Rattle.std.proofs.Common.{rules}
use Rattle.apply.proofs.State.lay.Goals as goal

ruleset laws = (lay_stop, lay_next)

pub returns-then-not-may_follow-clause-answer : goal.returns-then-not-may_follow-clause-answer
returns-then-not-may_follow-clause-answer c = search (rules, laws)

pub returns-clause-answer : goal.returns-clause-answer
returns-clause-answer c = search (rules, laws)
