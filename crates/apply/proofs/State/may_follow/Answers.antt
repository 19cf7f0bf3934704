-- `apply::State::may_follow` meets its contract: the first key always may, and a later one where it is above the last.
-- Assumes nothing.
use Rattle.apply.proofs.PassLaws.{follows-first, follows_later}
use Rattle.std.proofs.Common.{rules}
use Rattle.apply.proofs.State.may_follow.Goals as goal

ruleset laws = (follows-first, follows_later)

pub returns-then-self-eq0 : goal.returns-then-self-eq0
returns-then-self-eq0 c = search (rules, laws)

pub returns-else-self-eq0 : goal.returns-else-self-eq0
returns-else-self-eq0 c = search (rules, laws)
