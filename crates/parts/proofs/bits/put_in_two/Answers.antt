-- `parts::bits::put_in_two` meets its contract: because what eight bytes do not hold stands at the start of the next.
-- Assumes nothing.
use Rattle.std.proofs.Common.{rules}
use Rattle.parts.proofs.bits.put_in_two.Goals as goal
use Rattle.parts.proofs.BitLaws.{in_two}

ruleset laws = (in_two)

pub returns-then-n-head : goal.returns-then-n-head
returns-then-n-head c = search (rules, laws)

pub returns : goal.returns
returns c = search (rules, laws)
