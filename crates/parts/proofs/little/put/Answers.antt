-- `parts::little::put` meets its contract: because the bytes that are copied are the number's first W, the least
-- significant first.
-- Assumes nothing.
use Rattle.std.proofs.Common.{rules}
use Rattle.parts.proofs.little.put.Goals as goal
use Rattle.parts.proofs.NumberLaws.{stored}

pub returns : goal.returns
returns g c = search (rules, stored)
