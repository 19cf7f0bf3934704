-- `parts::bits::put_number` meets its contract: because the number's low bits, moved to the front of a word, are its first.
-- Assumes nothing.
use Rattle.std.proofs.Common.{rules}
use Rattle.parts.proofs.bits.put_number.Goals as goal
use Rattle.parts.proofs.BitLaws.{number_many, number-none, number_put}

ruleset laws = (number_many, number-none, number_put)

pub returns-then-n-gt64 : goal.returns-then-n-gt64
returns-then-n-gt64 c = search (rules, laws)

pub returns-then-n-eq0 : goal.returns-then-n-eq0
returns-then-n-eq0 c = search (rules, laws)

pub returns : goal.returns
returns c = search (rules, laws)
