-- `parts::bits::put_word` meets its contract: because the 16 bytes are there, or eight bytes of their own hold the bits.
-- Assumes nothing.
use Rattle.std.proofs.Common.{rules}
use Rattle.parts.proofs.bits.put_word.Goals as goal
use Rattle.parts.proofs.BitLaws.{at_word, by_bytes}

ruleset laws = (at_word, by_bytes)

pub returns-then-i-saturating_sub : goal.returns-then-i-saturating_sub
returns-then-i-saturating_sub c = search (rules, laws)

pub returns : goal.returns
returns c = search (rules, laws)
