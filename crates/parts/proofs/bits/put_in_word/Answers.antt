-- `parts::bits::put_in_word` meets its contract: because the word that is stored has the bits of the other, and else those that it had.
-- Assumes nothing.
use Rattle.std.proofs.Common.{rules}
use Rattle.parts.proofs.bits.put_in_word.Goals as goal
use Rattle.parts.proofs.BitLaws.{in_word}

ruleset laws = (in_word)

pub returns : goal.returns
returns c = search (rules, laws)
