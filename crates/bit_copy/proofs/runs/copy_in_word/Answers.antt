-- `bit_copy::runs::copy_in_word` meets its contract: because the word that is stored has the bits that were read, and
-- else those that it had.
-- Assumes nothing.
use Rattle.std.proofs.Common.{rules}
use Rattle.bit_copy.proofs.runs.copy_in_word.Goals as goal
use Rattle.bit_copy.proofs.WordLaws.{moved_in_word}

pub returns : goal.returns
returns c = search (rules, moved_in_word)
