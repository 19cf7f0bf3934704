-- `bit_copy::runs::copy_in_few` meets its contract: because the bytes are the first of a word, and are stored again with
-- the bits that were read.
-- Assumes nothing.
use Rattle.std.proofs.Common.{rules}
use Rattle.bit_copy.proofs.runs.copy_in_few.Goals as goal
use Rattle.bit_copy.proofs.WordLaws.{moved_in_few}

pub returns : goal.returns
returns c = search (rules, moved_in_few)
