-- `words::nine` meets its contract: eight bytes and the ninth hold the 64 bits (`nine_bytes`).
-- Assumes nothing.
use Rattle.words.proofs.WindowLaws.{nine_bytes}
use Rattle.std.proofs.Common.{rules}
use Rattle.words.proofs.nine.Goals as goal

pub returns : goal.returns
returns c = search (rules, nine_bytes)
