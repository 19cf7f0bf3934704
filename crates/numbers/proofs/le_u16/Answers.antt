-- `numbers::le_u16` meets its contract: two bytes spell the first and 256 times the second (`unle_two`), and in the last
-- byte or past the end there is no second.
-- Assumes nothing.
use Rattle.numbers.proofs.LittleLaws.{byte_past, unle_two}
use Rattle.std.proofs.Common.{arith}
use Rattle.numbers.proofs.le_u16.Goals as goal

pub returns-then-i-saturating_sub : goal.returns-then-i-saturating_sub
returns-then-i-saturating_sub c = grind (arith, unle_two)

pub returns : goal.returns
returns c = grind (arith, unle_two, byte_past)
