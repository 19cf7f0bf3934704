-- `numbers::le_u32` meets its contract: by the four bytes, or by `le_u16` where not all are there; past the end they
-- spell 0.
-- Assumes nothing.
use Rattle.numbers.proofs.LittleLaws.{byte_past, unle_two, unle-four}
use Rattle.std.proofs.Common.{arith}
use Rattle.numbers.proofs.le_u32.Goals as goal

pub returns-then-i-saturating_sub : goal.returns-then-i-saturating_sub
returns-then-i-saturating_sub c = grind (arith, unle-four, unle_two)

pub returns : goal.returns
returns c = grind (arith, unle-four, unle_two, byte_past)
