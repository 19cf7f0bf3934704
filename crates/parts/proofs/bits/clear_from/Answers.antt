-- `parts::bits::clear_from` meets its contract: because zeros go into the rest of the byte that is begun, and into
-- all bytes behind it.
-- Assumes nothing.
use Rattle.std.proofs.Common.{rules, arith}
use Rattle.std.proofs.lemmas.Grind.{common_steps}
use Rattle.parts.proofs.bits.clear_from.Goals as goal
use Rattle.parts.proofs.BitLaws.{cleared_past, cleared-whole, cleared_part}

ruleset laws = (cleared_past, cleared-whole, cleared_part)

pub returns-then-d-i : goal.returns-then-d-i
returns-then-d-i c = search (rules, laws)

pub returns-then-h-gt0 : goal.returns-then-h-gt0
returns-then-h-gt0 c = record {
  written =
      cleared_part _ _ _ _ _ c.if-d-i.false c.if-h-gt0.true c.bitwise_memcpy.ensures (search rules)
      (grind (arith, common_steps)) (search rules) (search rules);
}

pub returns-else-h-gt0 : goal.returns-else-h-gt0
returns-else-h-gt0 c = record {
  written =
      cleared-whole _ _ _ c.if-d-i.false c.if-h-gt0.false (grind (arith, common_steps)) (search rules) (search rules);
}
