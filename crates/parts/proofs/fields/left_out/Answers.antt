-- `parts::fields::left_out` meets its contract: because it goes by the same test as `left_out`.
-- Assumes nothing.
use Rattle.std.proofs.Common.{rules}
use Rattle.parts.proofs.fields.left_out.Goals as goal
use Rattle.parts.proofs.RowLaws.{left_out_in, left_out_past}

ruleset laws = (left_out_in, left_out_past)

pub returns-then-i-m : goal.returns-then-i-m
returns-then-i-m c = search (rules, laws)

pub returns-else-i-m : goal.returns-else-i-m
returns-else-i-m c = search (rules, laws)
