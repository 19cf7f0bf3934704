-- `branch_ops::choice::better_of` meets its contract, by its test.
-- Assumes nothing.
use Rattle.branch_ops.proofs.ChoiceLaws.{better_second, better-first}
use Rattle.std.proofs.Common.{rules}
use Rattle.branch_ops.proofs.choice.better_of.Goals as goal

pub returns-then-c-d : goal.returns-then-c-d
returns-then-c-d c = search (rules, better_second)

pub returns-else-c-d : goal.returns-else-c-d
returns-else-c-d c = search (rules, better-first)
