-- `words::spliced` meets its contract: x less its bits from j on, and y without its first j.
-- Assumes nothing.
use Rattle.std.proofs.Common.{rules}
use Rattle.words.proofs.spliced.Goals as goal
use Rattle.words.proofs.WindowLaws.{cut_le, spliced-lt, spliced-bits, spliced_all}

ruleset laws = (cut_le, spliced-lt, spliced-bits, spliced_all)

pub returns-then-n-ge64 : goal.returns-then-n-ge64
returns-then-n-ge64 c = search (rules, laws)

pub returns : goal.returns
returns c = search (rules, laws)

pub overflow_add-result : goal.overflow_add-result
overflow_add-result c = search (rules, laws)
