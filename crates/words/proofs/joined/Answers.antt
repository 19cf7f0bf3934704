-- `words::joined` meets its contract: x less its bits from k on, and y moved behind what is left.
-- Assumes nothing.
use Rattle.words.proofs.WindowLaws.{cut_le, joined-lt, joined-bits, joined_all}
use Rattle.std.proofs.Common.{rules}
use Rattle.words.proofs.joined.Goals as goal

ruleset laws = (cut_le, joined-lt, joined-bits, joined_all)

pub returns-then-j-ge64 : goal.returns-then-j-ge64
returns-then-j-ge64 c = search (rules, laws)

pub returns : goal.returns
returns c = search (rules, laws)

pub overflow_add-result : goal.overflow_add-result
overflow_add-result c = search (rules, laws)
