-- `words::across` meets its contract: x moved so far that its last h bits come first, and y behind them.
-- Assumes nothing.
use Rattle.std.proofs.Common.{rules}
use Rattle.words.proofs.across.Goals as goal
use Rattle.words.proofs.WindowLaws.{across_lt, across-bits, across_all}

ruleset laws = (across_lt, across-bits, across_all)

pub returns-then-h-ge64 : goal.returns-then-h-ge64
returns-then-h-ge64 c = search (rules, laws)

pub returns : goal.returns
returns c = search (rules, laws)

pub overflow_add-result : goal.overflow_add-result
overflow_add-result c = search (rules, laws)
