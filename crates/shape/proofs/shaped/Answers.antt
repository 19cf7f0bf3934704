-- `shape::shaped` meets its contract: refusals 1 to 5 by `sized`, then 6 and 7 by `fitted`.
-- Assumes nothing.
use Rattle.facts.proofs.RefusalLaws.{err_handed}
use Rattle.shape.proofs.CheckedLaws.{shaping_answer}
use Rattle.std.proofs.Common.{rules}
use Rattle.shape.proofs.shaped.Goals as goal

pub returns-in_err-h-clause-answer : goal.returns-in_err-h-clause-answer
returns-in_err-h-clause-answer c = search (rules, shaping_answer)

pub returns-clause-answer : goal.returns-clause-answer
returns-clause-answer c = search (rules, shaping_answer)
