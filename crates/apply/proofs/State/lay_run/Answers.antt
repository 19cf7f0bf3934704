-- `apply::State::lay_run` meets its contract: after the rows up to i the pass over the rest leaves what the pass over all
-- does (`Running`), and one that fell leaves it as it is.
-- Assumes nothing.
use Rattle.apply.proofs.PassLaws.{run_start, run_more, run_stop, run_end, run-end_most}
use Rattle.std.proofs.Common.{rules}
use Rattle.apply.proofs.State.lay_run.Goals as goal

ruleset laws = (run_start, run_more, run_stop, run_end, run-end_most)

pub returns-in_err-l-clause-answer : goal.returns-in_err-l-clause-answer
returns-in_err-l-clause-answer c = search (rules, laws)

pub loop-i-preserved : goal.loop-i-preserved
loop-i-preserved c = search (rules, laws)

pub returns-clause-answer : goal.returns-clause-answer
returns-clause-answer c = search (rules, laws)
