-- `builder::kept::Base::run_end` meets its contract: because each turn finds one row more that the base has behind the
-- one before.
-- Assumes nothing.
use Rattle.std.proofs.Common.{rules}
use Rattle.builder.proofs.kept.Base.run_end.Goals as goal
use Rattle.builder.proofs.OverLaws.{run-one, run_more}

ruleset laws = (run-one, run_more)

pub loop-e-init : goal.loop-e-init
loop-e-init c = search (rules, laws)

pub loop-e-preserved : goal.loop-e-preserved
loop-e-preserved c = (search (rules, laws), search rules)
