-- `builder::kept::Base::run_end` meets its contract: because each turn finds one row more that the base has behind the
-- one before.
-- Assumes nothing.
use Rattle.builder.proofs.kept.Base.run_end.Given as goal
use Prim.Native.Nat.{◌<◌}
use Rattle.builder.specs.Passed.{RunOf}

abbrev pub invariant-loop-e : goal.invariant-loop-e
invariant-loop-e l = RunOf l.self l.rows l.i l.j l.e × (l.i < l.e)
