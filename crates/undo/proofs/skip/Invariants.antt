-- `undo::skip` meets its contract: because all rows from `at` up to j have keys below the key.
-- Assumes nothing.
use Rattle.keys.specs.Keys.{key_bits}
use Rattle.undo.proofs.skip.Given as goal
use Rattle.undo.proofs.WalkingLaws.{Passed}

abbrev pub invariant-loop-j : goal.invariant-loop-j
invariant-loop-j l = Passed l.new l.k l.at (key_bits l.key) l.j
