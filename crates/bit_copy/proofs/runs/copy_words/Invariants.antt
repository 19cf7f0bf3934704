-- `bit_copy::runs::copy_words` meets its contract: because after k turns k words have been moved, and a turn moves the
-- next. The measure is what is left of n.
-- Assumes nothing.
use Rattle.bit_copy.proofs.runs.copy_words.Given as goal
use mathlib.Core.Path.{◌≡◌}
use Prim.Native.Nat.{◌+◌, ◌*◌}
use lib.ListN.{length}
use Rattle.bit_copy.specs.Runs.{Moved}

abbrev pub invariant-loop-k : goal.invariant-loop-k
invariant-loop-k l = (length l.dst ≡ length l.initial.dst) × Moved l.initial.dst (8 * l.to) l.run.bytes.now (l.run.from + l.run.skip) (64 * l.k) l.dst
