-- `apply::State::lay_run` meets its contract: after the rows up to i the pass over the rest leaves what the pass over all
-- does (`Running`), and one that fell leaves it as it is.
-- Assumes nothing.
use mathlib.Core.Path.{◌≡◌}
use lib.ListN.{length}
use Prim.Native.Nat.{◌^◌, ◌≤◌, ◌<◌}
use Rattle.apply.proofs.PassLaws.{Running}
use Rattle.apply.proofs.State.lay_run.Given as goal

abbrev pub invariant-loop-i : goal.invariant-loop-i
invariant-loop-i l = (length l.t ≡ length l.initial.t) × (l.e ≤ 1024) × (l.initial.l.n < 2 ^ 30) × Running l.base l.initial.t l.initial.l l.a l.e l.i l.t l.l
