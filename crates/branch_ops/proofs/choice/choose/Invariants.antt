-- `branch_ops::choice::choose` meets its contract: after i keys the pass over the rest finds what the pass over all
-- does (`Choosing`).
-- Assumes nothing.
use Prim.Native.Nat.{◌*◌, ◌≤◌}
use Rattle.format.specs.Normal.{keys}
use Rattle.rows.specs.Rows.{rows}
use Rattle.branch_ops.proofs.ChoiceLaws.{Choosing}
use Rattle.branch_ops.proofs.choice.choose.Given as goal

abbrev pub invariant-loop-i : goal.invariant-loop-i
invariant-loop-i l =
    (l.n ≤ 681) × (1 ≤ l.n) × (l.total ≤ 256 * l.i) × Choosing (keys (rows l.n l.t)) l.i l.total l.best
