-- `parts::fields::put_pointers` meets its contract: because it goes by the tests of `with_pointers`, and each turn
-- stores the pointer of one row more.
-- Assumes nothing.
use Rattle.parts.proofs.fields.put_pointers.Given as goal
use mathlib.Core.Path.{◌≡◌}
use Prim.Native.Nat.{◌*◌, ◌≤◌}
use lib.ListN.{length}
use Rattle.format.specs.Normal.{pointers}
use Rattle.rows.specs.Rows.{rows}
use Rattle.parts.proofs.PartLaws.{Written}

abbrev pub invariant-loop-i : goal.invariant-loop-i
invariant-loop-i l =
    (length l.part ≡ length l.initial.part) × (length l.initial.part ≡ 4 * l.n) × (l.i ≤ l.n) × (l.n ≤ 681)
    × Written 4 (pointers (rows l.n l.t)) l.part l.i
