-- `parts::fields::put_offsets` meets its contract: because it goes by the tests of `with_offsets`, and each turn
-- stores the sum of the stored lengths up to its row.
-- Assumes nothing.
use Rattle.parts.proofs.fields.put_offsets.Given as goal
use mathlib.Core.Path.{◌≡◌}
use Prim.Native.Nat.{◌*◌}
use lib.ListN.{length}
use Rattle.format.specs.Normal.{running}
use Rattle.parts.specs.Parts.{row_lengths}
use Rattle.parts.proofs.PartLaws.{Summed, Written}

abbrev pub invariant-loop-i : goal.invariant-loop-i
invariant-loop-i l =
    (length l.part ≡ length l.initial.part) × (length l.initial.part ≡ 2 * l.n) × Summed l.t l.n l.m l.q l.end l.i
    × Written 2 (running 0 (row_lengths l.n l.t l.m l.q)) l.part l.i
