-- `edits::record::all_inside` meets its contract: after i edits inside the base one is outside exactly where one of
-- the rest is (`Placing`).
-- Assumes nothing.
use Prim.Native.Nat.{◌+◌, ◌*◌, ◌≤◌}
use Rattle.edits.proofs.ReadingLaws.{Placing}
use Rattle.edits.proofs.record.all_inside.Given as goal

abbrev pub invariant-loop : goal.invariant-loop
invariant-loop l = (l.end ≤ 1024) × (l.p ≤ 10 + 290 * l.counter) × Placing l.s l.n l.end l.counter l.p
