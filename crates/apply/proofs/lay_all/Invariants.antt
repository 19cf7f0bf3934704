-- `apply::lay_all` meets its contract: after i edits the pass over the items of the rest leaves what the pass over all
-- does (`Applying`), and one that fell leaves it as it is.
-- Assumes nothing.
use mathlib.Core.Path.{◌≡◌}
use Prim.Native.Nat.{◌+◌, ◌*◌, ◌≤◌}
use lib.ListN.{length}
use Rattle.apply.proofs.PassLaws.{Applying}
use Rattle.apply.proofs.lay_all.Given as goal

abbrev pub invariant-loop : goal.invariant-loop
invariant-loop l = (length l.t ≡ length l.initial.t) × (l.end ≤ 1024) × (l.p ≤ 10 + 290 * l.counter) × Applying l.s l.base l.initial.t l.end l.counter l.p l.t l.l
