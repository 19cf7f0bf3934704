-- `builder::page::put_bits` meets its contract: because the prefix, the bits of each row and zeros go one behind the
-- other.
-- Assumes nothing.
use Rattle.builder.proofs.page.put_bits.Given as goal
use mathlib.Core.Path.{◌≡◌}
use Prim.Native.Nat.{◌-◌}
use lib.ListN.{length}
use Rattle.builder.specs.Passed.{PushedOver}

abbrev pub invariant-loop-b : goal.invariant-loop-b
invariant-loop-b l =
    (length l.part ≡ length l.initial.part) × PushedOver l.base l.rows (length l.part) l.part l.b

abbrev pub decreases-loop-b : goal.decreases-loop-b
decreases-loop-b l = l.rows.n - l.b.n
