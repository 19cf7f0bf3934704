-- `edits::record::formed` meets its contract: after i edits the record is well-formed exactly where the rest is
-- (`Forming`), and one that is over 37,085 bytes long is not.
-- Assumes nothing.
use mathlib.Core.Path.{◌≡◌}
use Prim.Native.Nat.{◌*◌, ◌≤◌}
use lib.ListN.{length}
use Rattle.edits.specs.Record.{count_of}
use Rattle.edits.proofs.ReadingLaws.{Forming}
use Rattle.edits.proofs.record.formed.Given as goal

abbrev pub invariant-loop : goal.invariant-loop
invariant-loop l = (l.n ≡ count_of l.s) × (l.p ≤ 8 * length l.s) × Forming l.s l.n l.counter l.p
