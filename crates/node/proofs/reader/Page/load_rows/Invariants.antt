-- `node::reader::Page::load_rows` meets its contract. The loop's invariant: the table has the first i entries in its rows,
-- `found` tells whether one of their keys is not above the one before, `before` is the last of them, and the next
-- separator starts at `start`.
-- Assumes nothing.
use mathlib.Core.Path.{◌≡◌}
use Prim.Native.Nat.{◌<◌}
use Rattle.format.specs.Page.{entry_of, key_of, start_of}
use Rattle.node.proofs.RisingLaws.{Rising}
use Rattle.node.proofs.LoadedLaws.{Filled}
use Rattle.node.proofs.reader.Page.load_rows.Given as goal

abbrev pub invariant-loop-i : goal.invariant-loop-i
invariant-loop-i l =
    record {
      near : l.start < 65536;
      start : l.start ≡ start_of l.self.bytes.now l.i;
      filled : Filled (entry_of l.self.bytes.now) l.initial.t l.i l.t;
      rising : Rising (key_of l.self.bytes.now) l.i l.before l.found;
    }
