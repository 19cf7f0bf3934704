-- `rebuild::records::lines` is free of traps and ends: an edit has at most 290 bits.
-- Assumes nothing.
use Rattle.std.proofs.Common.{◌+◌, ◌*◌, ◌≤◌}
use Rattle.rebuild.proofs.records.lines.Given as goal

abbrev pub invariant-loop-i : goal.invariant-loop-i
invariant-loop-i g l = l.p ≤ 10 + 290 * l.i-counter
