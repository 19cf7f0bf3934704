-- `undo::write_undo` meets its contract: because i entries of the base are behind the walk after i turns.
-- Assumes nothing.
use Rattle.undo.proofs.write_undo.Given as goal
use Rattle.undo.proofs.WrittenLaws.{Walked}

abbrev pub invariant-loop-i : goal.invariant-loop-i
invariant-loop-i l = Walked l.base l.n l.new l.k l.initial.out l.i l.w l.out
