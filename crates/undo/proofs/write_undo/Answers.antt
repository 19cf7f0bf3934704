-- `undo::write_undo` meets its contract: because after the last turn no entry of the base is left.
-- Assumes nothing.
use native.Mathlib.Omega.{arith}
use Rattle.undo.proofs.write_undo.Goals as goal
use Rattle.undo.proofs.WrittenLaws.{walked_bytes, walked_size}

pub returns-clause-answer : goal.returns-clause-answer
returns-clause-answer c =
    walked_size _ _ _ _ _ _ _ _ c.loop-i.invariant _ _ _ c.finish.ensures.answer c.close.ensures.answer (omega arith)

pub returns-clause-written : goal.returns-clause-written
returns-clause-written c =
    walked_bytes _ _ _ _ _ _ _ _ c.loop-i.invariant _ _ _ c.finish.ensures.written c.close.ensures.answer (omega arith)
