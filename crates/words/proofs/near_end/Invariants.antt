-- `words::near_end` meets its contract. The loop's invariant: x is what the first k bytes spell.
-- Assumes nothing.
use Rattle.words.proofs.WindowLaws.{Spells}
use Rattle.words.proofs.near_end.Given as goal

abbrev pub invariant-loop-k : goal.invariant-loop-k
invariant-loop-k l = Spells l.s l.i l.k l.x
