-- `parts::fields::stored_sum` meets its contract: because it goes by the same test as `stored_sum`, and each turn
-- adds the stored length of one row more.
-- Assumes nothing.
use Rattle.parts.proofs.fields.stored_sum.Given as goal
use Rattle.parts.proofs.PartLaws.{Summed}

abbrev pub invariant-loop-i : goal.invariant-loop-i
invariant-loop-i l = Summed l.t l.n l.m l.q l.end l.i
