-- An answer of the choice is known by what it means: two that mean the same are one.
-- Assumes nothing.
use mathlib.Core.Path.{◌≡◌, ap}
use Rattle.std.specs.Prelude.{Result}
use Rattle.format.specs.Normal.{Choice}
use Rattle.format.specs.declared.refusal.Refusal.{Refusal}
use Rattle.facts.proofs.RefusalLaws.{answer_of_inj}
use Rattle.branch_ops.specs.declared.choice.Choice.{Choice as Numbers}
use Rattle.branch_ops.specs.Choice.{choice_answer, choice_meant}

-- the code's numbers of a choice
abbrev numbers_of : Choice → Numbers
numbers_of c = record { m = c.m; q = c.q; bits = c.bits }

pub choice_answer_inj : (a b : Result Numbers Refusal) → choice_answer a ≡ choice_answer b → a ≡ b
choice_answer_inj a b e = answer_of_inj choice_meant (λ x y q. ap numbers_of q) a b e
