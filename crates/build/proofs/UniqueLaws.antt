-- A build's answer is known by what it means: two that mean the same are one.
-- Assumes nothing.
use mathlib.Core.Path.{◌≡◌, ap}
use Rattle.std.specs.Prelude.{Result}
use Rattle.format.specs.Build.{Numbers}
use Rattle.format.specs.declared.refusal.Refusal.{Refusal}
use Rattle.facts.proofs.RefusalLaws.{answer_of_inj}
use Rattle.build.specs.declared.Numbers.{Numbers as CodeNumbers}
use Rattle.build.specs.Built.{built_answer, numbers_meant}

-- the code's numbers
abbrev numbers_of : Numbers → CodeNumbers
numbers_of v = record { n = v.n; m = v.m; q = v.q; bits = v.bits; undo = v.undo }

pub built_answer_inj : (a b : Result CodeNumbers Refusal) → built_answer a ≡ built_answer b → a ≡ b
built_answer_inj a b e = answer_of_inj numbers_meant (λ x y q. ap numbers_of q) a b e
