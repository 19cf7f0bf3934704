-- An answer of a check is known by what it means: two that mean the same are one.
-- Assumes nothing.
use mathlib.Core.Path.{◌≡◌, ap}
use Rattle.std.specs.Prelude.{Result}
use Rattle.format.specs.Page.{Header}
use Rattle.format.specs.declared.refusal.Refusal.{Refusal}
use Rattle.facts.proofs.RefusalLaws.{answer_of_inj}
use Rattle.shape.specs.declared.Header.{Header as Numbers}
use Rattle.shape.specs.Shape.{checked_answer, header_meant}

-- the code's numbers of a header
abbrev numbers_of : Header → Numbers
numbers_of h = record { number = h.number; n = h.n; m = h.m; q = h.q; bits = h.bits }

pub checked_answer_inj : (a b : Result Numbers Refusal) → checked_answer a ≡ checked_answer b → a ≡ b
checked_answer_inj a b e = answer_of_inj header_meant (λ x y q. ap numbers_of q) a b e
