-- An answer to a record is known by what it means: two that mean the same are one.
-- Assumes nothing.
use mathlib.Core.Path.{◌≡◌}
use Prim.Native.Nat.{ℕ}
use Rattle.std.specs.Prelude.{Result}
use Rattle.format.specs.declared.refusal.Refusal.{Refusal}
use Rattle.facts.proofs.RefusalLaws.{answer_of_inj}
use Rattle.apply.specs.Apply.{edited_answer}

pub edited_answer_inj : (a b : Result ℕ Refusal) → edited_answer a ≡ edited_answer b → a ≡ b
edited_answer_inj a b e = answer_of_inj (λ (n : ℕ). n) (λ x y q. q) a b e
