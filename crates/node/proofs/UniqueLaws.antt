-- An answer to the reading of an entry is known by what it means: two that mean the same are one.
-- Assumes nothing.
use mathlib.Core.Path.{◌≡◌}
use Prim.Native.Nat.{ℕ}
use Rattle.std.specs.Prelude.{Result}
use Rattle.format.specs.declared.refusal.Refusal.{Refusal}
use Rattle.facts.proofs.RefusalLaws.{answer_of_inj}
use Rattle.node.specs.Reader.{entry_answer}

pub entry_answer_inj : (a b : Result ℕ Refusal) → entry_answer a ≡ entry_answer b → a ≡ b
entry_answer_inj a b e = answer_of_inj (λ (x : ℕ). x) (λ x y q. q) a b e
