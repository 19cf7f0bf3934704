-- What the size formulas answer. Document 01, "Size formulas", and refusal 19.
-- In order: size_answer.
-- Assumes nothing.
use Rattle.std.specs.Prelude.{ℕ, Result}
use Rattle.format.specs.Answer.{Answer}
use Rattle.format.specs.Refusals.{answer_of}
use Rattle.format.specs.declared.refusal.Refusal.{Refusal}

-- The size, or the number of the refusal.
abbrev pub size_answer : Result ℕ Refusal → Answer ℕ
size_answer r = answer_of (λ (x : ℕ). x) r
