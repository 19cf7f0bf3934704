-- What a bit copy promises: the number of the answer, and every byte of lent memory afterwards. Document 01, "The
-- page", "Refusal numbers".
-- In order: Copied.
-- Assumes nothing.
use Rattle.std.specs.Prelude.{List, ◌≡◌, ℕ, ⊤, Result}
use Rattle.format.specs.Answer.{refusal_of, afterwards}
use Rattle.format.specs.Ranges.{bit_copy}
use Rattle.format.specs.Refusals.{outcome_number}
use Rattle.format.specs.declared.refusal.Refusal.{Refusal}

-- Bit copy into dst from the bit `to` on, of len bits of src from the bit `from` on: r is the answer, and after is what
-- dst holds then.
pub record Copied (dst : List ℕ) (to : ℕ) (src : List ℕ) (from len : ℕ) (r : Result ⊤ Refusal) (after : List ℕ) : Type 0 where
  pub answer : outcome_number r ≡ refusal_of (bit_copy dst to src from len)
  pub written : after ≡ afterwards (bit_copy dst to src from len) (λ d. d) dst
