-- What the calls that write promise: the number of the answer, and every byte of lent memory afterwards. Document 01,
-- "The page", "Refusal numbers".
-- In order: Separated · Rebuilt.
-- Assumes nothing.
use Rattle.std.specs.Prelude.{List, ◌≡◌, ℕ, Result, ⊤}
use Rattle.format.specs.Bits.{bits_of, pack}
use Rattle.format.specs.Answer.{refusal_of, afterwards}
use Rattle.format.specs.Ranges.{separate, rebuild_key}
use Rattle.format.specs.Refusals.{outcome_number}
use Rattle.format.specs.declared.refusal.Refusal.{Refusal}

-- Separate of the keys a and b, with `out` lent: r is the answer, and after is what `out` holds then.
pub record Separated (a b out : List ℕ) (r : Result ⊤ Refusal) (after : List ℕ) : Type 0 where
  pub answer : outcome_number r ≡ refusal_of (separate (bits_of a) (bits_of b))
  pub written : after ≡ afterwards (separate (bits_of a) (bits_of b)) (pack 32) out

-- Key rebuilding from p bits of prefix and s bits of sep from the bit `at` on, with `out` lent: r is the answer, and
-- after is what `out` holds then.
pub record Rebuilt (prefix : List ℕ) (p : ℕ) (sep : List ℕ) (at s : ℕ) (out : List ℕ) (r : Result ⊤ Refusal)
    (after : List ℕ) : Type 0 where
  pub answer : outcome_number r ≡ refusal_of (rebuild_key prefix p sep at s)
  pub written : after ≡ afterwards (rebuild_key prefix p sep at s) (pack 32) out
