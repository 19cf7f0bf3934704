-- The size formulas, on whole numbers: only the exact result counts. Document 01, "Size formulas", and refusal 19.
-- In order: difference · body_size whole_from_stored stored_from_whole.
-- Assumes nothing.
use Rattle.std.specs.Prelude.{ℕ, zero, suc, ◌+◌, ◌-◌, ◌*◌, ◌^◌, ◌||◌, [], ◌∷◌, ltb, leb}
use Rattle.format.specs.Answer.{Answer, refuse, first, unless}
use Rattle.format.specs.Page.{body_bytes}

-- plus - minus; 19 where that is below zero or does not fit 64 bits.
unfoldable pub difference : ℕ → ℕ → Answer ℕ
unfolding unless first
difference plus minus = unless (first (refuse 19 (ltb plus minus || leb (2 ^ 64) (plus - minus)) ∷ [])) (plus - minus)

-- Body bytes: 6n + (q + sum of stored lengths, rounded up to bytes).
unfoldable pub body_size : ℕ → ℕ → ℕ → Answer ℕ
unfolding difference body_bytes
body_size q sum n = difference (body_bytes n q sum) 0

-- Whole lengths from stored ones: sum + q·n - max(q - first length, 0).
unfoldable pub whole_from_stored : ℕ → ℕ → ℕ → ℕ → Answer ℕ
unfolding difference
whole_from_stored q sum n firstLength = difference (sum + q * n) (q - firstLength)

-- Stored lengths from whole ones: max(first - q, 0) + sum of the others - (m - 1)·q; 19 for m = 0.
unfoldable pub stored_from_whole : ℕ → ℕ → ℕ → ℕ → Answer ℕ
unfolding difference
stored_from_whole firstLength zero others q = Answer.Refused 19
stored_from_whole firstLength (suc m) others q = difference (firstLength - q + others) (m * q)
