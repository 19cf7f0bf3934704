-- What is done with keys and with ranges of bits: separate, bit copy, key rebuilding. Document 01, "The page", and
-- the refusals 17, 18 and 19.
-- In order: separate · inside bits_copied bit_copy · rebuild_key.
-- Assumes nothing.
use Rattle.std.specs.Prelude.{ℕ, ◌+◌, ◌*◌, Bool, not, ◌||◌, ◌&&◌, List, [], ◌∷◌, ◌++◌, length, take, drop, eqb, ltb, leb}
use Rattle.std.proofs.Math.Seq.{paste}
use Rattle.format.specs.Bits.{bits_of, fill, pack}
use Rattle.format.specs.Key.{below, separator}
use Rattle.format.specs.Answer.{Answer, refuse, first, unless}

-- Separate: the separator of a and b; 17 where a is not below b.
unfoldable pub separate : List ℕ → List ℕ → Answer (List ℕ)
unfolding unless first below separator
separate a b = unless (first (refuse 17 (not (below a b)) ∷ [])) (separator a b)

-- A range of len bits from `at` on lies in a slice of size bytes; a range of length 0 lies in any slice, whatever its
-- start.
unfoldable pub inside : ℕ → ℕ → ℕ → Bool
inside size at len = eqb len 0 || leb (at + len) (8 * size)

-- dst with the len bits from `to` on replaced by those of src from `from` on, and no other bit changed.
unfoldable pub bits_copied : List ℕ → ℕ → List ℕ → ℕ → ℕ → List ℕ
unfolding bits_of pack
bits_copied dst to src from len = pack (length dst) (paste (bits_of dst) to (drop from (bits_of src)) len)

-- Bit copy: what dst then holds; 18 where a range lies outside its slice.
unfoldable pub bit_copy : List ℕ → ℕ → List ℕ → ℕ → ℕ → Answer (List ℕ)
unfolding unless first inside bits_copied
bit_copy dst to src from len =
    unless
    (first (refuse 18 (not (inside (length dst) to len && inside (length src) from len)) ∷ []))
    (bits_copied dst to src from len)

-- Key rebuilding: the first p bits of prefix, the s bits of sep from `at` on, zero bits up to 256; 18 where a range
-- lies outside its slice, then 19 for more than 256 bits.
unfoldable pub rebuild_key : List ℕ → ℕ → List ℕ → ℕ → ℕ → Answer (List ℕ)
unfolding unless first inside bits_of fill
rebuild_key prefix p sep at s =
    unless
    (first (refuse 18 (not (inside (length prefix) 0 p && inside (length sep) at s))
    ∷ refuse 19 (ltb 256 (p + s))
    ∷ []))
    (fill 256 (take p (bits_of prefix) ++ take s (drop at (bits_of sep))))
