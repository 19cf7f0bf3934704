-- Words of 64 bits, in bytes and out of them.
-- In order: word_bytes with_word with_first · window_bits word_bits.
-- Assumes nothing.
use Rattle.std.specs.Prelude.{ℕ, ◌+◌, ◌*◌, ◌/◌, min, cond, List, leb, ltb, length, drop, replicate}
use Rattle.std.proofs.Math.Seq.{paste}
use Rattle.format.specs.Bits.{bits, bits_of, fill, pack}

-- The eight bytes of a word, most significant first.
unfoldable pub word_bytes : ℕ → List ℕ
unfolding bits pack
word_bytes x = pack 8 (bits 64 x)

-- s with the word x in the eight bytes from i on; s as it is where they do not fit.
unfoldable pub with_word : List ℕ → ℕ → ℕ → List ℕ
unfolding word_bytes
with_word s i x = cond (leb (i + 8) (length s)) (paste s i (word_bytes x) 8) s

-- s with the first bytes of the word x at its start, as many as both have.
unfoldable pub with_first : List ℕ → ℕ → List ℕ
unfolding word_bytes
with_first s x = paste s 0 (word_bytes x) (min (length s) 8)

-- The 64 bits of s from bit `start` on, where the nine bytes from there on are in s; else zeros.
unfoldable pub window_bits : List ℕ → ℕ → List ℕ
unfolding bits_of fill
window_bits s start = cond (ltb (start / 8 + 8) (length s)) (fill 64 (drop start (bits_of s))) (replicate 64 0)

-- The 64 bits of the eight bytes of s from i on, where they are in s; else zeros.
unfoldable pub word_bits : List ℕ → ℕ → List ℕ
unfolding bits_of fill
word_bits s i = cond (leb (i + 8) (length s)) (fill 64 (drop (8 * i) (bits_of s))) (replicate 64 0)
