-- The parts of a page of a table's first n rows under a choice of m and q. Document 01, "The page", "The normal page".
-- In order: left_out row_keys row_lengths stored_sum · with_key with_first with_number cleared · header_bytes with_header with_offsets with_pointers.
-- Assumes nothing.
use Rattle.std.specs.Prelude.{ℕ, ◌*◌, cond, ◌&&◌, List, ◌++◌, length, take, drop, eqb, ltb, leb}
use Rattle.std.proofs.Math.Seq.{paste}
use Rattle.format.specs.Answer.{afterwards}
use Rattle.format.specs.Bits.{bits, bits_of, le, pack}
use Rattle.format.specs.Normal.{keys, pointers, stored_lengths, sum, running, words}
use Rattle.format.specs.Ranges.{bit_copy, inside}
use Rattle.rows.specs.declared.table.Row.{Row}
use Rattle.rows.specs.Rows.{rows}

-- How many bits of its key entry i leaves out: q below m, none from m on.
unfoldable pub left_out : ℕ → ℕ → ℕ → ℕ
left_out m q i = cond (ltb i m) q 0

-- The keys of a table's first n rows.
unfoldable pub row_keys : ℕ → List Row → List (List ℕ)
unfolding keys rows
row_keys n t = keys (rows n t)

-- How many bits of each a page stores.
unfoldable pub row_lengths : ℕ → List Row → ℕ → ℕ → List ℕ
unfolding stored_lengths row_keys
row_lengths n t m q = stored_lengths m q (row_keys n t)

-- How many bits of all; 0 for more rows than a page has.
unfoldable pub stored_sum : List Row → ℕ → ℕ → ℕ → ℕ
unfolding sum row_lengths
stored_sum t n m q = cond (leb n 681) (sum (row_lengths n t m q)) 0

-- d with len bits of the key k from `from` on in its bits from `at` on; d as it is where either has not so many.
unfoldable pub with_key : List ℕ → ℕ → List ℕ → ℕ → ℕ → List ℕ
unfolding afterwards bit_copy pack
with_key d at k from len = afterwards (bit_copy d at (pack 32 k) from len) (λ x. x) d

-- d with the first n bits of the word x in its bits from `at` on; d as it is where it has not so many.
unfoldable pub with_first : List ℕ → ℕ → ℕ → ℕ → List ℕ
unfolding inside bits bits_of pack
with_first d at n x = cond (inside (length d) at n) (pack (length d) (paste (bits_of d) at (bits 64 x) n)) d

-- d with the n low bits of x in its bits from `at` on; d as it is where they are more than 64 or d has not so many.
unfoldable pub with_number : List ℕ → ℕ → ℕ → ℕ → List ℕ
unfolding inside bits bits_of pack
with_number d at n x =
    cond (leb n 64 && inside (length d) at n) (pack (length d) (paste (bits_of d) at (bits n x) n)) d

-- d with zeros in its bits from `at` on; d as it is where it has none there.
unfoldable pub cleared : List ℕ → ℕ → List ℕ
unfolding bits_of pack
cleared d at = pack (length d) (take at (bits_of d))

-- The first ten bytes of a page.
unfoldable pub header_bytes : ℕ → ℕ → ℕ → ℕ → List ℕ
unfolding le
header_bytes number n m q = le 4 number ++ le 2 n ++ le 2 m ++ le 2 q

-- d with these in its first ten bytes; d as it is where it has fewer.
unfoldable pub with_header : List ℕ → ℕ → ℕ → ℕ → ℕ → List ℕ
unfolding header_bytes
with_header d number n m q = cond (leb 10 (length d)) (header_bytes number n m q ++ drop 10 d) d

-- The end offsets, in place of a part of 2n bytes; a part of any other length as it is, and so where a page has not so
-- many rows.
unfoldable pub with_offsets : List ℕ → List Row → ℕ → ℕ → ℕ → List ℕ
unfolding words running row_lengths
with_offsets part t n m q =
    cond (leb n 681 && eqb (length part) (2 * n)) (words 2 (running 0 (row_lengths n t m q))) part

-- The pointers, in place of a part of 4n bytes; a part of any other length as it is, and so where a page has not so
-- many rows.
unfoldable pub with_pointers : List ℕ → List Row → ℕ → List ℕ
unfolding words pointers rows
with_pointers part t n = cond (leb n 681 && eqb (length part) (4 * n)) (words 4 (pointers (rows n t))) part
