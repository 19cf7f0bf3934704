-- What the page writer leaves. Document 01, "The page", "The normal page".
-- In order: own_bits rows_bits row_bits · laid_out · fitting writable Wrote · Pushed.
-- Not here: the parts of the page by themselves (parts, specs/Parts.antt).
-- Assumes nothing.
use Rattle.std.specs.Prelude.{ℕ, zero, suc, ◌+◌, ◌-◌, ◌*◌, ◌≤◌, ◌≡◌, Bool, cond, ◌&&◌, List, [], ◌++◌, length, take, drop, eqb, ltb, leb}
use Rattle.format.specs.Bits.{bits_of, pack}
use Rattle.format.specs.Key.{separator_length}
use Rattle.format.specs.Page.{body_bytes}
use Rattle.format.specs.Normal.{pointers, sum, running, words}
use Rattle.rows.specs.declared.table.Row.{Row}
use Rattle.rows.specs.Rows.{rows, row_key}
use Rattle.parts.specs.Parts.{left_out, row_lengths, header_bytes}

-- The bits that a page stores of row i: those behind the prefix below m, all from m on, up to the separator length.
unfoldable pub own_bits : List Row → ℕ → ℕ → ℕ → List ℕ
unfolding separator_length row_key left_out
own_bits t m q i = take (separator_length (row_key t i) - left_out m q i) (drop (left_out m q i) (row_key t i))

-- The bits f of k rows from i on, one row after the other.
unfoldable pub rows_bits : (ℕ → List ℕ) → ℕ → ℕ → List ℕ
rows_bits f zero i = []
rows_bits f (suc k) i = f i ++ rows_bits f k (suc i)

-- The bits of a page of n rows: q bits of prefix, those of the first key, and the bits f of each row.
unfoldable pub row_bits : (ℕ → List ℕ) → ℕ → List Row → ℕ → List ℕ
unfolding rows_bits row_key
row_bits f n t q = take q (row_key t 0) ++ rows_bits f n 0

-- The page of n rows under a choice of m and q, with the bits f of each row: header, end offsets, bits, pointers.
unfoldable pub laid_out : ℕ → List Row → ℕ → ℕ → ℕ → (ℕ → List ℕ) → List ℕ
unfolding header_bytes words running row_lengths pack row_bits pointers rows
laid_out number t n m q f =
    header_bytes number n m q
    ++ words 2 (running 0 (row_lengths n t m q))
    ++ pack (4086 - 6 * n) (row_bits f n t q)
    ++ words 4 (pointers (rows n t))

-- Whether a page can hold the first n rows under a choice of m and q: a row, a prefix within a key, a body that fits.
unfoldable pub fitting : List Row → ℕ → ℕ → ℕ → Bool
unfolding body_bytes sum row_lengths
fitting t n m q = ltb 0 n && leb q 256 && leb (body_bytes n q (sum (row_lengths n t m q))) 4086

-- Whether the page of n rows can be written: 4,096 bytes, a row, a prefix within a key, a body that fits.
unfoldable pub writable : List ℕ → List Row → ℕ → ℕ → ℕ → Bool
unfolding body_bytes sum row_lengths
writable out t n m q =
    eqb (length out) 4096 && ltb 0 n && leb q 256 && leb (body_bytes n q (sum (row_lengths n t m q))) 4086

-- A call that is to write `page` where it can be written: r is the answer, and after is what the lent page holds then.
pub record Wrote (before : List ℕ) (t : List Row) (n m q : ℕ) (page : List ℕ) (r : Bool) (after : List ℕ) : Type 0 where
  pub answer : r ≡ writable before t n m q
  pub written : after ≡ cond (writable before t n m q) page before

-- While the bits are written: part, of size bytes, has the prefix and the bits f of i rows, which end `bit` bits behind
-- the prefix.
pub record Pushed (f : ℕ → List ℕ) (t : List Row) (n m q size : ℕ) (part : List ℕ) (bit i : ℕ) : Type 0 where
  pub most : i ≤ n
  pub few : n ≤ 681
  pub short : q ≤ 256
  pub small : size ≤ 4096
  pub room : q + sum (row_lengths n t m q) ≤ 8 * size
  pub len : length part ≡ size
  pub is_sum : bit ≡ sum (take i (row_lengths n t m q))
  pub done : take (q + bit) (bits_of part) ++ rows_bits f (n - i) i ≡ row_bits f n t q
