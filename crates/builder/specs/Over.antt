-- What the page writer leaves that has the help of a base page. Document 01, "Modules", 4: kept compressed runs with an
-- equal prefix length move as a run where the base's stored lengths are max(length - q, 0).
-- In order: usable kept base_bits over_bits page_over · Based · Run.
-- Assumes nothing.
use Rattle.std.specs.Prelude.{ℕ, ◌+◌, ◌-◌, ◌*◌, ◌≤◌, ◌<◌, ◌≡◌, Bool, cond, ◌&&◌, List, ◌++◌, length, take, drop, eqb, ltb, leb}
use Rattle.format.specs.Bits.{bits_of}
use Rattle.format.specs.Key.{separator_length}
use Rattle.format.specs.Page.{bits_start, count, compressed, prefix_length, end_of, start_of, key_of, page_refusal}
use Rattle.format.specs.Normal.{sum, page_under}
use Rattle.rows.specs.declared.table.Row.{Row}
use Rattle.rows.specs.Rows.{rows, row_key, row_source}
use Rattle.parts.specs.Parts.{row_lengths}
use Rattle.builder.specs.Writes.{own_bits, rows_bits, laid_out}

-- Whether a base that is said to have bn entries, bm of them compressed by bq bits, can help a page with q bits of
-- prefix: the prefix is as long, and the base is no longer than a page and said to have no more entries than one holds.
unfoldable pub usable : List ℕ → ℕ → ℕ → ℕ → ℕ → Bool
usable base bn bm bq q = eqb bq q && leb (length base) 4096 && leb bn 681 && leb bm 681

-- Whether row i has its bits from the base: it is compressed here and, by its source, there; there it is stored in
-- max(length - q, 0) bits, and the base has these.
unfoldable pub kept : List ℕ → ℕ → ℕ → List Row → ℕ → ℕ → ℕ → Bool
unfolding end_of start_of separator_length row_key row_source
kept base bn bm t m q i =
    ltb i m
    && ltb (row_source t i) bm
    && eqb (end_of base (row_source t i)) (start_of base (row_source t i) + (separator_length (row_key t i) - q))
    && leb (8 * bits_start bn + (q + end_of base (row_source t i))) (8 * length base)

-- The len bits of a base of bn entries that start a bits behind its q bits of prefix.
unfoldable pub base_bits : List ℕ → ℕ → ℕ → ℕ → ℕ → List ℕ
unfolding bits_of
base_bits base bn q a len = take len (drop (8 * bits_start bn + (q + a)) (bits_of base))

-- The bits that the page stores of row i: the base's where the row is kept, else its own.
unfoldable pub over_bits : List ℕ → ℕ → ℕ → List Row → ℕ → ℕ → ℕ → List ℕ
unfolding kept base_bits own_bits start_of separator_length row_key row_source
over_bits base bn bm t m q i =
    cond (kept base bn bm t m q i)
    (base_bits base bn q (start_of base (row_source t i)) (separator_length (row_key t i) - q))
    (own_bits t m q i)

-- The page that is written with the help of a base; without it, where it cannot help.
unfoldable pub page_over : ℕ → List ℕ → ℕ → ℕ → ℕ → List Row → ℕ → ℕ → ℕ → List ℕ
unfolding usable laid_out over_bits page_under rows
page_over number base bn bm bq t n m q =
    cond (usable base bn bm bq q) (laid_out number t n m q (over_bits base bn bm t m q)) (page_under number (rows n t) m q)

-- p is an accepted page of bn entries, bm of them compressed by q bits, and of n rows each whose source is one of these
-- has its key.
pub record Based (p : List ℕ) (t : List Row) (n bn bm q : ℕ) : Type 0 where
  pub accepted : page_refusal p ≡ 0
  pub has_count : bn ≡ count p
  pub has_compressed : bm ≡ compressed p
  pub has_prefix : q ≡ prefix_length p
  pub sources : (i : ℕ) → i < n → row_source t i < bm → row_key t i ≡ key_of p (row_source t i)

-- The rows from i up to e are kept, with the sources j and on: their bits stand side by side in the base.
pub record Run (base : List ℕ) (bn bm : ℕ) (t : List Row) (n m q i j e : ℕ) : Type 0 where
  pub from : i ≤ e
  pub most : e ≤ n
  pub few : j + (e - i) ≤ bm
  pub rising : start_of base j ≤ start_of base (j + (e - i))
  pub inside : 8 * (10 + 2 * bn) + (q + start_of base (j + (e - i))) ≤ 8 * length base
  pub ends : sum (take e (row_lengths n t m q))
      ≡ sum (take i (row_lengths n t m q)) + (start_of base (j + (e - i)) - start_of base j)
  pub stored : rows_bits (over_bits base bn bm t m q) (n - i) i
      ≡ base_bits base bn q (start_of base j) (start_of base (j + (e - i)) - start_of base j)
      ++ rows_bits (over_bits base bn bm t m q) (n - e) e
