-- Entries as rows of a table: a row has a key, a pointer, and a position in the base.
-- In order: zero_row · row_key row_pointer row_source row_entry rows · row_of with_row with_rows.
-- Past the table's end rows count as zeros.
-- Assumes nothing.
use Rattle.std.specs.Prelude.{ℕ, suc, List, [], ◌∷◌, take, drop, get_or, set}
use Rattle.format.specs.Bits.{value}
use Rattle.format.specs.Page.{Entry, each}
use Rattle.keys.specs.Keys.{key_bits}
use Rattle.rows.specs.declared.table.Row.{Row}

-- The row of zeros.
unfoldable pub zero_row : Row
zero_row = record { key = record { a = 0; b = 0; c = 0; d = 0 }; pointer = 0; source = 0 }

-- The 256 bits of row i's key.
unfoldable pub row_key : List Row → ℕ → List ℕ
unfolding key_bits
row_key t i = key_bits (get_or t i zero_row).key

-- Its pointer.
unfoldable pub row_pointer : List Row → ℕ → ℕ
row_pointer t i = (get_or t i zero_row).pointer

-- Its position in the base.
unfoldable pub row_source : List Row → ℕ → ℕ
row_source t i = (get_or t i zero_row).source

-- The entry in row i.
unfoldable pub row_entry : List Row → ℕ → Entry
unfolding row_key row_pointer
row_entry t i = record { key = row_key t i; pointer = row_pointer t i }

-- The entries of the first n rows.
unfoldable pub rows : ℕ → List Row → List Entry
unfolding each row_entry
rows n t = each n (row_entry t)

-- The row that holds an entry and its position in the base.
unfoldable pub row_of : Entry → ℕ → Row
unfolding value
row_of e s =
    record {
      key = record {
        a = value (take 64 e.key);
        b = value (take 64 (drop 64 e.key));
        c = value (take 64 (drop 128 e.key));
        d = value (take 64 (drop 192 e.key));
      };
      pointer = e.pointer;
      source = s;
    }

-- t with an entry and its position in row i; t as it is where it has no such row.
unfoldable pub with_row : List Row → ℕ → Entry → ℕ → List Row
unfolding row_of
with_row t i e s = set t i (row_of e s)

-- t with entries in the rows from i on, each with its row's number as its position; those past the last row are left
-- out.
unfoldable pub with_rows : List Row → ℕ → List Entry → List Row
unfolding with_row
with_rows t i [] = t
with_rows t i (e ∷ es) = with_rows (with_row t i e i) (suc i) es
