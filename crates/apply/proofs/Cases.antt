-- Worked cases of `edit_rows`: its answer, and the table afterwards.
-- Assumes nothing.
use mathlib.Core.List.{List, [], ◌∷◌, ◌++◌}
use mathlib.Core.Path.{◌≡◌, refl}
use Prim.Native.Nat.{ℕ, ◌*◌, ◌^◌}
use lib.ListN.{replicate}
use Rattle.format.specs.Answer.{Answer}
use Rattle.format.specs.Edit.{record_of}
use Rattle.format.specs.Edit.Edit.{Insert, Keep}
use Rattle.format.proofs.Samples.{hex, key}
use Rattle.rows.specs.Rows.{rows}
use Rattle.rows.specs.declared.table.Row.{Row}
use Rattle.apply.specs.Apply.{new_count, new_table}

-- a row: a key by its first byte, a pointer, a source
abbrev pub row : ℕ → ℕ → ℕ → List Row
row b p s = record { key = record { a = b * 2 ^ 56; b = 0; c = 0; d = 0 }; pointer = p; source = s } ∷ []

-- n rows of sevens
abbrev pub sevens : ℕ → List Row
sevens n = replicate n (record { key = record { a = 7; b = 7; c = 7; d = 7 }; pointer = 7; source = 7 })

-- a base: keys 80, C0, E0 with pointers 17, 34, 51
abbrev pub base : List Row
base = row 0x80 17 0 ++ row 0xC0 34 1 ++ row 0xE0 51 2

pub record Cases : Type 0 where
  -- Keep 0..3, over three entries and over two.
  pub keep : new_count (rows 3 base) (hex 4 0x00600003) ≡ Answer.Value 3
  pub keep_table : new_table (rows 3 base) (hex 4 0x00600003) (sevens 4)
      ≡ row 0x80 17 0 ++ row 0xC0 34 1 ++ row 0xE0 51 2 ++ sevens 1
  pub keep_past : new_count (rows 2 base) (hex 4 0x00600003) ≡ Answer.Refused 11
  pub keep_past_table : new_table (rows 2 base) (hex 4 0x00600003) (sevens 4) ≡ sevens 4
  -- A table of two rows has the first two of three entries.
  pub small_table : new_table (rows 3 base) (hex 4 0x00600003) (sevens 2)
      ≡ row 0x80 17 0 ++ row 0xC0 34 1
  -- A byte more.
  pub byte_more : new_count (rows 3 base) (hex 5 0x0060000300) ≡ Answer.Refused 10
  pub byte_more_table : new_table (rows 3 base) (hex 5 0x0060000300) (sevens 4) ≡ sevens 4
  -- Update 1 to pointer 5.
  pub update : new_count (rows 2 base) (hex 7 0x00500400000014) ≡ Answer.Value 1
  pub update_table : new_table (rows 2 base) (hex 7 0x00500400000014) (sevens 1) ≡ row 0xC0 5 1
  -- No edits.
  pub no_edits : new_count (rows 3 base) (hex 2 0) ≡ Answer.Refused 12
  pub no_edits_table : new_table (rows 3 base) (hex 2 0) (sevens 1) ≡ sevens 1
  -- An insert between two kept entries; one equal to a kept entry, where the table has what is before it.
  pub insert : new_count (rows 3 base) (record_of (Keep 0 1 ∷ Insert (key 0xA0) 5 ∷ Keep 1 2 ∷ [])) ≡ Answer.Value 3
  pub insert_table : new_table (rows 3 base) (record_of (Keep 0 1 ∷ Insert (key 0xA0) 5 ∷ Keep 1 2 ∷ [])) (sevens 3)
      ≡ row 0x80 17 0 ++ row 0xA0 5 1024 ++ row 0xC0 34 1
  pub equal : new_count (rows 3 base) (record_of (Insert (key 0x80) 5 ∷ Keep 0 2 ∷ [])) ≡ Answer.Refused 13
  pub equal_table : new_table (rows 3 base) (record_of (Insert (key 0x80) 5 ∷ Keep 0 2 ∷ [])) (sevens 3)
      ≡ row 0x80 5 1024 ++ sevens 2

pub cases : Cases
unfolding new_count new_table rows hex record_of key
cases = record {
  keep = refl;
  keep_table = refl;
  keep_past = refl;
  keep_past_table = refl;
  small_table = refl;
  byte_more = refl;
  byte_more_table = refl;
  update = refl;
  update_table = refl;
  no_edits = refl;
  no_edits_table = refl;
  insert = refl;
  insert_table = refl;
  equal = refl;
  equal_table = refl;
}
