-- Worked cases of the page writer, each by computation. Document 01, "Readings that look right", 1, and "Modules", 4.
-- In order: rows; what is stored of 80 and 84; two pages of three entries; when a page can be written; a kept row, and
-- one whose separator ends in a zero bit in the base.
-- Assumes nothing.
use mathlib.Core.Bool.{true, false}
use mathlib.Core.List.{List, [], ◌∷◌, ◌++◌}
use mathlib.Core.Path.{◌≡◌, refl}
use Prim.Native.Nat.{ℕ, ◌*◌, ◌^◌}
use Rattle.format.specs.Normal.{page_under}
use Rattle.format.specs.Page.{each}
use Rattle.format.proofs.Samples.{blank, hex, zeros}
use Rattle.rows.specs.declared.table.Row.{Row}
use Rattle.rows.specs.Rows.{rows}
use Rattle.parts.specs.Parts.{row_lengths}
use Rattle.builder.specs.Writes.{own_bits, writable}
use Rattle.builder.specs.Over.{kept, over_bits, page_over}

-- The row of the key with this first byte, the rest zero, with a pointer and a source.
unfoldable pub row : ℕ → ℕ → ℕ → Row
row first at from = record { key = record { a = first * 2 ^ 56; b = 0; c = 0; d = 0 }; pointer = at; source = from }

-- Keys 80, 84 and C0 with pointers 17, 34 and 51, the base's entries 0, 1 and 2.
unfoldable pub three : List Row
unfolding row
three = row 0x80 17 0 ∷ row 0x84 34 1 ∷ row 0xC0 51 2 ∷ []

-- Key 80 with pointer 17, the base's entry 0, and a base that stores it as the two bits 10.
unfoldable pub one : List Row
unfolding row
one = row 0x80 17 0 ∷ []

unfoldable pub padded : List ℕ
unfolding blank hex
padded = blank 1 1 0 (2 ∷ []) (hex 1 0x80) 4079 ++ hex 4 0x11000000

pub record Cases : Type 0 where
  -- 80 and 84 at q = 5 store 0 and 1 bits, at q = 2 they store 0 and 4.
  pub lengths_5 : row_lengths 2 three 2 5 ≡ 0 ∷ 1 ∷ []
  pub lengths_2 : row_lengths 2 three 2 2 ≡ 0 ∷ 4 ∷ []
  pub bits_80 : own_bits three 2 5 0 ≡ []
  pub bits_84 : own_bits three 2 5 1 ≡ 1 ∷ []
  pub bits_80_short : own_bits three 2 2 0 ≡ []
  pub bits_84_short : own_bits three 2 2 1 ≡ 0 ∷ 0 ∷ 0 ∷ 1 ∷ []
  -- Page 7 of all three, compressed by 1 bit: offsets 0, 5, 6; bits 1, 00001, 1.
  pub page_compressed : page_under 7 (rows 3 three) 3 1
      ≡ hex 4 0x07000000 ++ hex 2 0x0300 ++ hex 2 0x0300 ++ hex 2 0x0100 ++ hex 6 0x000005000600 ++ hex 1 0x86
      ++ zeros 4067 ++ hex 4 0x11000000 ++ hex 4 0x22000000 ++ hex 4 0x33000000
  -- Two of them compressed by 5 bits: offsets 0, 1, 3; bits 10000, 1, 11.
  pub page_plain : page_under 7 (rows 3 three) 2 5
      ≡ hex 4 0x07000000 ++ hex 2 0x0300 ++ hex 2 0x0200 ++ hex 2 0x0500 ++ hex 6 0x000001000300 ++ hex 1 0x87
      ++ zeros 4067 ++ hex 4 0x11000000 ++ hex 4 0x22000000 ++ hex 4 0x33000000
  -- 4,096 bytes, a row, q of 256 at most.
  pub page_written : writable (zeros 4096) three 3 3 1 ≡ true
  pub page_short : writable (zeros 4095) three 3 3 1 ≡ false
  pub page_empty : writable (zeros 4096) three 0 0 0 ≡ false
  pub prefix_256 : writable (zeros 4096) three 1 1 256 ≡ true
  pub prefix_257 : writable (zeros 4096) three 1 1 257 ≡ false
  -- All three have their bits from the first of these pages, as one run; a separator with a zero bit at its end has it
  -- cut off, and does not move as it stands.
  pub all_kept : each 3 (kept (page_under 7 (rows 3 three) 3 1) 3 3 three 3 1) ≡ true ∷ true ∷ true ∷ []
  pub bits_kept : over_bits (page_under 7 (rows 3 three) 3 1) 3 3 three 3 1 1 ≡ 0 ∷ 0 ∷ 0 ∷ 0 ∷ 1 ∷ []
  pub kept_padded : kept padded 1 1 one 1 0 0 ≡ false
  pub bits_padded : over_bits padded 1 1 one 1 0 0 ≡ 1 ∷ []
  pub page_padded : page_over 7 padded 1 1 0 one 1 1 0 ≡ page_under 7 (rows 1 one) 1 0

pub cases : Cases
unfolding each row_lengths own_bits page_under rows writable kept over_bits page_over hex three one padded
cases =
    record {
      lengths_5 = refl;
      lengths_2 = refl;
      bits_80 = refl;
      bits_84 = refl;
      bits_80_short = refl;
      bits_84_short = refl;
      page_compressed = refl;
      page_plain = refl;
      page_written = refl;
      page_short = refl;
      page_empty = refl;
      prefix_256 = refl;
      prefix_257 = refl;
      all_kept = refl;
      bits_kept = refl;
      kept_padded = refl;
      bits_padded = refl;
      page_padded = refl;
    }
