-- Document 01's table: the lines marked [T] of "Both sides of each line", proved together.
-- Assumes nothing.
use mathlib.Core.List.{[], ◌∷◌, ◌++◌}
use mathlib.Core.Option.{none, some}
use mathlib.Core.Path.{◌≡◌, refl}
use Rattle.format.specs.Key.{separator_length, shared_bits}
use Rattle.format.specs.Answer.{Answer}
use Rattle.format.specs.Ranges.{separate}
use Rattle.format.specs.Normal.{choice, keys, normal_page}
use Rattle.format.specs.Edit.{record_of, read_record}
use Rattle.format.specs.Edit.Edit.{Update, Keep}
use Rattle.format.specs.Build.{build}
use Rattle.format.proofs.Samples.{hex, zeros, key, last_key, two, built}

pub record Table : Type 0 where
  -- Separator length: 80, the zero key, 84, last byte 01.
  pub length_80 : separator_length (key 0x80) ≡ 1
  pub length_zero : separator_length (key 0) ≡ 1
  pub length_84 : separator_length (key 0x84) ≡ 6
  pub length_last : separator_length (last_key 1) ≡ 256
  -- Shared bits: 80 and 84, equal. Separate 80, C0; equal keys.
  pub shared_80_84 : shared_bits (key 0x80) (key 0x84) ≡ 5
  pub shared_equal : shared_bits (key 0x80) (key 0x80) ≡ 256
  pub separate_80_C0 : separate (key 0x80) (key 0xC0) ≡ Answer.Value (key 0xC0)
  pub separate_equal : separate (key 0x80) (key 0x80) ≡ Answer.Refused 17
  -- Record Keep 0..3. Update 1 to pointer 5, and with a padding bit set.
  pub record_keep : record_of (Keep 0 3 ∷ []) ≡ hex 4 0x00600003
  pub record_keep_read : read_record (hex 4 0x00600003) ≡ some (Keep 0 3 ∷ [])
  pub record_update : record_of (Update 1 5 ∷ []) ≡ hex 7 0x00500400000014
  pub record_update_read : read_record (hex 7 0x00500400000014) ≡ some (Update 1 5 ∷ [])
  pub record_padding_read : read_record (hex 7 0x00500400000015) ≡ none
  pub record_padding : (built (hex 7 0x00500400000015) 4096 43).answer ≡ Answer.Refused 10
  -- Keys 80, C0, pointers 17, 34, page number 7.
  pub two_choice : choice (keys two) ≡ record { m = 2; q = 1; bits = 2 }
  pub two_page : normal_page 7 two
      ≡ hex 4 0x07000000 ++ hex 2 0x0200 ++ hex 2 0x0200 ++ hex 2 0x0100 ++ hex 2 0x0000 ++ hex 2 0x0100 ++ hex 1 0xC0
      ++ zeros 4073 ++ hex 4 0x11000000 ++ hex 4 0x22000000
  -- Keys zero, 80: a tie of 2 bits.
  pub tie_choice : choice (key 0 ∷ key 0x80 ∷ []) ≡ record { m = 2; q = 0; bits = 2 }
  -- Keys ending 01, 03, then 80.
  pub last_choice : choice (last_key 1 ∷ last_key 3 ∷ key 0x80 ∷ []) ≡ record { m = 2; q = 254; bits = 259 }

pub table : Table
unfolding separator_length shared_bits separate record_of read_record choice normal_page build hex key last_key two
table =
    record {
      length_80 = refl;
      length_zero = refl;
      length_84 = refl;
      length_last = refl;
      shared_80_84 = refl;
      shared_equal = refl;
      separate_80_C0 = refl;
      separate_equal = refl;
      record_keep = refl;
      record_keep_read = refl;
      record_update = refl;
      record_update_read = refl;
      record_padding_read = refl;
      record_padding = refl;
      two_choice = refl;
      two_page = refl;
      tie_choice = refl;
      last_choice = refl;
    }
