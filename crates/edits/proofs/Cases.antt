-- Worked cases of a record's refusals: both sides of each one's line.
-- Assumes nothing.
use mathlib.Core.List.{[]}
use mathlib.Core.Path.{◌≡◌, refl}
use Rattle.format.specs.Answer.{first}
use Rattle.format.proofs.Samples.{hex}
use Rattle.edits.specs.Record.{read_tests}

pub record Cases : Type 0 where
  -- No byte, one byte, a byte more, a padding bit.
  pub nothing : first (read_tests 3 []) ≡ 10
  pub one_byte : first (read_tests 3 (hex 1 0)) ≡ 10
  pub byte_more : first (read_tests 3 (hex 5 0x0060000300)) ≡ 10
  pub padding_bit : first (read_tests 3 (hex 7 0x00500400000015)) ≡ 10
  -- Keep 0..3, over three entries and over two.
  pub keep : first (read_tests 3 (hex 4 0x00600003)) ≡ 0
  pub keep_past : first (read_tests 2 (hex 4 0x00600003)) ≡ 11
  -- Update 1 to pointer 5, over two entries and over one.
  pub update : first (read_tests 2 (hex 7 0x00500400000014)) ≡ 0
  pub update_past : first (read_tests 1 (hex 7 0x00500400000014)) ≡ 11
  -- No edits.
  pub no_edits : first (read_tests 3 (hex 2 0)) ≡ 12

pub cases : Cases
unfolding first read_tests hex
cases = record {
  nothing = refl;
  one_byte = refl;
  byte_more = refl;
  padding_bit = refl;
  keep = refl;
  keep_past = refl;
  update = refl;
  update_past = refl;
  no_edits = refl;
}
