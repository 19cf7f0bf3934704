-- Worked cases of the choice in one pass, and of the record writer: the lines of document 01's table that they meet.
-- Assumes nothing.
use mathlib.Core.List.{List, [], ◌∷◌}
use mathlib.Core.Path.{◌≡◌, refl}
use Prim.Native.Nat.{ℕ}
use lib.ListN.{replicate}
use Rattle.format.specs.Answer.{Answer}
use Rattle.format.specs.Edit.{Edit}
use Rattle.format.specs.Edit.Edit.{Update, Keep}
use Rattle.format.proofs.Samples.{hex, key, last_key}
use Rattle.branch_ops.specs.Choice.{one_pass, chosen_of}
use Rattle.branch_ops.specs.Writer.{starting_writer, pushed_writer, pushed_bytes, finished_bytes}

-- the buffer d after one edit and the end
abbrev pub written : List ℕ → Edit → List ℕ
written d e = finished_bytes (pushed_writer starting_writer d e) (pushed_bytes starting_writer d e)

pub record Cases : Type 0 where
  -- Keys 80, C0; zero, 80, a tie; ending 01, 03, then 80; one key; none.
  pub two : one_pass (key 0x80 ∷ key 0xC0 ∷ []) ≡ record { m = 2; q = 1; bits = 2 }
  pub tie : one_pass (key 0 ∷ key 0x80 ∷ []) ≡ record { m = 2; q = 0; bits = 2 }
  pub last : one_pass (last_key 1 ∷ last_key 3 ∷ key 0x80 ∷ []) ≡ record { m = 2; q = 254; bits = 259 }
  pub one : one_pass (key 0x84 ∷ []) ≡ record { m = 1; q = 0; bits = 6 }
  pub none : chosen_of [] ≡ Answer.Value (record { m = 1; q = 0; bits = 0 })
  -- Keep 0..3 into four bytes, into more, and into three, where there is no room.
  pub keep : written (replicate 4 0xFF) (Keep 0 3) ≡ hex 4 0x00600003
  pub keep_more : written (replicate 6 0xFF) (Keep 0 3) ≡ hex 6 0x00600003FFFF
  pub keep_short : pushed_bytes starting_writer (replicate 3 0xFF) (Keep 0 3) ≡ replicate 3 0xFF
  -- Update 1 to pointer 5, with its padding.
  pub update : written (replicate 7 0xFF) (Update 1 5) ≡ hex 7 0x00500400000014
  -- No edit.
  pub empty : finished_bytes starting_writer (replicate 2 0xFF) ≡ hex 2 0

pub cases : Cases
unfolding one_pass chosen_of starting_writer pushed_writer pushed_bytes finished_bytes hex key last_key
cases = record {
  two = refl;
  tie = refl;
  last = refl;
  one = refl;
  none = refl;
  keep = refl;
  keep_more = refl;
  keep_short = refl;
  update = refl;
  empty = refl;
}
