-- A run of bits that has been copied, as the private functions say it: on bits alone.
-- In order: Moved.
-- Assumes nothing.
use Rattle.std.specs.Prelude.{List, ◌≡◌, ℕ, drop}
use Rattle.std.proofs.Math.Seq.{paste}
use Rattle.format.specs.Bits.{bits_of}

-- The n bits of d from `at` on, replaced by those of s from `from` on, give d': no other bit changes.
pub record Moved (d : List ℕ) (at : ℕ) (s : List ℕ) (from n : ℕ) (d' : List ℕ) : Type 0 where
  pub moved : bits_of d' ≡ paste (bits_of d) at (drop from (bits_of s)) n
