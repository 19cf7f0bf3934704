-- Keys as four words of 64 bits.
-- In order: key_bits.
-- Assumes nothing.
use Rattle.std.specs.Prelude.{ℕ, List, ◌++◌}
use Rattle.format.specs.Bits.{bits}
use Rattle.keys.specs.declared.Key.{Key}

-- The 256 bits of a key.
unfoldable pub key_bits : Key → List ℕ
unfolding bits
key_bits k = bits 64 k.a ++ bits 64 k.b ++ bits 64 k.c ++ bits 64 k.d
