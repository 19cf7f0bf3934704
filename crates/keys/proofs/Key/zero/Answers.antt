-- `keys::Key::zero` meets its contract: the bits of 0 are zeros.
-- Assumes nothing.
use mathlib.Core.Path.{◌≡◌, refl}
use lib.ListN.{replicate}
use Rattle.format.specs.Bits.{bits}
use Rattle.keys.specs.Keys.{key_bits}
use Rattle.std.proofs.Common.{rules}
use Rattle.keys.proofs.Key.zero.Goals as goal

zeros : key_bits (record { a = 0; b = 0; c = 0; d = 0 }) ≡ replicate 256 0
unfolding key_bits bits
zeros = refl

ruleset laws = (zeros)

pub returns : goal.returns
returns c = search (rules, laws)
