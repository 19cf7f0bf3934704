-- `words::at_end` meets its contract: past the end all bits are zeros; one of the last eight bytes is in the last word.
-- Assumes nothing.
use Rattle.std.proofs.Common.{rules}
use Rattle.words.proofs.at_end.Goals as goal
use mathlib.Core.List.{List}
use mathlib.Core.Path.{◌≡◌, refl}
use Prim.Native.Nat.{ℕ, ◌+◌, ◌*◌, ◌≤◌}
use lib.ListN.{length, drop}
use Rattle.format.specs.Bits.{bits, bits_of, fill}
use Rattle.words.proofs.WindowLaws.{bits_past}

past : (s : List ℕ) (i h : ℕ) → length s ≤ i → bits 64 0 ≡ fill 64 (drop (8 * i + h) (bits_of s))
past s i h l = bits_past s (8 * i + h) i h l refl

pub returns-then-s-i : goal.returns-then-s-i
returns-then-s-i c = search (rules, past)
