-- `words::last` meets its contract: the last eight bytes have all the bits from there on, and zeros come behind them.
-- Assumes nothing.
use Rattle.std.proofs.Common.{rules}
use Rattle.words.proofs.last.Goals as goal
use mathlib.Core.List.{List}
use mathlib.Core.Path.{◌≡◌}
use Prim.Native.Nat.{ℕ, ◌+◌, ◌-◌, ◌*◌, ◌%◌, ◌^◌, ◌≤◌, ◌<◌}
use native.Mathlib.Omega.{arith}
use lib.ListN.{length, drop}
use Rattle.format.specs.Bits.{bits, bits_of, fill}
use Rattle.words.proofs.WindowLaws.{last-eight, moved_bits}

moved : (s : List ℕ) (i j h x : ℕ) → j ≡ length s - 8 → 8 ≤ length s → length s ≤ i + 8 → i < length s → h < 8
    → bits 64 x ≡ fill 64 (drop (8 * j) (bits_of s))
    → bits 64 (x * 2 ^ (8 * (i - j) + h) % 2 ^ 64) ≡ fill 64 (drop (8 * i + h) (bits_of s))
moved s i j h x ej l e hi hh ex =
    last-eight s i j h x (x * 2 ^ (8 * (i - j) + h) % 2 ^ 64) ej l (omega arith) hi hh ex
    (moved_bits (8 * (i - j) + h) x (omega arith))

pub returns : goal.returns
returns c = search (rules, moved)
