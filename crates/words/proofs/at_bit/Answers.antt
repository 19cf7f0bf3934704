-- `words::at_bit` meets its contract: bit h % 8 of the byte is bit `start + skip` of the slice.
-- Assumes nothing.
use Rattle.std.proofs.Common.{rules}
use Rattle.words.proofs.at_bit.Goals as goal
use mathlib.Core.List.{List}
use mathlib.Core.Path.{◌≡◌, ap, ◌∙◌}
use Prim.Native.Nat.{ℕ, ◌+◌, ◌*◌, ◌/◌, ◌%◌}
use native.Mathlib.Omega.{arith}
use lib.ListN.{drop}
use Rattle.format.specs.Bits.{bits, bits_of, fill}

at : (s : List ℕ) (start skip h r : ℕ) → h ≡ start % 8 + skip % 8
    → bits 64 r ≡ fill 64 (drop (8 * (start / 8 + skip / 8 + h / 8) + h % 8) (bits_of s))
    → bits 64 r ≡ fill 64 (drop (start + skip) (bits_of s))
at s start skip h r eh er =
    let e : 8 * (start / 8 + skip / 8 + h / 8) + h % 8 ≡ start + skip = omega arith in
    er ∙ ap (λ (k : ℕ). fill 64 (drop k (bits_of s))) e

pub returns : goal.returns
returns c = search (rules, at)
