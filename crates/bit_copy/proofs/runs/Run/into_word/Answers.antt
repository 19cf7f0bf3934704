-- `bit_copy::runs::Run::into_word` meets its contract: because behind the first bits of x stand those that were read, and
-- behind n of them those of x again.
-- Assumes nothing.
use Rattle.std.proofs.Common.{rules}
use Rattle.bit_copy.proofs.runs.Run.into_word.Goals as goal
use mathlib.Core.List.{List, ◌++◌}
use mathlib.Core.Path.{◌≡◌}
use Prim.Native.Nat.{ℕ, ◌+◌, ◌*◌, ◌≤◌}
use native.Mathlib.Omega.{arith}
use lib.ListN.{length, take, drop, length-drop}
use lib.Seq.{paste}
use Rattle.format.specs.Bits.{bits, bits_of, fill}
use Rattle.facts.proofs.BitsLaws.{length-bits_of}
use Rattle.bit_copy.proofs.WordLaws.{joined_paste}

replaced : (s : List ℕ) (x v w y h f n : ℕ) → h + n ≤ 64 → f + n ≤ 8 * length s
    → bits 64 v ≡ fill 64 (drop f (bits_of s))
    → bits 64 w ≡ take 64 (take h (bits 64 x) ++ bits 64 v)
    → bits 64 y ≡ take (h + n) (bits 64 w) ++ drop (h + n) (bits 64 x)
    → bits 64 y ≡ paste (bits 64 x) h (drop f (bits_of s)) n
replaced s x v w y h f n l hs ev ew ey =
    joined_paste x v w y h n (drop f (bits_of s)) l ev (omega (arith, length-drop f (bits_of s), length-bits_of s)) ew ey

pub returns : goal.returns
returns c = search (rules, replaced)
