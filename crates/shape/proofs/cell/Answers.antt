-- `shape::cell` meets its contract: the two bytes of cell i, and none where the page ends before them.
-- Assumes nothing.
use mathlib.Core.List.{List}
use mathlib.Core.Path.{◌≡◌}
use Prim.Native.Nat.{ℕ, ◌+◌, ◌*◌, ◌/◌, ◌≤◌, ◌<◌}
use native.Mathlib.Omega.{arith}
use lib.ListN.{length, take, drop}
use Rattle.format.specs.Bits.{unle}
use Rattle.format.specs.Page.{end_of}
use Rattle.numbers.proofs.LittleLaws.{byte_past, unle_two}
use Rattle.std.proofs.Common.{rules}
use Rattle.shape.proofs.cell.Goals as goal

read : (p : List ℕ) (i r : ℕ) → r ≡ unle (take 2 (drop (10 + 2 * i) p)) → r ≡ end_of p i
unfolding end_of
read p i r e = e

past : (p : List ℕ) (i : ℕ) → length p / 2 < i → 0 ≡ end_of p i
unfolding end_of
past p i h =
    let l : length p ≤ 10 + 2 * i = omega arith in
    let k : length p ≤ (10 + 2 * i) + 1 = omega arith in
    omega (arith, unle_two p (10 + 2 * i), byte_past p (10 + 2 * i) l, byte_past p ((10 + 2 * i) + 1) k)

ruleset laws = (read, past)

pub returns-then-page-i : goal.returns-then-page-i
returns-then-page-i c = search (rules, laws)

pub returns : goal.returns
returns c = search (rules, laws)
