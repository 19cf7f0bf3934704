-- `bit_copy::lies_inside` meets its contract: because a range with bits in it ends inside a slice that has all the
-- bytes it reaches into.
-- Assumes nothing.
use Rattle.std.proofs.Common.{rules}
use Rattle.bit_copy.proofs.lies_inside.Goals as goal
use mathlib.Core.Bool.{true}
use mathlib.Core.Path.{◌≡◌, sym, ◌∙◌}
use Prim.Native.Nat.{ℕ, ◌+◌, ◌*◌, ◌≤◌, ◌<◌}
use native.Mathlib.Decide.{dec_le}
use native.Mathlib.Omega.{arith}
use borrow.Author.Tests.{eq-eqb, ne_eqb, le-leb, lt-leb}
use lib.Dec.{leb}
use Rattle.format.specs.Bits.{bytes_for}
use Rattle.format.specs.Ranges.{inside}

none : (size at n : ℕ) → n ≡ 0 → true ≡ inside size at n
unfolding inside
none size at n e = rw (eq-eqb n 0 e)

some_bits : (size at n r : ℕ) → (n ≡ 0 → ⊥) → r ≡ bytes_for (at + n) → leb r size ≡ inside size at n
unfolding inside bytes_for
some_bits size at n r z e = rw (ne_eqb n 0 z) (go (dec_le r size))
  where
    go : Dec (r ≤ size) → leb r size ≡ leb (at + n) (8 * size)
    go (yes q) =
        let k : at + n ≤ 8 * size = omega arith in
        le-leb r size q ∙ sym (le-leb (at + n) (8 * size) k)
    go (no q) =
        let k : 8 * size < at + n = omega arith in
        let k' : size < r = omega arith in
        lt-leb r size k' ∙ sym (lt-leb (at + n) (8 * size) k)

ruleset laws = (none, some_bits)

pub returns-then-len-eq0 : goal.returns-then-len-eq0
returns-then-len-eq0 c = search (rules, laws)

pub returns-else-len-eq0 : goal.returns-else-len-eq0
returns-else-len-eq0 c = search (rules, laws)
