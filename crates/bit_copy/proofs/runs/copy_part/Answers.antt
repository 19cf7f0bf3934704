-- `bit_copy::runs::copy_part` meets its contract: because the eight bytes begin at the place's byte or before it, and
-- its bit is counted from there.
-- Assumes nothing.
use Rattle.std.proofs.Common.{rules}
use Rattle.bit_copy.proofs.runs.copy_part.Goals as goal
use mathlib.Core.List.{List}
use mathlib.Core.Path.{◌≡◌, subst}
use Prim.Native.Nat.{ℕ, ◌+◌, ◌-◌, ◌*◌, ◌≤◌}
use native.Mathlib.Omega.{arith}
use Rattle.bit_copy.specs.Runs.{Moved}

-- the place, counted from a byte before it
same_place : (d s : List ℕ) (i j g f n : ℕ) (d' : List ℕ) → Moved d (8 * j + (8 * (i - j) + g)) s f n d' → j ≤ i
    → Moved d (8 * i + g) s f n d'
same_place d s i j g f n d' p h =
    let e : 8 * j + (8 * (i - j) + g) ≡ 8 * i + g = omega arith in
    subst (λ (k : ℕ). Moved d k s f n d') e p

pub returns : goal.returns
returns c = search (rules, same_place)
