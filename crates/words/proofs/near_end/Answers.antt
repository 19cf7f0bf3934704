-- `words::near_end` meets its contract. The loop's invariant: x is what the first k bytes spell. The measure is what is
-- left of the eight.
-- Assumes nothing.
use mathlib.Core.List.{List}
use mathlib.Core.Path.{◌≡◌, subst}
use Prim.Native.Nat.{ℕ, ◌+◌, ◌*◌, ◌^◌, ◌≤◌, ◌<◌}
use native.Mathlib.Omega.{arith}
use mir.Syntax.{w64}
use mir.Val.{Fits}
use lib.ListN.{drop}
use lib.Pow.{pow_mono}
use Rattle.format.specs.Bits.{bits, bits_of, fill}
use Rattle.words.proofs.WindowLaws.{Spells, spells_none, spells_more}
use Rattle.std.proofs.Common.{rules}
use Rattle.words.proofs.near_end.Goals as goal

small : (s : List ℕ) (i k x : ℕ) → Spells s i k x → k ≤ 7 → x < 2 ^ 56
small s i k x a h = omega (arith, a.small, pow_mono {i = 8 * k} {j = 56} (omega arith))

times : (s : List ℕ) (i k x : ℕ) → Spells s i k x → k < 8 → Fits w64 (x * 256)
times s i k x a h = omega (arith, small s i k x a (omega arith))

sum : (s : List ℕ) (i k x b : ℕ) → Spells s i k x → k < 8 → b < 256 → Fits w64 (x * 256 + b)
sum s i k x b a h l = omega (arith, small s i k x a (omega arith))

done : (s : List ℕ) (i k x : ℕ) → Spells s i k x → k ≤ 8 → 8 ≤ k → bits 64 x ≡ fill 64 (drop (8 * i) (bits_of s))
done s i k x a h h' =
    let e : k ≡ 8 = omega arith in
    (subst (λ (n : ℕ). Spells s i n x) e a).same

ruleset laws = (spells_none, spells_more, times, sum, done)

pub loop-k-preserved : goal.loop-k-preserved
loop-k-preserved c = search (rules, laws)

pub returns : goal.returns
returns c = search (rules, laws)

pub loop-k-init : goal.loop-k-init
loop-k-init c = search (rules, laws)

pub overflow_mul-x : goal.overflow_mul-x
overflow_mul-x c = search (rules, laws)

pub overflow_add-x : goal.overflow_add-x
overflow_add-x c = search (rules, laws)
