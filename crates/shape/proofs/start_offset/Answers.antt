-- `shape::start_offset` meets its contract: a separator starts where the one before ends, and the first at 0.
-- Assumes nothing.
use mathlib.Core.List.{List}
use mathlib.Core.Path.{◌≡◌, sym, ap, ◌∙◌}
use Prim.Native.Nat.{ℕ, suc, ◌-◌}
use native.Mathlib.Omega.{arith}
use Rattle.format.specs.Page.{start_of, end_of}
use Rattle.facts.proofs.PageLaws.{start_of-zero, start_of-suc}
use Rattle.std.proofs.Common.{rules}
use Rattle.shape.proofs.start_offset.Goals as goal

first : (p : List ℕ) (i : ℕ) → i ≡ 0 → 0 ≡ start_of p i
first p i z = sym (ap (start_of p) z ∙ start_of-zero p)

later : (p : List ℕ) (i r : ℕ) → (i ≡ 0 → ⊥) → r ≡ end_of p (i - 1) → r ≡ start_of p i
later p i r z e =
    let s : i ≡ suc (i - 1) = omega (arith, z) in
    e ∙ sym (ap (start_of p) s ∙ start_of-suc p (i - 1))

ruleset laws = (first, later)

pub returns-then-i-eq0 : goal.returns-then-i-eq0
returns-then-i-eq0 c = search (rules, laws)

pub returns-else-i-eq0 : goal.returns-else-i-eq0
returns-else-i-eq0 c = search (rules, laws)
