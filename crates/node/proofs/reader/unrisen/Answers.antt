-- `node::reader::unrisen` meets its contract: the first key, one above the one before it, and one that is not.
-- Assumes nothing.
use mathlib.Core.Bool.{Bool, true, false, cond, not, ◌||◌}
use mathlib.Core.Path.{◌≡◌, sym, ap, ap₂, ◌∙◌}
use Prim.Native.Nat.{ℕ}
use borrow.Author.Tests.{eq-eqb, ne_eqb}
use lib.Dec.{eqb}
use Rattle.format.specs.Key.{below}
use Rattle.keys.specs.declared.Key.{Key}
use Rattle.keys.specs.Keys.{key_bits}
use Rattle.keys.proofs.OrderLaws.{ordered}
use Rattle.std.proofs.Common.{rules}
use Rattle.node.proofs.reader.unrisen.Goals as goal

module _ (i : ℕ) (k l : Key) (f : Bool) where
  first : i ≡ 0 → f ≡ cond (eqb i 0) f (not (below (key_bits k) (key_bits l)) || f)
  first e = sym (ap (λ (x : Bool). cond x f (not (below (key_bits k) (key_bits l)) || f)) (eq-eqb i 0 e))

  module _ (r : Bool) (z : i ≡ 0 → ⊥) (er : r ≡ below (key_bits k) (key_bits l)) where
    not_above : not r ≡ true → true ≡ cond (eqb i 0) f (not (below (key_bits k) (key_bits l)) || f)
    not_above e = sym (ap₂ (λ (x y : Bool). cond x f (y || f)) (ne_eqb i 0 z) (sym (ap not er) ∙ e))

    above : not r ≡ false → f ≡ cond (eqb i 0) f (not (below (key_bits k) (key_bits l)) || f)
    above e = sym (ap₂ (λ (x y : Bool). cond x f (y || f)) (ne_eqb i 0 z) (sym (ap not er) ∙ e))

ruleset laws = (ordered, first, above, not_above)

pub returns-then-i-gt0 : goal.returns-then-i-gt0
returns-then-i-gt0 c = search (rules, laws)
