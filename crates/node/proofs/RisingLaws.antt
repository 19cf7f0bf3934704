-- Laws of keys that rise, one behind the other (`unordered` of shape's specs/Shape.antt).
-- Assumes nothing.
use mathlib.Core.Bool.{Bool, false, not, cond, ◌||◌}
use mathlib.Core.List.{List}
use mathlib.Core.Path.{◌≡◌, refl, sym, ap, ap₂, ◌∙◌}
use Prim.Native.Nat.{ℕ, zero, suc, ◌+◌, ◌-◌, ◌≤◌}
use native.Mathlib.Nat.{not-suc-le-zero}
use native.Mathlib.Omega.{arith}
use borrow.Author.Tests.{ne_eqb}
use lib.Dec.{eqb}
use Rattle.format.specs.Answer.{some}
use Rattle.format.specs.Key.{below}
use Rattle.keys.specs.declared.Key.{Key}
use Rattle.keys.specs.Keys.{key_bits}
use Rattle.shape.specs.Shape.{unordered}

-- b tells whether one of the first i of the keys f 0, f 1, .. is not above the one before, and k is the last of them
pub record Rising (f : ℕ → List ℕ) (i : ℕ) (k : Key) (b : Bool) : Type 0 where
  pub found : b ≡ unordered f i
  pub last : 1 ≤ i → key_bits k ≡ f (i - 1)

pub rising_none : (f : ℕ → List ℕ) (k : Key) → Rising f 0 k false
unfolding unordered some
rising_none f k = record { found = refl; last = λ l. absurd (not-suc-le-zero l) }

pub rising_more : (f : ℕ → List ℕ) (i : ℕ) (k l : Key) (b r : Bool) → Rising f i k b → key_bits l ≡ f i
    → r ≡ cond (eqb i 0) b (not (below (key_bits k) (key_bits l)) || b) → Rising f (i + 1) l r
unfolding unordered some
rising_more f zero k l b r so e er = record { found = er ∙ so.found; last = λ z. e }
rising_more f (suc j) k l b r so e er =
    let s : (suc j + 1) - 1 ≡ suc j = omega arith in
    let t : suc j - 1 ≡ j = omega arith in
    record {
      found =
          er ∙ ap (λ (x : Bool). cond x b (not (below (key_bits k) (key_bits l)) || b)) (ne_eqb (suc j) 0 (λ z. omega arith))
          ∙ ap₂ (λ (x y : Bool). not x || y) (ap₂ below (so.last (omega arith) ∙ ap f t) e)
          (so.found ∙ ap (λ (n : ℕ). some n (λ i. not (below (f i) (f (suc i))))) t)
          ∙ sym (ap (λ (n : ℕ). some n (λ i. not (below (f i) (f (suc i))))) s);
      last = λ z. e ∙ ap f (sym s);
    }
