-- `shape::fitted` meets its contract. The loop's invariant: none of the first i end offsets falls, `found` tells
-- whether one of the first i entries does not fit a key, and `before` is where the next separator starts.
-- Assumes nothing.
use mathlib.Core.Bool.{Bool, false}
use mathlib.Core.List.{List}
use mathlib.Core.Path.{◌≡◌}
use Prim.Native.Nat.{ℕ}
use Rattle.format.specs.Page.{start_of}
use Rattle.shape.specs.Shape.{falling, misfit}
use Rattle.shape.proofs.fitted.Given as goal

pub record Fitting (p : List ℕ) (i b : ℕ) (f : Bool) : Type 0 where
  pub none : falling p i ≡ false
  pub found : f ≡ misfit p i
  pub start : b ≡ start_of p i

abbrev pub invariant-loop-i : goal.invariant-loop-i
invariant-loop-i l = Fitting l.page l.i l.before l.found
