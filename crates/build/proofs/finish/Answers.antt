-- `build::finish` meets its contract: because the page over the base is the normal one, and the copied bytes are the record's.
-- Assumes nothing.
use Rattle.std.proofs.Common.{rules}
use Rattle.build.proofs.finish.Goals as goal
use mathlib.Core.List.{List, ◌++◌}
use mathlib.Core.Path.{◌≡◌, ap, ◌∙◌}
use Prim.Native.Nat.{ℕ, ◌-◌}
use native.Mathlib.Omega.{arith}
use lib.ListN.{drop, take}
use Rattle.build.proofs.BuiltLaws.{written_page}

-- what is copied is the first len bytes of scratch
copied : (len : ℕ) (s u a : List ℕ) → a ≡ take (len - 0) s → a ++ drop len u ≡ take len s ++ drop len u
copied len s u a e =
    let z : len - 0 ≡ len = omega arith in
    ap (λ (x : List ℕ). x ++ drop len u) (e ∙ ap (λ (k : ℕ). take k s) z)

ruleset laws = (written_page, copied)

pub returns-clause-page : goal.returns-clause-page
returns-clause-page c = search (rules, laws)

pub returns-clause-undo : goal.returns-clause-undo
returns-clause-undo c = search (rules, laws)
