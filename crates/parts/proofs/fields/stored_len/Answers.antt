-- `parts::fields::stored_len` meets its contract: because it is the separator length less what is left out, or 0.
-- Assumes nothing.
use Rattle.std.proofs.Common.{rules}
use Rattle.parts.proofs.fields.stored_len.Goals as goal
use mathlib.Core.List.{List}
use mathlib.Core.Path.{◌≡◌, ap, ap₂, ◌∙◌}
use Prim.Native.Nat.{ℕ, ◌-◌}
use Rattle.format.specs.Key.{separator_length}

same : (k k' : List ℕ) (n s s' r : ℕ) → r ≡ n - s → n ≡ separator_length k → k ≡ k' → s ≡ s'
    → r ≡ separator_length k' - s'
same k k' n s s' r er en ek es = er ∙ ap₂ ◌-◌ (en ∙ ap separator_length ek) es

ruleset laws = (same)

pub returns : goal.returns
returns c = search (rules, laws)
