-- `bit_copy::runs::copy_rest` meets its contract: because the rest is what the words leave, and stands behind them.
-- Assumes nothing.
use Rattle.std.proofs.Common.{rules}
use Rattle.bit_copy.proofs.runs.copy_rest.Goals as goal
use mathlib.Core.List.{List}
use mathlib.Core.Path.{◌≡◌, subst}
use Prim.Native.Nat.{ℕ, ◌+◌, ◌-◌, ◌*◌, ◌/◌, ◌≤◌, ◌<◌}
use native.Mathlib.Omega.{arith}
use lib.ListN.{length}
use Rattle.bit_copy.specs.Runs.{Moved}
use Rattle.bit_copy.proofs.RunLaws.{moved_add}

both : (d : List ℕ) (to : ℕ) (s : List ℕ) (from skip len n : ℕ) (s' : List ℕ) (f' k' l' : ℕ) (d' d'' : List ℕ)
    → Moved d (8 * to) s (from + skip) (64 * n) d' → Moved d' (8 * (to + 8 * n) + 0) s' (f' + k') l' d''
    → s' ≡ s → f' ≡ from → k' ≡ skip + 64 * n → l' ≡ len - 64 * n → n ≡ (len - 1) / 64 → 0 < len
    → 8 * to + len ≤ 8 * length d → from + skip + len ≤ 8 * length s
    → Moved d (8 * to) s (from + skip) len d''
both d to s from skip len n s' f' k' l' d' d'' p q es ef ek el en h hd hs =
    moved_add d (8 * to) s (from + skip) (64 * n) l' d' d'' (8 * (to + 8 * n) + 0) (f' + k') len p
    (subst (λ (u : List ℕ). Moved d' (8 * (to + 8 * n) + 0) u (f' + k') l' d'') es q)
    (omega arith) (omega arith) (omega arith) hd hs

pub returns : goal.returns
returns c = search (rules, both)
