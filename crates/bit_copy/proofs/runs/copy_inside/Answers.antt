-- `bit_copy::runs::copy_inside` meets its contract: because the bits that go into eight bytes and those from there on
-- are all the bits, and bytes are known by their bits.
-- Assumes nothing.
use Rattle.std.proofs.Common.{rules}
use Rattle.bit_copy.proofs.runs.copy_inside.Goals as goal
use mathlib.Core.List.{List}
use mathlib.Core.Path.{◌≡◌, ap₂, subst, subst₂}
use Prim.Native.Nat.{ℕ, ◌+◌, ◌-◌, ◌*◌, ◌/◌, ◌%◌, ◌≤◌, ◌<◌, min}
use native.Mathlib.Omega.{arith}
use lib.ListN.{length, get_or}
use mir.Syntax.{w8}
use mir.Val.{Fits}
use Rattle.format.specs.Ranges.{bits_copied}
use Rattle.bit_copy.specs.Runs.{Moved}
use Rattle.bit_copy.proofs.RunLaws.{moved_add, moved_bytes}

module _ (d : List ℕ) (at : ℕ) (s : List ℕ) (from skip len m : ℕ) (em : m ≡ min len (64 - at % 8)) (s1 : List ℕ)
    (f1 k1 l1 : ℕ) (d' : List ℕ) (p : Moved d (8 * (at / 8) + at % 8) s1 (f1 + k1) l1 d') (es1 : s1 ≡ s) (ef1 : f1 ≡ from)
    (ek1 : k1 ≡ skip) (el1 : l1 ≡ m) where
  head : Moved d at s (from + skip) m d'
  head =
      let ea : 8 * (at / 8) + at % 8 ≡ at = omega arith in
      subst₂ (λ (x : ℕ) (u : List ℕ). Moved d x u (from + skip) m d') ea es1
      (subst₂ (λ (f k : ℕ). Moved d (8 * (at / 8) + at % 8) s1 f k d') (ap₂ ◌+◌ ef1 ek1) el1 p)

  -- in eight bytes
  short : len ≤ m → length d' ≡ length d → ((i : ℕ) → Fits w8 (get_or d' i 0)) → d' ≡ bits_copied d at s (from + skip) len
  short h l b =
      let e : m ≡ len = omega arith in
      moved_bytes d at s (from + skip) len d' (subst (λ (k : ℕ). Moved d at s (from + skip) k d') e head) l b

  -- past them
  long : (s2 : List ℕ) (f2 k2 l2 : ℕ) (d'' : List ℕ) → Moved d' (8 * (at / 8 + 8)) s2 (f2 + k2) l2 d'' → s2 ≡ s
      → f2 ≡ from → k2 ≡ skip + m → l2 ≡ len - m → m < len → at + len ≤ 8 * length d
      → from + skip + len ≤ 8 * length s → length d'' ≡ length d → ((i : ℕ) → Fits w8 (get_or d'' i 0))
      → d'' ≡ bits_copied d at s (from + skip) len
  long s2 f2 k2 l2 d'' q es2 ef2 ek2 el2 h hd hs l b =
      moved_bytes d at s (from + skip) len d''
      (moved_add d at s (from + skip) m l2 d' d'' (8 * (at / 8 + 8)) (f2 + k2) len head
      (subst (λ (u : List ℕ). Moved d' (8 * (at / 8 + 8)) u (f2 + k2) l2 d'') es2 q)
      (omega arith) (omega arith) (omega arith) hd hs)
      l b

pub returns-then-head-run : goal.returns-then-head-run
returns-then-head-run c = search (rules, long)

pub returns-else-head-run : goal.returns-else-head-run
returns-else-head-run c = search (rules, short)
