-- `keys::Key::less` meets its contract: the first two words that differ decide, and equal ones leave it to the
-- next.
-- Assumes nothing.
use mathlib.Core.List.{List, [], ◌++◌, append-nil}
use mathlib.Core.Path.{◌≡◌, sym, ap, ap₂, ◌∙◌}
use Prim.Native.Nat.{ℕ, ◌^◌, ◌<◌}
use native.Mathlib.Decide.{ℕ_discrete}
use native.Mathlib.Omega.{arith}
use borrow.Author.Tests.{le-ltb}
use lib.Dec.{ltb}
use Rattle.format.specs.Bits.{bits}
use Rattle.format.specs.Key.{below}
use Rattle.facts.proofs.KeyLaws.{below_irreflexive}
use Rattle.keys.specs.declared.Key.{Key}
use Rattle.keys.specs.Keys.{key_bits}
use Rattle.keys.proofs.CompareLaws.{below_differ, below_equal}
use Rattle.keys.proofs.KeysLaws.{key_bits-words}
use Rattle.std.proofs.Common.{rules}
use Rattle.keys.proofs.Key.less.Goals as goal

cd : Key → List ℕ
cd k = bits 64 k.c ++ bits 64 k.d

bcd : Key → List ℕ
bcd k = bits 64 k.b ++ cd k

module _ (k o : Key) where
  whole : below (key_bits k) (key_bits o) ≡ below (bits 64 k.a ++ bcd k) (bits 64 o.a ++ bcd o)
  unfolding bcd cd
  whole = ap₂ below (key_bits-words k) (key_bits-words o)

  differ_a : k.a < 2 ^ 64 → o.a < 2 ^ 64 → (k.a ≡ o.a → ⊥) → ltb k.a o.a ≡ below (key_bits k) (key_bits o)
  differ_a hk ho d = sym (whole ∙ below_differ 64 k.a o.a (bcd k) (bcd o) hk ho d)

  module _ (a : k.a ≡ o.a) where
    past_a : below (key_bits k) (key_bits o) ≡ below (bits 64 k.b ++ cd k) (bits 64 o.b ++ cd o)
    unfolding bcd
    past_a = whole ∙ below_equal 64 k.a o.a (bcd k) (bcd o) a

    differ_b : k.b < 2 ^ 64 → o.b < 2 ^ 64 → (k.b ≡ o.b → ⊥) → ltb k.b o.b ≡ below (key_bits k) (key_bits o)
    differ_b hk ho d = sym (past_a ∙ below_differ 64 k.b o.b (cd k) (cd o) hk ho d)

    module _ (b : k.b ≡ o.b) where
      past_b : below (key_bits k) (key_bits o) ≡ below (bits 64 k.c ++ bits 64 k.d)
          (bits 64 o.c ++ bits 64 o.d)
      unfolding cd
      past_b = past_a ∙ below_equal 64 k.b o.b (cd k) (cd o) b

      differ_c : k.c < 2 ^ 64 → o.c < 2 ^ 64 → (k.c ≡ o.c → ⊥) → ltb k.c o.c ≡ below (key_bits k) (key_bits o)
      differ_c hk ho d = sym (past_b ∙ below_differ 64 k.c o.c (bits 64 k.d) (bits 64 o.d) hk ho d)

      last : k.d < 2 ^ 64 → o.d < 2 ^ 64 → k.c ≡ o.c → ltb k.d o.d ≡ below (key_bits k) (key_bits o)
      last hk ho c =
          sym
          (past_b ∙ below_equal 64 k.c o.c (bits 64 k.d) (bits 64 o.d) c ∙ go (ℕ_discrete k.d o.d))
        where
          go : Dec (k.d ≡ o.d) → below (bits 64 k.d) (bits 64 o.d) ≡ ltb k.d o.d
          go (yes e) =
              ap (λ (x : ℕ). below (bits 64 x) (bits 64 o.d)) e ∙ below_irreflexive (bits 64 o.d)
              ∙ sym (le-ltb k.d o.d (omega arith))
          go (no d) =
              ap₂ below (sym (append-nil (bits 64 k.d))) (sym (append-nil (bits 64 o.d)))
              ∙ below_differ 64 k.d o.d [] [] hk ho d

ruleset laws = (differ_a, differ_b, differ_c, last)

pub returns-then-self-o : goal.returns-then-self-o
returns-then-self-o c = search (rules, laws)

pub returns-then-self-o-2 : goal.returns-then-self-o-2
returns-then-self-o-2 c = search (rules, laws)

pub returns-then-self-o-3 : goal.returns-then-self-o-3
returns-then-self-o-3 c = search (rules, laws)

pub returns : goal.returns
returns c = search (rules, laws)
