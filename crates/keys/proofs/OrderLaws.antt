-- The derived order of keys is that of their bits: it compares word by word, the first word first.
-- In order: below_then · same_alone below_last · derived_below ordered.
-- Not here: `less`, which has a body of its own (CompareLaws).
-- Assumes nothing.
use mathlib.Core.Bool.{Bool}
use mathlib.Core.List.{List, [], ◌++◌, append-nil}
use mathlib.Core.Path.{◌≡◌, refl, sym, ap, ap₂, ◌∙◌}
use Prim.Native.Nat.{ℕ, ◌^◌, ◌<◌}
use Rattle.std.proofs.Common.{Option, Some, Ordering, Less, Equal, Greater}
use Rattle.std.specs.Ordering.{MatchOrdering, nat_cmp, is_lt, is_some_and, partial_lt, partial_ordering_then}
use Rattle.std.proofs.lemmas.Cmp.{ranked}
use Rattle.format.specs.Bits.{bits}
use Rattle.format.specs.Key.{below}
use Rattle.facts.proofs.KeyLaws.{below_irreflexive, below-prefix}
use Rattle.keys.specs.contracts.KeyPartialOrd as order
use Rattle.keys.specs.declared.Key.{Key}
use Rattle.keys.specs.Keys.{key_bits}
use Rattle.keys.proofs.CompareLaws.{below-bits-less, below-bits_more}
use Rattle.keys.proofs.KeysLaws.{key_bits-words}
use Rattle.keys.proofs.UniqueLaws.{InWords}

-- numbers that differ decide, whatever follows, and equal ones leave it to what follows: as a derived order compares
-- one field after another
pub below_then : (w x y : ℕ) (xs ys : List ℕ) (p : Option Ordering) → x < 2 ^ w → y < 2 ^ w
    → is_some_and is_lt p ≡ below xs ys
    → is_some_and is_lt (partial_ordering_then (Some (nat_cmp x y)) p) ≡ below (bits w x ++ xs) (bits w y ++ ys)
below_then w x y xs ys p hx hy ih = go (nat_cmp x y) (ranked x y (nat_cmp x y) refl)
  where
    go : (r : Ordering) → MatchOrdering r (x < y) (x ≡ y) (y < x)
        → is_some_and is_lt (partial_ordering_then (Some r) p) ≡ below (bits w x ++ xs) (bits w y ++ ys)
    go Less h = sym (below-bits-less w x y xs ys hx hy h)
    go Equal h =
        ih ∙ sym (ap (λ (z : ℕ). below (bits w z ++ xs) (bits w y ++ ys)) h ∙ below-prefix (bits w y) xs ys)
    go Greater h = sym (below-bits_more w x y xs ys hx hy h)

-- the last of them
same_alone : (r : Ordering) → is_some_and is_lt (Some r) ≡ is_some_and is_lt (partial_ordering_then (Some r) (Some Equal))
same_alone Less = refl
same_alone Equal = refl
same_alone Greater = refl

pub below_last : (w x y : ℕ) → x < 2 ^ w → y < 2 ^ w → is_some_and is_lt (Some (nat_cmp x y)) ≡ below (bits w x) (bits w y)
below_last w x y hx hy =
    same_alone (nat_cmp x y) ∙ below_then w x y [] [] (Some Equal) hx hy (sym (below_irreflexive []))
    ∙ ap₂ below (append-nil (bits w x)) (append-nil (bits w y))

-- what `<` answers of two keys
pub derived_below : (k o : Key) → InWords k → InWords o
    → partial_lt order.TheImpl.partial_cmp-value.it k o ≡ below (key_bits k) (key_bits o)
derived_below k o v u =
    below_then 64 k.a o.a _ _ _ v.a u.a (below_then 64 k.b o.b _ _ _ v.b u.b (below_then 64 k.c o.c _ _ _ v.c u.c
    (below_last 64 k.d o.d v.d u.d)))
    ∙ sym (ap₂ below (key_bits-words k) (key_bits-words o))

-- the same of an answer, by the bounds that a key's type gives
pub ordered : (k o : Key) (r : Bool) → r ≡ partial_lt order.TheImpl.partial_cmp-value.it k o
    → k.a < 2 ^ 64 → k.b < 2 ^ 64 → k.c < 2 ^ 64 → k.d < 2 ^ 64
    → o.a < 2 ^ 64 → o.b < 2 ^ 64 → o.c < 2 ^ 64 → o.d < 2 ^ 64
    → r ≡ below (key_bits k) (key_bits o)
ordered k o r e ka kb kc kd oa ob oc od =
    e ∙ derived_below k o (record { a = ka; b = kb; c = kc; d = kd }) (record { a = oa; b = ob; c = oc; d = od })
