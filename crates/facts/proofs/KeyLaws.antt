-- Laws of keys (format's `specs/Key.antt`).
-- In order: keys; their order (`below`); the bits that two keys share (`shared_bits`), and those of keys in ascending
-- order; the last set bit (`last_set`); the separator length, and a key out of its first bits.
-- Not here: the bits of numbers and bytes (`BitsLaws`); lists of keys (`EntryLaws`, `StoredLaws`).
-- Assumes nothing.
use mathlib.Core.Bool.{Bool, cond, false, false≢true, true}
use mathlib.Core.List.{◌++◌, List, [], ◌∷◌}
use mathlib.Core.Logic.{inl, inr, ◌⊎◌}
use mathlib.Core.Path.{ap, ap₂, refl, subst, sym, ◌∙◌, ◌≡◌}
use Prim.Native.Nat.{◌*◌, ◌+◌, ◌-◌, ◌<◌, ◌^◌, min, suc, suc-le-suc, zero, ℕ, ◌≤◌}
use native.Mathlib.Nat.{le_of_suc-le-suc, not-suc-le-zero}
use native.Mathlib.Omega.{arith}
use native.Mathlib.Decide.{dec_lt}
use borrow.Author.Tests.{eq-eqb, eqb-false, eqb-true, le-ltb, lt-ltb, ltb-false, ltb-true, ne_eqb}
use lib.Arith.{digits_lt}
use lib.Dec.{eqb, ltb}
use lib.ListN.{get_or-eq_default, drop, get_or, length, length-take, take}
use lib.Seq.{get_or-take, take-add, take_all, take-take}
use Rattle.format.specs.Bits.{AllBelow, bits_of, fill, value}
use Rattle.format.specs.Key.{IsKey, below, last_set, separator_length, shared_bits, reach}
use Rattle.facts.proofs.BitsLaws.{AllBelow-bits_of, fill_unique, length-bits_of, value_inj, value-lt}

-- ---- keys

pub IsKey-bits_of : (xs : List ℕ) → length xs ≡ 32 → IsKey (bits_of xs)
IsKey-bits_of xs e = record { size = omega (arith, length-bits_of xs); bits = AllBelow-bits_of xs }

-- keys are told apart by their numbers
pub value_inj_key : (a b : List ℕ) → IsKey a → IsKey b → value a ≡ value b → a ≡ b
value_inj_key a b ka kb e = value_inj a b ka.bits kb.bits (ka.size ∙ sym kb.size) e

-- ---- the order

module _ (x y : ℕ) (xs ys : List ℕ) where
  pub below_less : x < y → below (x ∷ xs) (y ∷ ys) ≡ true
  unfolding below
  below_less h =
      let d : x ≡ y → ⊥ = λ e. omega arith in
      rw (ne_eqb x y d, lt-ltb x y h)

  pub below_more : y < x → below (x ∷ xs) (y ∷ ys) ≡ false
  unfolding below
  below_more h =
      let d : x ≡ y → ⊥ = λ e. omega arith in
      let l : y ≤ x = omega arith in
      rw (ne_eqb x y d, le-ltb x y l)

  pub below_same : x ≡ y → below (x ∷ xs) (y ∷ ys) ≡ below xs ys
  unfolding below
  below_same e = rw (eq-eqb x y e)

  -- and back
  pub below_cases : below (x ∷ xs) (y ∷ ys) ≡ true → (x < y) ⊎ ((x ≡ y) × (below xs ys ≡ true))
  unfolding below
  below_cases t = go (eqb x y) refl
    where
      go : (b : Bool) → eqb x y ≡ b → (x < y) ⊎ ((x ≡ y) × (below xs ys ≡ true))
      go true q = inr (eqb-true x y q, sym (below_same (eqb-true x y q)) ∙ t)
      go false q = inl (ltb-true x y (rw q at t))

pub below_irreflexive : (a : List ℕ) → below a a ≡ false
unfolding below
below_irreflexive [] = refl
below_irreflexive (x ∷ xs) = below_same x x xs xs refl ∙ below_irreflexive xs

-- nothing is below no bits
pub below-nil : (a : List ℕ) → below a [] ≡ false
unfolding below
below-nil [] = refl
below-nil (x ∷ xs) = refl

pub below_transitive : (a b c : List ℕ) → below a b ≡ true → below b c ≡ true → below a c ≡ true
unfolding below
below_transitive a b [] p q = let z : ◌≡◌ {A = Bool} true false = sym q ∙ below-nil b in cc
below_transitive a [] (z ∷ zs) p q = let f : ◌≡◌ {A = Bool} true false = sym p ∙ below-nil a in cc
below_transitive [] (y ∷ ys) (z ∷ zs) p q = refl
below_transitive (x ∷ xs) (y ∷ ys) (z ∷ zs) p q = go (below_cases x y xs ys p) (below_cases y z ys zs q) (below_transitive xs ys zs)
  where
    go : (x < y) ⊎ ((x ≡ y) × (below xs ys ≡ true)) → (y < z) ⊎ ((y ≡ z) × (below ys zs ≡ true))
        → (below xs ys ≡ true → below ys zs ≡ true → below xs zs ≡ true) → below (x ∷ xs) (z ∷ zs) ≡ true
    go (inl l) (inl m) ih = below_less x z xs zs (omega arith)
    go (inl l) (inr m) ih = below_less x z xs zs (omega arith)
    go (inr l) (inl m) ih = below_less x z xs zs (omega arith)
    go (inr l) (inr m) ih = below_same x z xs zs (l.0 ∙ m.0) ∙ ih l.1 m.1

-- of two that are not equal, one is below the other
pub below_trichotomy : (a b : List ℕ) → (below a b ≡ true) ⊎ ((a ≡ b) ⊎ (below b a ≡ true))
unfolding below
below_trichotomy [] [] = inr (inl refl)
below_trichotomy [] (y ∷ ys) = inl refl
below_trichotomy (x ∷ xs) [] = inr (inr refl)
below_trichotomy (x ∷ xs) (y ∷ ys) = go (eqb x y) (ltb x y) refl refl (below_trichotomy xs ys)
  where
    same : x ≡ y → (below xs ys ≡ true) ⊎ ((xs ≡ ys) ⊎ (below ys xs ≡ true))
        → (below (x ∷ xs) (y ∷ ys) ≡ true) ⊎ ((x ∷ xs ≡ y ∷ ys) ⊎ (below (y ∷ ys) (x ∷ xs) ≡ true))
    same e (inl t) = inl (below_same x y xs ys e ∙ t)
    same e (inr (inl t)) = inr (inl (ap₂ ◌∷◌ e t))
    same e (inr (inr t)) = inr (inr (below_same y x ys xs (sym e) ∙ t))

    go : (s t : Bool) → eqb x y ≡ s → ltb x y ≡ t → (below xs ys ≡ true) ⊎ ((xs ≡ ys) ⊎ (below ys xs ≡ true))
        → (below (x ∷ xs) (y ∷ ys) ≡ true) ⊎ ((x ∷ xs ≡ y ∷ ys) ⊎ (below (y ∷ ys) (x ∷ xs) ≡ true))
    go true t p q ih = same (eqb-true x y p) ih
    go false true p q ih = inl (below_less x y xs ys (ltb-true x y q))
    go false false p q ih =
        let l : y ≤ x = ltb-false x y q in
        let d : x ≡ y → ⊥ = eqb-false x y p in
        inr (inr (below_less y x ys xs (omega arith)))

-- what is not below is equal or above
pub below_false : (a b : List ℕ) → below a b ≡ false → (a ≡ b) ⊎ (below b a ≡ true)
below_false a b p = go (below_trichotomy a b)
  where
    go : (below a b ≡ true) ⊎ ((a ≡ b) ⊎ (below b a ≡ true)) → (a ≡ b) ⊎ (below b a ≡ true)
    go (inl t) = let z : ◌≡◌ {A = ℕ} 0 1 = cc in absurd (omega arith)
    go (inr t) = t

-- what comes after a common prefix decides
pub below-prefix : (p a b : List ℕ) → below (p ++ a) (p ++ b) ≡ below a b
below-prefix [] a b = refl
below-prefix (x ∷ p) a b = below_same x x (p ++ a) (p ++ b) refl ∙ below-prefix p a b

-- the order of keys is that of their numbers
pub below-value : (xs ys : List ℕ) → length xs ≡ length ys → AllBelow 2 xs → AllBelow 2 ys → below xs ys ≡ true → value xs < value ys
unfolding below value AllBelow
below-value [] [] l hx hy t = absurd (false≢true t)
below-value [] (y ∷ ys) l hx hy t = absurd (omega arith)
below-value (x ∷ xs) [] l hx hy t = absurd (omega arith)
below-value (x ∷ xs) (y ∷ ys) l hx hy t = go (eqb x y) refl t (below-value xs ys (omega arith) hx.1 hy.1)
  where
    go : (b : Bool) → eqb x y ≡ b → cond b (below xs ys) (ltb x y) ≡ true → (below xs ys ≡ true → value xs < value ys)
        → x * 2 ^ length xs + value xs < y * 2 ^ length ys + value ys
    go true q h ih =
        let p : 2 ^ length xs ≡ 2 ^ length ys = ap (λ (n : ℕ). 2 ^ n) (omega arith) in
        rw (eqb-true x y q, p) (omega (arith, ih h))
    go false q h ih =
        let n : length xs ≡ length ys = omega arith in
        let v : value xs < 2 ^ length ys = subst (λ (w : ℕ). value xs < 2 ^ w) n (value-lt xs hx.1) in
        rw n (omega (arith, digits_lt (ltb-true x y h) v))

pub below-value-key : (a b : List ℕ) → IsKey a → IsKey b → below a b ≡ true → value a < value b
below-value-key a b ka kb t = below-value a b (ka.size ∙ sym kb.size) ka.bits kb.bits t

pub value-below-key : (a b : List ℕ) → IsKey a → IsKey b → value a < value b → below a b ≡ true
value-below-key a b ka kb l = go (below_trichotomy a b)
  where
    go : (below a b ≡ true) ⊎ ((a ≡ b) ⊎ (below b a ≡ true)) → below a b ≡ true
    go (inl t) = t
    go (inr (inl e)) = absurd (omega (arith, ap value e))
    go (inr (inr t)) = absurd (omega (arith, below-value-key b a kb ka t))

-- ---- shared bits

module _ (x y : ℕ) (xs ys : List ℕ) where
  pub shared_bits_more : x ≡ y → shared_bits (x ∷ xs) (y ∷ ys) ≡ suc (shared_bits xs ys)
  unfolding shared_bits
  shared_bits_more e = rw (eq-eqb x y e)

  pub shared_bits_stop : (x ≡ y → ⊥) → shared_bits (x ∷ xs) (y ∷ ys) ≡ 0
  unfolding shared_bits
  shared_bits_stop d = rw (ne_eqb x y d)

pub shared_bits_same : (a : List ℕ) → shared_bits a a ≡ length a
unfolding shared_bits
shared_bits_same [] = refl
shared_bits_same (x ∷ xs) = shared_bits_more x x xs xs refl ∙ ap suc (shared_bits_same xs)

-- no more than either has
pub shared_bits_bound : (a b : List ℕ) → shared_bits a b ≤ length a
unfolding shared_bits
shared_bits_bound [] b = omega arith
shared_bits_bound (x ∷ xs) [] = omega arith
shared_bits_bound (x ∷ xs) (y ∷ ys) = go (eqb x y) refl (shared_bits_bound xs ys)
  where
    go : (t : Bool) → eqb x y ≡ t → shared_bits xs ys ≤ length xs → shared_bits (x ∷ xs) (y ∷ ys) ≤ suc (length xs)
    go true q ih = rw q (omega arith)
    go false q ih = rw q (omega arith)

pub shared_bits-take : (a b : List ℕ) → take (shared_bits a b) a ≡ take (shared_bits a b) b
unfolding shared_bits
shared_bits-take [] [] = refl
shared_bits-take [] (y ∷ ys) = refl
shared_bits-take (x ∷ xs) [] = refl
shared_bits-take (x ∷ xs) (y ∷ ys) = go (eqb x y) refl (shared_bits-take xs ys)
  where
    go : (t : Bool) → eqb x y ≡ t → take (shared_bits xs ys) xs ≡ take (shared_bits xs ys) ys
        → take (shared_bits (x ∷ xs) (y ∷ ys)) (x ∷ xs) ≡ take (shared_bits (x ∷ xs) (y ∷ ys)) (y ∷ ys)
    go true q ih = rw (shared_bits_more x y xs ys (eqb-true x y q)) (ap₂ ◌∷◌ (eqb-true x y q) ih)
    go false q ih = rw (shared_bits_stop x y xs ys (eqb-false x y q))

pub shared_bits-take-le : (a b : List ℕ) (n : ℕ) → n ≤ shared_bits a b → take n a ≡ take n b
shared_bits-take-le a b n h =
    sym (take-take n (shared_bits a b) a h) ∙ ap (take n) (shared_bits-take a b) ∙ take-take n (shared_bits a b) b h

-- and no longer front is common to both
pub shared_bits_largest : (a b : List ℕ) (n : ℕ) → n ≤ length a → n ≤ length b → take n a ≡ take n b → n ≤ shared_bits a b
unfolding shared_bits
shared_bits_largest a b zero p q e = omega arith
shared_bits_largest [] b (suc n) p q e = absurd (not-suc-le-zero p)
shared_bits_largest (x ∷ xs) [] (suc n) p q e = absurd (not-suc-le-zero q)
shared_bits_largest (x ∷ xs) (y ∷ ys) (suc n) p q e =
    let h : x ≡ y = cc in
    let t : take n xs ≡ take n ys = cc in
    rw (shared_bits_more x y xs ys h) (suc-le-suc (shared_bits_largest xs ys n (le_of_suc-le-suc p) (le_of_suc-le-suc q) t))

-- they differ in the next bit
pub shared_bits_differ : (a b : List ℕ) → shared_bits a b < length a → shared_bits a b < length b
    → get_or a (shared_bits a b) 0 ≡ get_or b (shared_bits a b) 0 → ⊥
unfolding shared_bits
shared_bits_differ [] b p q e = not-suc-le-zero p
shared_bits_differ (x ∷ xs) [] p q e = not-suc-le-zero q
shared_bits_differ (x ∷ xs) (y ∷ ys) p q e = go (eqb x y) refl p q e (shared_bits_differ xs ys)
  where
    go : (t : Bool) → eqb x y ≡ t → shared_bits (x ∷ xs) (y ∷ ys) < suc (length xs) → shared_bits (x ∷ xs) (y ∷ ys) < suc (length ys)
        → get_or (x ∷ xs) (shared_bits (x ∷ xs) (y ∷ ys)) 0 ≡ get_or (y ∷ ys) (shared_bits (x ∷ xs) (y ∷ ys)) 0
        → (shared_bits xs ys < length xs → shared_bits xs ys < length ys → get_or xs (shared_bits xs ys) 0 ≡ get_or ys (shared_bits xs ys) 0 → ⊥) → ⊥
    go true t p q e ih =
        let m : shared_bits (x ∷ xs) (y ∷ ys) ≡ suc (shared_bits xs ys) = shared_bits_more x y xs ys (eqb-true x y t) in
        ih (omega arith) (omega arith) (subst (λ (n : ℕ). get_or (x ∷ xs) n 0 ≡ get_or (y ∷ ys) n 0) m e)
    go false t p q e ih =
        let m : shared_bits (x ∷ xs) (y ∷ ys) ≡ 0 = shared_bits_stop x y xs ys (eqb-false x y t) in
        eqb-false x y t (subst (λ (n : ℕ). get_or (x ∷ xs) n 0 ≡ get_or (y ∷ ys) n 0) m e)

-- and where they share all there is they are equal
pub shared_bits_all : (a b : List ℕ) → length a ≤ shared_bits a b → length b ≤ shared_bits a b → a ≡ b
shared_bits_all a b p q = sym (take_all (shared_bits a b) a p) ∙ shared_bits-take a b ∙ take_all (shared_bits a b) b q

shared_bits_heads : (x y z : ℕ) (xs ys zs : List ℕ) → (x < y) ⊎ ((x ≡ y) × (below xs ys ≡ true))
    → (y < z) ⊎ ((y ≡ z) × (below ys zs ≡ true))
    → (below xs ys ≡ true → below ys zs ≡ true → shared_bits xs zs ≡ min (shared_bits xs ys) (shared_bits ys zs))
    → shared_bits (x ∷ xs) (z ∷ zs) ≡ min (shared_bits (x ∷ xs) (y ∷ ys)) (shared_bits (y ∷ ys) (z ∷ zs))
shared_bits_heads x y z xs ys zs (inl l) (inl m) ih =
    omega (arith, shared_bits_stop x z xs zs (omega arith), shared_bits_stop x y xs ys (omega arith))
shared_bits_heads x y z xs ys zs (inl l) (inr m) ih =
    omega (arith, shared_bits_stop x z xs zs (omega arith), shared_bits_stop x y xs ys (omega arith))
shared_bits_heads x y z xs ys zs (inr l) (inl m) ih =
    omega (arith, shared_bits_stop x z xs zs (omega arith), shared_bits_stop y z ys zs (omega arith))
shared_bits_heads x y z xs ys zs (inr l) (inr m) ih =
    omega (arith, shared_bits_more x z xs zs (l.0 ∙ m.0), shared_bits_more x y xs ys l.0, shared_bits_more y z ys zs m.0, ih l.1 m.1)

-- of three in ascending order the outer two share what all three share
pub shared_bits-ascending : (a b c : List ℕ) → below a b ≡ true → below b c ≡ true
    → shared_bits a c ≡ min (shared_bits a b) (shared_bits b c)
unfolding below shared_bits
shared_bits-ascending a b [] p q = let z : ◌≡◌ {A = ℕ} 0 1 = cc (below-nil b) in absurd (omega arith)
shared_bits-ascending a [] (z ∷ zs) p q = let z : ◌≡◌ {A = ℕ} 0 1 = cc (below-nil a) in absurd (omega arith)
shared_bits-ascending [] (y ∷ ys) (z ∷ zs) p q = omega arith
shared_bits-ascending (x ∷ xs) (y ∷ ys) (z ∷ zs) p q =
    shared_bits_heads x y z xs ys zs (below_cases x y xs ys p) (below_cases y z ys zs q) (shared_bits-ascending xs ys zs)

-- ---- the last set bit

pub last_set-set : (k : List ℕ) (i : ℕ) → 0 < get_or k i 0 → i < last_set k
unfolding last_set reach
last_set-set [] i h = absurd (not-suc-le-zero h)
last_set-set (b ∷ bs) zero h = go (last_set bs)
  where
    go : (n : ℕ) → 0 < reach b n
    go zero = h
    go (suc n) = omega arith
last_set-set (b ∷ bs) (suc i) h = go (last_set bs) (last_set-set bs i h)
  where
    go : (n : ℕ) → i < n → suc i < reach b n
    go zero l = absurd (not-suc-le-zero l)
    go (suc n) l = suc-le-suc l

-- from there on bits are zero
pub last_set-zero : (k : List ℕ) (i : ℕ) → last_set k ≤ i → get_or k i 0 ≡ 0
last_set-zero k i h = go (get_or k i 0) refl
  where
    go : (b : ℕ) → get_or k i 0 ≡ b → get_or k i 0 ≡ 0
    go zero e = e
    go (suc b) e = absurd (omega (arith, last_set-set k i (omega arith)))

-- and it is the first such place
pub last_set-least : (k : List ℕ) (n : ℕ) → AllBelow 2 k → ((i : ℕ) → n ≤ i → get_or k i 0 ≡ 0) → last_set k ≤ n
unfolding last_set reach AllBelow
last_set-least [] n b f = omega arith
last_set-least (x ∷ xs) zero b f =
    go (last_set xs) (last_set-least xs zero b.1 (λ i h. f (suc i) (omega arith))) (f 0 (omega arith))
  where
    go : (n : ℕ) → n ≤ 0 → x ≡ 0 → reach x n ≤ 0
    go zero l e = omega arith
    go (suc n) l e = absurd (not-suc-le-zero l)
last_set-least (x ∷ xs) (suc m) b f = go (last_set xs) (last_set-least xs m b.1 (λ i h. f (suc i) (suc-le-suc h))) b.0
  where
    go : (n : ℕ) → n ≤ m → x < 2 → reach x n ≤ suc m
    go zero l h = omega arith
    go (suc n) l h = suc-le-suc l

-- the bit that it counts to is set
pub last_set-last : (k : List ℕ) (n : ℕ) → AllBelow 2 k → last_set k ≡ suc n → get_or k n 0 ≡ 1
unfolding last_set reach AllBelow
last_set-last [] n w e = absurd (omega arith)
last_set-last (b ∷ bs) n w e = go (last_set bs) refl e (λ m. last_set-last bs m w.1)
  where
    go : (m : ℕ) → last_set bs ≡ m → reach b m ≡ suc n → ((j : ℕ) → last_set bs ≡ suc j → get_or bs j 0 ≡ 1) → get_or (b ∷ bs) n 0 ≡ 1
    go zero q e ih =
        let z : n ≡ 0 = omega (arith, w.0) in
        let o : b ≡ 1 = omega (arith, w.0) in
        rw z o
    go (suc m) q e ih =
        let z : n ≡ suc m = omega arith in
        rw z (ih m q)

pub last_set_bound : (k : List ℕ) → AllBelow 2 k → last_set k ≤ length k
last_set_bound k b = last_set-least k (length k) b (λ i h. get_or-eq_default k 0 {n = i} h)

-- the greater of two of one length has a set bit where they first differ
pub last_set_past : (a b : List ℕ) → length a ≡ length b → below a b ≡ true → shared_bits a b < last_set b
unfolding below shared_bits last_set reach
last_set_past [] [] e t = let z : ◌≡◌ {A = ℕ} 0 1 = cc in absurd (omega arith)
last_set_past [] (y ∷ ys) e t = absurd (omega arith)
last_set_past (x ∷ xs) [] e t = absurd (omega arith)
last_set_past (x ∷ xs) (y ∷ ys) e t = go (below_cases x y xs ys t) (last_set_past xs ys (omega arith))
  where
    deep : (n : ℕ) → shared_bits xs ys < n → suc (shared_bits xs ys) < reach y n
    deep zero l = absurd (not-suc-le-zero l)
    deep (suc n) l = suc-le-suc l

    go : (x < y) ⊎ ((x ≡ y) × (below xs ys ≡ true)) → (below xs ys ≡ true → shared_bits xs ys < last_set ys)
        → shared_bits (x ∷ xs) (y ∷ ys) < reach y (last_set ys)
    go (inl l) ih = rw (shared_bits_stop x y xs ys (λ e. omega arith)) (last_set-set (y ∷ ys) 0 (omega arith))
    go (inr l) ih = rw (shared_bits_more x y xs ys l.0) (deep (last_set ys) (ih l.1))

-- the bits up to there, and zeros, are the whole
pub fill-last_set : (n : ℕ) (bs : List ℕ) → last_set bs ≤ n → fill (length bs) (take n bs) ≡ bs
fill-last_set n bs h = sym (fill_unique (length bs) bs (take n bs) refl (λ i l. go i (dec_lt i n)))
  where
    go : (i : ℕ) → Dec (i < n) → get_or bs i 0 ≡ get_or (take n bs) i 0
    go i (yes l) = sym (get_or-take n bs i 0 l)
    go i (no l) =
        let s : length (take n bs) ≤ i = omega (arith, length-take n bs) in
        last_set-zero bs i (omega arith) ∙ sym (get_or-eq_default (take n bs) 0 {n = i} s)

-- ---- the separator length

pub separator_length_positive : (k : List ℕ) → 1 ≤ separator_length k
unfolding separator_length
separator_length_positive k = omega arith

pub last_set-separator_length : (k : List ℕ) → last_set k ≤ separator_length k
unfolding separator_length
last_set-separator_length k = omega arith

pub separator_length-least : (k : List ℕ) (n : ℕ) → 1 ≤ n → AllBelow 2 k → ((i : ℕ) → n ≤ i → get_or k i 0 ≡ 0) → separator_length k ≤ n
unfolding separator_length
separator_length-least k n p b f = omega (arith, last_set-least k n b f)

pub separator_length_bound : (k : List ℕ) → IsKey k → separator_length k ≤ 256
unfolding separator_length
separator_length_bound k h = omega (arith, h.size, last_set_bound k h.bits)

-- from there on bits are zero
pub separator_length-zero : (k : List ℕ) (i : ℕ) → separator_length k ≤ i → get_or k i 0 ≡ 0
separator_length-zero k i h = last_set-zero k i (omega (arith, last_set-separator_length k))

-- the greater of two keys is longer than what they share
pub separator_length_past : (a b : List ℕ) → length a ≡ length b → below a b ≡ true → shared_bits a b < separator_length b
separator_length_past a b e t = omega (arith, last_set_past a b e t, last_set-separator_length b)

-- that many bits or more, and zeros, are the key
-- the bit before it is set, but for a length of 1
pub separator_length-last : (k : List ℕ) → AllBelow 2 k → (separator_length k ≡ 1) ⊎ (get_or k (separator_length k - 1) 0 ≡ 1)
unfolding separator_length
separator_length-last k w = go (last_set k) refl
  where
    go : (n : ℕ) → last_set k ≡ n → (separator_length k ≡ 1) ⊎ (get_or k (separator_length k - 1) 0 ≡ 1)
    go zero e = inl (omega arith)
    go (suc n) e =
        let z : separator_length k - 1 ≡ n = omega arith in
        inr (rw z (last_set-last k n w e))

pub fill-take-key : (k : List ℕ) (n : ℕ) → IsKey k → separator_length k ≤ n → fill 256 (take n k) ≡ k
fill-take-key k n y h =
    subst (λ (w : ℕ). fill w (take n k) ≡ k) y.size (fill-last_set n k (omega (arith, last_set-separator_length k)))

-- q bits, and what follows them up to the separator's end
pub fill-prefix-key : (k : List ℕ) (q : ℕ) → IsKey k
    → fill 256 (take q k ++ take (separator_length k - q) (drop q k)) ≡ k
fill-prefix-key k q y =
    ap (fill 256) (sym (take-add q (separator_length k - q) k)) ∙ fill-take-key k (q + (separator_length k - q)) y (omega arith)
