-- Laws of lists of entries and of their keys: `each`, `Sound` (format's `specs/Page.antt`), `keys`, `pointers`
-- (format's `specs/Normal.antt`), `ascending` (`specs/Edit.antt`).
-- In order: `each`; sound entries; keys and pointers by position; keys in ascending order (`Ascending`), and what the
-- test of entries tells of them.
-- Not here: the entries of a page (`PageLaws`); what keys share (`StoredLaws`).
-- Assumes nothing.
use mathlib.Core.Bool.{◌&&◌, true}
use mathlib.Core.List.{◌++◌, List, [], ◌∷◌}
use mathlib.Core.Logic.{⊎_elim}
use mathlib.Core.Path.{ap, ap₂, refl, ◌≡◌}
use Prim.Native.Nat.{◌<◌, ◌^◌, suc, suc-le-suc, zero, ℕ}
use native.Mathlib.Nat.{eq-or-lt_of_le, le_of_suc-le-suc, not-suc-le-zero, zero-lt-suc}
use native.Mathlib.Omega.{arith}
use lib.ListN.{drop, get_or, length, take}
use Rattle.format.specs.Bits.{AllBelow}
use Rattle.format.specs.Key.{IsKey, below}
use Rattle.format.specs.Page.{Entry, Sound, each}
use Rattle.format.specs.Normal.{first_key, keys, pointers}
use Rattle.format.specs.Edit.{ascending, ascending_from, no_entry}
use Rattle.facts.proofs.AnswerLaws.{and_left, and_right}
use Rattle.facts.proofs.KeyLaws.{below_transitive}

-- ---- each

module _ {ℓ} {X : Type ℓ} where
  pub length-each : (n : ℕ) (f : ℕ → X) → length (each n f) ≡ n
  unfolding each
  length-each zero f = refl
  length-each (suc n) f = ap suc (length-each n (λ i. f (suc i)))

  pub get_or-each : (n : ℕ) (f : ℕ → X) (i : ℕ) (d : X) → i < n → get_or (each n f) i d ≡ f i
  unfolding each
  get_or-each zero f i d h = absurd (not-suc-le-zero h)
  get_or-each (suc n) f zero d h = refl
  get_or-each (suc n) f (suc i) d h = get_or-each n (λ j. f (suc j)) i d (le_of_suc-le-suc h)

-- f at each place of a list is the list
pub each_at {ℓ} : {X : Type ℓ} (xs : List X) (f : ℕ → X) (n : ℕ) (d : X) → n ≡ length xs
    → ((i : ℕ) → i < length xs → f i ≡ get_or xs i d) → each n f ≡ xs
unfolding each
each_at [] f zero d e h = refl
each_at [] f (suc n) d e h = absurd (omega arith)
each_at (x ∷ xs) f zero d e h = absurd (omega arith)
each_at (x ∷ xs) f (suc n) d e h =
    ap₂ ◌∷◌ (h 0 (omega arith)) (each_at xs (λ i. f (suc i)) n d (omega arith) (λ i l. h (suc i) (omega arith)))

pub keys-each : (n : ℕ) (f : ℕ → Entry) → keys (each n f) ≡ each n (λ i. (f i).key)
unfolding keys each
keys-each zero f = refl
keys-each (suc n) f = ap (λ (ks : List (List ℕ)). (f 0).key ∷ ks) (keys-each n (λ i. f (suc i)))

-- ---- sound entries

pub entry_same : (a b : Entry) → a.key ≡ b.key → a.pointer ≡ b.pointer → a ≡ b
entry_same a b k p = let the : List ℕ → ℕ → Entry = λ (x : List ℕ) (y : ℕ). record { key = x; pointer = y } in ap₂ the k p

pub sound_key : (es : List Entry) (i : ℕ) → Sound es → i < length es → IsKey (get_or es i no_entry).key
unfolding Sound
sound_key [] i h q = absurd (omega arith)
sound_key (x ∷ xs) zero h q = h.0
sound_key (x ∷ xs) (suc i) h q = sound_key xs i h.2 (omega arith)

pub sound_append : (xs ys : List Entry) → Sound xs → Sound ys → Sound (xs ++ ys)
unfolding Sound
sound_append [] ys h g = g
sound_append (x ∷ xs) ys h g = (h.0, h.1, sound_append xs ys h.2 g)

pub sound_take : (k : ℕ) (xs : List Entry) → Sound xs → Sound (take k xs)
unfolding Sound
sound_take zero xs h = tt
sound_take (suc k) [] h = tt
sound_take (suc k) (x ∷ xs) h = (h.0, h.1, sound_take k xs h.2)

pub sound_drop : (k : ℕ) (xs : List Entry) → Sound xs → Sound (drop k xs)
unfolding Sound
sound_drop zero xs h = h
sound_drop (suc k) [] h = tt
sound_drop (suc k) (x ∷ xs) h = sound_drop k xs h.2

pub sound_each : (n : ℕ) (f : ℕ → Entry) → ((i : ℕ) → IsKey (f i).key) → ((i : ℕ) → (f i).pointer < 2 ^ 32) → Sound (each n f)
unfolding each Sound
sound_each zero f k b = tt
sound_each (suc n) f k b = (k 0, b 0, sound_each n (λ i. f (suc i)) (λ i. k (suc i)) (λ i. b (suc i)))

-- ---- keys and pointers

pub length-keys : (es : List Entry) → length (keys es) ≡ length es
unfolding keys
length-keys [] = refl
length-keys (e ∷ es) = ap suc (length-keys es)

pub length-pointers : (es : List Entry) → length (pointers es) ≡ length es
unfolding pointers
length-pointers [] = refl
length-pointers (e ∷ es) = ap suc (length-pointers es)

pub keys_at : (es : List Entry) (i : ℕ) (d : Entry) → i < length es → get_or (keys es) i [] ≡ (get_or es i d).key
unfolding keys
keys_at [] i d h = absurd (not-suc-le-zero h)
keys_at (e ∷ es) zero d h = refl
keys_at (e ∷ es) (suc i) d h = keys_at es i d (le_of_suc-le-suc h)

pub pointers_at : (es : List Entry) (i : ℕ) (d : Entry) → i < length es → get_or (pointers es) i 0 ≡ (get_or es i d).pointer
unfolding pointers
pointers_at [] i d h = absurd (not-suc-le-zero h)
pointers_at (e ∷ es) zero d h = refl
pointers_at (e ∷ es) (suc i) d h = pointers_at es i d (le_of_suc-le-suc h)

pub first_key_at : (ks : List (List ℕ)) → first_key ks ≡ get_or ks 0 []
unfolding first_key
first_key_at [] = refl
first_key_at (k ∷ ks) = refl

-- each is a key
unfoldable pub AreKeys : List (List ℕ) → Type 0
AreKeys [] = Unit {0}
AreKeys (k ∷ ks) = IsKey k × AreKeys ks

pub AreKeys-each : (n : ℕ) (f : ℕ → Entry) → ((i : ℕ) → IsKey (f i).key) → AreKeys (keys (each n f))
unfolding AreKeys keys each
AreKeys-each zero f y = tt
AreKeys-each (suc n) f y = (y 0, AreKeys-each n (λ i. f (suc i)) (λ i. y (suc i)))

pub AreKeys_at : (ks : List (List ℕ)) (i : ℕ) → AreKeys ks → i < length ks → IsKey (get_or ks i [])
unfolding AreKeys
AreKeys_at [] i y h = absurd (not-suc-le-zero h)
AreKeys_at (k ∷ ks) zero y h = y.0
AreKeys_at (k ∷ ks) (suc i) y h = AreKeys_at ks i y.1 (le_of_suc-le-suc h)

pub sound_keys : (es : List Entry) → Sound es → AreKeys (keys es)
unfolding Sound keys AreKeys
sound_keys [] s = tt
sound_keys (e ∷ es) s = (s.0, sound_keys es s.2)

pub sound_pointers : (es : List Entry) → Sound es → AllBelow (2 ^ 32) (pointers es)
unfolding Sound pointers AllBelow
sound_pointers [] s = tt
sound_pointers (e ∷ es) s = (s.1, sound_pointers es s.2)

-- ---- keys in ascending order

pub record Ascending (ks : List (List ℕ)) : Type 0 where
  pub key : (i : ℕ) → i < length ks → IsKey (get_or ks i [])
  pub next : (i : ℕ) → suc i < length ks → below (get_or ks i []) (get_or ks (suc i) []) ≡ true

module _ (ks : List (List ℕ)) (a : Ascending ks) where
  pub ascending-size : (i : ℕ) → i < length ks → length (get_or ks i []) ≡ 256
  ascending-size i h = (a.key i h).size

  pub ascending-below : (i j : ℕ) → i < j → j < length ks → below (get_or ks i []) (get_or ks j []) ≡ true
  ascending-below i zero h l = absurd (not-suc-le-zero h)
  ascending-below i (suc j) h l =
      ⊎_elim (λ (e : i ≡ j). rw e (a.next j l))
      (λ (g : i < j). below_transitive (get_or ks i []) (get_or ks j []) (get_or ks (suc j) []) (ascending-below i j g (omega arith)) (a.next j l))
      (eq-or-lt_of_le (le_of_suc-le-suc h))

ascending_from_next : (k : List ℕ) (es : List Entry) → ascending_from k es ≡ true → (i : ℕ) → i < length es
    → below (get_or (k ∷ keys es) i []) (get_or (keys es) i []) ≡ true
unfolding ascending_from keys
ascending_from_next k [] t i h = absurd (not-suc-le-zero h)
ascending_from_next k (e ∷ es) t zero h = and_left _ _ t
ascending_from_next k (e ∷ es) t (suc i) h = ascending_from_next e.key es (and_right (below k e.key) _ t) i (le_of_suc-le-suc h)

next_ascending_from : (k : List ℕ) (es : List Entry)
    → ((i : ℕ) → i < length es → below (get_or (k ∷ keys es) i []) (get_or (keys es) i []) ≡ true) → ascending_from k es ≡ true
unfolding ascending_from keys
next_ascending_from k [] f = refl
next_ascending_from k (e ∷ es) f =
    ap₂ ◌&&◌ (f 0 (zero-lt-suc (length es))) (next_ascending_from e.key es (λ i h. f (suc i) (suc-le-suc h)))

-- what the test of entries tells of their keys, and back
pub ascending_next : (es : List Entry) → ascending es ≡ true → (i : ℕ) → suc i < length es
    → below (get_or (keys es) i []) (get_or (keys es) (suc i) []) ≡ true
unfolding ascending keys
ascending_next [] t i h = absurd (not-suc-le-zero h)
ascending_next (e ∷ es) t i h = ascending_from_next e.key es t i (le_of_suc-le-suc h)

pub next_ascending : (es : List Entry)
    → ((i : ℕ) → suc i < length es → below (get_or (keys es) i []) (get_or (keys es) (suc i) []) ≡ true) → ascending es ≡ true
unfolding ascending keys
next_ascending [] f = refl
next_ascending (e ∷ es) f = next_ascending_from e.key es (λ i h. f i (suc-le-suc h))

pub ascending-keys : (es : List Entry) → Sound es → ascending es ≡ true → Ascending (keys es)
ascending-keys es s t = record {
  key = λ i h. AreKeys_at (keys es) i (sound_keys es s) h;
  next = λ i h. ascending_next es t i (omega (arith, length-keys es));
}

pub keys-ascending : (es : List Entry) → Ascending (keys es) → ascending es ≡ true
keys-ascending es a = next_ascending es (λ i h. a.next i (omega (arith, length-keys es)))
