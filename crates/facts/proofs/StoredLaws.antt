-- Laws of what a page stores of keys (format's `specs/Normal.antt`).
-- In order: `sum` and `running`; `words`; the bits that all keys share (`shared_with`, `shared_by_all`); stored lengths
-- and their sum; stored bits, one key at a time (`stored`).
-- Not here: laws of one or two keys (`KeyLaws`); which choice is best (`ChoiceLaws`); the page (`NormalLaws`).
-- Assumes nothing.
use mathlib.Core.List.{◌++◌, List, [], append_assoc, map, ◌∷◌}
use mathlib.Core.Logic.{⊎_elim}
use mathlib.Core.Path.{ap, ap₂, refl, sym, ◌∙◌, ◌≡◌}
use Prim.Native.Nat.{◌*◌, ◌+◌, ◌-◌, ◌<◌, ◌^◌, suc, suc-le-suc, zero, ℕ, ◌≤◌}
use native.Mathlib.Nat.{add_assoc, eq-or-lt_of_le, le_of_suc-le-suc, le_refl, le_trans, not-suc-le-zero, zero-lt-suc}
use native.Mathlib.Omega.{arith}
use lib.ListN.{drop, get_or, length, length-append, length-drop, take}
use lib.Seq.{drop-append-add, get_or-take, length-take-le, take_at}
use Rattle.format.specs.Bits.{AllBelow, le, unle}
use Rattle.format.specs.Key.{IsKey, separator_length, shared_bits}
use Rattle.format.specs.Normal.{running, shared_by_all, shared_with, stored_bits, stored_lengths, sum, words}
use Rattle.facts.proofs.BitsLaws.{AllBelow-append, AllBelow-drop, AllBelow-le, AllBelow-take, length-le, unle-le}
use Rattle.facts.proofs.KeyLaws.{separator_length_bound, shared_bits-ascending, shared_bits_bound, shared_bits_same, shared_bits-take-le}
use Rattle.facts.proofs.EntryLaws.{AreKeys, Ascending, ascending-below, ascending-size}

-- ---- sum and running

pub sum-take-le : (i : ℕ) (xs : List ℕ) → sum (take i xs) ≤ sum xs
unfolding sum
sum-take-le zero xs = omega arith
sum-take-le (suc i) [] = omega arith
sum-take-le (suc i) (x ∷ xs) = omega (arith, sum-take-le i xs)

pub sum-take-suc : (i : ℕ) (xs : List ℕ) → i < length xs → sum (take (suc i) xs) ≡ sum (take i xs) + get_or xs i 0
unfolding sum
sum-take-suc i [] h = absurd (not-suc-le-zero h)
sum-take-suc zero (x ∷ xs) h = omega arith
sum-take-suc (suc i) (x ∷ xs) h = omega (arith, sum-take-suc i xs (le_of_suc-le-suc h))

pub length-running : (a : ℕ) (xs : List ℕ) → length (running a xs) ≡ length xs
unfolding running
length-running a [] = refl
length-running a (x ∷ xs) = ap suc (length-running (a + x) xs)

pub running_at : (a : ℕ) (xs : List ℕ) (i : ℕ) → i < length xs → get_or (running a xs) i 0 ≡ a + sum (take (suc i) xs)
unfolding running sum
running_at a [] i h = absurd (not-suc-le-zero h)
running_at a (x ∷ xs) zero h = omega arith
running_at a (x ∷ xs) (suc i) h = running_at (a + x) xs i (le_of_suc-le-suc h) ∙ add_assoc a x (sum (take (suc i) xs))

-- ---- words

-- the first part of three, and what is past it
take-first : (xs ys zs : List ℕ) (n : ℕ) → length xs ≡ n → take n ((xs ++ ys) ++ zs) ≡ xs
take-first xs ys zs n e = ap (take n) (append_assoc xs ys zs) ∙ take_at xs (ys ++ zs) n e

drop-first : (xs ys zs : List ℕ) (n k : ℕ) → length xs ≡ n → drop (n + k) ((xs ++ ys) ++ zs) ≡ drop k (ys ++ zs)
drop-first xs ys zs n k e =
    ap₂ (λ (j : ℕ) (l : List ℕ). drop (j + k) l) (sym e) (append_assoc xs ys zs) ∙ drop-append-add xs (ys ++ zs) k

pub length-words : (w : ℕ) (xs : List ℕ) → length (words w xs) ≡ w * length xs
unfolding words
length-words w [] = omega arith
length-words w (x ∷ xs) = omega (arith, length-append (le w x) (words w xs), length-le w x, length-words w xs)

pub AllBelow-words : (w : ℕ) (xs : List ℕ) → AllBelow 256 (words w xs)
unfolding words AllBelow
AllBelow-words w [] = tt
AllBelow-words w (x ∷ xs) = AllBelow-append 256 (le w x) (words w xs) (AllBelow-le w x) (AllBelow-words w xs)

pub words_at : (w : ℕ) (xs rest : List ℕ) (i : ℕ) → i < length xs → take w (drop (w * i) (words w xs ++ rest)) ≡ le w (get_or xs i 0)
unfolding words
words_at w [] rest i h = absurd (not-suc-le-zero h)
words_at w (x ∷ xs) rest zero h =
    let e : w * 0 ≡ 0 = omega arith in
    ap (λ (k : ℕ). take w (drop k ((le w x ++ words w xs) ++ rest))) e ∙ take-first (le w x) (words w xs) rest w (length-le w x)
words_at w (x ∷ xs) rest (suc i) h =
    let e : w * suc i ≡ w + w * i = omega arith in
    ap (λ (k : ℕ). take w (drop k ((le w x ++ words w xs) ++ rest))) e ∙ ap (take w) (drop-first (le w x) (words w xs) rest w (w * i) (length-le w x))
    ∙ words_at w xs rest i (le_of_suc-le-suc h)

-- word i is read back
pub unle-words : (w : ℕ) (xs rest : List ℕ) (i : ℕ) → i < length xs → get_or xs i 0 < 256 ^ w
    → unle (take w (drop (w * i) (words w xs ++ rest))) ≡ get_or xs i 0
unle-words w xs rest i h l = ap unle (words_at w xs rest i h) ∙ unle-le w (get_or xs i 0) l

-- ---- what all keys share

pub shared_with_bound : (k : List ℕ) (ks : List (List ℕ)) → shared_with k ks ≤ 256
unfolding shared_with
shared_with_bound k [] = omega arith
shared_with_bound k (j ∷ ks) = omega (arith, shared_with_bound k ks)

pub shared_by_all_bound : (ks : List (List ℕ)) → shared_by_all ks ≤ 256
unfolding shared_by_all
shared_by_all_bound [] = omega arith
shared_by_all_bound (k ∷ ks) = shared_with_bound k ks

pub shared_with-each : (k : List ℕ) (ks : List (List ℕ)) (i : ℕ) → i < length ks → shared_with k ks ≤ shared_bits k (get_or ks i [])
unfolding shared_with
shared_with-each k [] i h = absurd (not-suc-le-zero h)
shared_with-each k (j ∷ ks) zero h = omega arith
shared_with-each k (j ∷ ks) (suc i) h = omega (arith, shared_with-each k ks i (le_of_suc-le-suc h))

pub shared_with_largest : (k : List ℕ) (ks : List (List ℕ)) (n : ℕ) → n ≤ 256
    → ((i : ℕ) → i < length ks → n ≤ shared_bits k (get_or ks i [])) → n ≤ shared_with k ks
unfolding shared_with
shared_with_largest k [] n p f = p
shared_with_largest k (j ∷ ks) n p f =
    omega (arith, f 0 (zero-lt-suc (length ks)), shared_with_largest k ks n p (λ i h. f (suc i) (suc-le-suc h)))

-- the first of them and each other share at least that
pub shared_by_all-each : (ks : List (List ℕ)) (m i : ℕ) → m ≤ length ks → suc i < m
    → shared_by_all (take m ks) ≤ shared_bits (get_or ks 0 []) (get_or ks (suc i) [])
unfolding shared_by_all
shared_by_all-each [] m i l h = absurd (omega arith)
shared_by_all-each (k ∷ ks) zero i l h = absurd (not-suc-le-zero h)
shared_by_all-each (k ∷ ks) (suc m) i l h =
    let g : get_or (take m ks) i [] ≡ get_or ks i [] = get_or-take m ks i [] (le_of_suc-le-suc h) in
    let b : i < length (take m ks) = omega (arith, length-take-le m ks (le_of_suc-le-suc l)) in
    rw g at (shared_with-each k (take m ks) i b)

pub shared_by_all_largest : (ks : List (List ℕ)) (m n : ℕ) → m ≤ length ks → n ≤ 256
    → ((i : ℕ) → suc i < m → n ≤ shared_bits (get_or ks 0 []) (get_or ks (suc i) [])) → n ≤ shared_by_all (take m ks)
unfolding shared_by_all
shared_by_all_largest [] zero n l p f = p
shared_by_all_largest [] (suc m) n l p f = p
shared_by_all_largest (k ∷ ks) zero n l p f = p
shared_by_all_largest (k ∷ ks) (suc m) n l p f =
    shared_with_largest k (take m ks) n p (λ i h. let b : i < m = omega (arith, length-take-le m ks (le_of_suc-le-suc l)) in
    rw (get_or-take m ks i [] b) (f i (suc-le-suc b)))

pub shared_by_all-one : (ks : List (List ℕ)) → shared_by_all (take 1 ks) ≡ 256
unfolding shared_by_all shared_with
shared_by_all-one [] = refl
shared_by_all-one (k ∷ ks) = refl

-- so each starts with what all share
pub shared_by_all-take : (ks : List (List ℕ)) (m q i : ℕ) → m ≤ length ks → q ≤ shared_by_all (take m ks) → i < m
    → take q (get_or ks 0 []) ≡ take q (get_or ks i [])
shared_by_all-take ks m q zero l h r = refl
shared_by_all-take ks m q (suc i) l h r =
    shared_bits-take-le (get_or ks 0 []) (get_or ks (suc i) []) q (le_trans h (shared_by_all-each ks m i l r))

-- of ascending keys the first and the last share what all share
module _ (ks : List (List ℕ)) (a : Ascending ks) where
  -- the first shares no more with a later one than with one before
  pub ascending-shared : (i j : ℕ) → i ≤ j → j < length ks
      → shared_bits (get_or ks 0 []) (get_or ks j []) ≤ shared_bits (get_or ks 0 []) (get_or ks i [])
  ascending-shared zero j h l = omega (arith, shared_bits_bound (get_or ks 0 []) (get_or ks j []), shared_bits_same (get_or ks 0 []))
  ascending-shared (suc i) j h l =
      ⊎_elim (λ (e : suc i ≡ j). rw e (le_refl _))
      (λ (g : suc i < j).
      omega (arith, shared_bits-ascending (get_or ks 0 []) (get_or ks (suc i) []) (get_or ks j []) (ascending-below ks a 0 (suc i) (omega arith) (omega arith)) (ascending-below ks a (suc i) j g l)))
      (eq-or-lt_of_le h)

  shared_by_all-last : (m : ℕ) → m < length ks → shared_bits (get_or ks 0 []) (get_or ks m []) ≤ shared_by_all (take (suc m) ks)
  shared_by_all-last m h =
      let z : 0 < length ks = omega arith in
      let b : shared_bits (get_or ks 0 []) (get_or ks m []) ≤ 256 =
      omega (arith, shared_bits_bound (get_or ks 0 []) (get_or ks m []), ascending-size ks a 0 z) in
      shared_by_all_largest ks (suc m) (shared_bits (get_or ks 0 []) (get_or ks m [])) h b (λ i l. ascending-shared (suc i) m (le_of_suc-le-suc l) h)

  pub shared_by_all-ascending : (m : ℕ) → m < length ks → shared_by_all (take (suc m) ks) ≡ shared_bits (get_or ks 0 []) (get_or ks m [])
  shared_by_all-ascending zero h = shared_by_all-one ks ∙ sym (shared_bits_same (get_or ks 0 []) ∙ ascending-size ks a 0 h)
  shared_by_all-ascending (suc m) h =
      omega (arith, shared_by_all-last (suc m) h, shared_by_all-each ks (suc (suc m)) m h (le_refl (suc (suc m))))

-- ---- stored lengths

pub length-stored_lengths : (m q : ℕ) (ks : List (List ℕ)) → length (stored_lengths m q ks) ≡ length ks
unfolding stored_lengths
length-stored_lengths zero q [] = refl
length-stored_lengths (suc m) q [] = refl
length-stored_lengths zero q (k ∷ ks) = ap suc (length-stored_lengths zero q ks)
length-stored_lengths (suc m) q (k ∷ ks) = ap suc (length-stored_lengths m q ks)

-- entry i leaves out the prefix
pub stored_lengths-compressed : (m q : ℕ) (ks : List (List ℕ)) (i : ℕ) → i < m → i < length ks
    → get_or (stored_lengths m q ks) i 0 ≡ separator_length (get_or ks i []) - q
unfolding stored_lengths
stored_lengths-compressed zero q ks i h l = absurd (not-suc-le-zero h)
stored_lengths-compressed (suc m) q [] i h l = absurd (not-suc-le-zero l)
stored_lengths-compressed (suc m) q (k ∷ ks) zero h l = refl
stored_lengths-compressed (suc m) q (k ∷ ks) (suc i) h l =
    stored_lengths-compressed m q ks i (le_of_suc-le-suc h) (le_of_suc-le-suc l)

-- entry i is stored whole
pub stored_lengths_plain : (m q : ℕ) (ks : List (List ℕ)) (i : ℕ) → m ≤ i → i < length ks
    → get_or (stored_lengths m q ks) i 0 ≡ separator_length (get_or ks i [])
unfolding stored_lengths
stored_lengths_plain zero q [] i h l = absurd (not-suc-le-zero l)
stored_lengths_plain (suc m) q [] i h l = absurd (not-suc-le-zero l)
stored_lengths_plain zero q (k ∷ ks) zero h l = refl
stored_lengths_plain zero q (k ∷ ks) (suc i) h l = stored_lengths_plain zero q ks i (omega arith) (le_of_suc-le-suc l)
stored_lengths_plain (suc m) q (k ∷ ks) zero h l = absurd (not-suc-le-zero h)
stored_lengths_plain (suc m) q (k ∷ ks) (suc i) h l = stored_lengths_plain m q ks i (le_of_suc-le-suc h) (le_of_suc-le-suc l)

pub sum-stored_lengths : (m q : ℕ) (ks : List (List ℕ)) → m ≤ length ks → ((i : ℕ) → i < m → q ≤ separator_length (get_or ks i []))
    → sum (stored_lengths m q ks) + m * q ≡ sum (map separator_length ks)
unfolding stored_lengths sum
sum-stored_lengths zero q [] h f = omega arith
sum-stored_lengths (suc m) q [] h f = absurd (not-suc-le-zero h)
sum-stored_lengths zero q (k ∷ ks) h f = omega (arith, sum-stored_lengths zero q ks (omega arith) (λ i l. absurd (not-suc-le-zero l)))
sum-stored_lengths (suc m) q (k ∷ ks) h f =
    omega (arith, f 0 (zero-lt-suc m), sum-stored_lengths m q ks (le_of_suc-le-suc h) (λ i l. f (suc i) (suc-le-suc l)))

-- ---- stored bits

-- the bits stored of key k, which is the i-th
unfoldable pub stored : ℕ → ℕ → ℕ → List ℕ → List ℕ
unfolding separator_length
stored zero q i k = take (separator_length k) k
stored (suc m) q zero k = take (separator_length k - q) (drop q k)
stored (suc m) q (suc i) k = stored m q i k

pub stored-compressed : (m q i : ℕ) (k : List ℕ) → i < m → stored m q i k ≡ take (separator_length k - q) (drop q k)
unfolding stored
stored-compressed zero q i k h = absurd (not-suc-le-zero h)
stored-compressed (suc m) q zero k h = refl
stored-compressed (suc m) q (suc i) k h = stored-compressed m q i k (le_of_suc-le-suc h)

pub stored_plain : (m q i : ℕ) (k : List ℕ) → m ≤ i → stored m q i k ≡ take (separator_length k) k
unfolding stored
stored_plain zero q i k h = refl
stored_plain (suc m) q zero k h = absurd (not-suc-le-zero h)
stored_plain (suc m) q (suc i) k h = stored_plain m q i k (le_of_suc-le-suc h)

length_plain : (k : List ℕ) → IsKey k → length (take (separator_length k) k) ≡ separator_length k
length_plain k y = length-take-le (separator_length k) k (omega (arith, separator_length_bound k y, y.size))

length-compressed : (k : List ℕ) (q : ℕ) → IsKey k → length (take (separator_length k - q) (drop q k)) ≡ separator_length k - q
length-compressed k q y =
    length-take-le (separator_length k - q) (drop q k) (omega (arith, separator_length_bound k y, y.size, length-drop q k))

pub length-stored_bits : (m q : ℕ) (ks : List (List ℕ)) → AreKeys ks → length (stored_bits m q ks) ≡ sum (stored_lengths m q ks)
unfolding stored_bits stored_lengths sum AreKeys
length-stored_bits zero q [] y = refl
length-stored_bits (suc m) q [] y = refl
length-stored_bits zero q (k ∷ ks) y =
    length-append (take (separator_length k) k) (stored_bits zero q ks) ∙ ap₂ ◌+◌ (length_plain k y.0) (length-stored_bits zero q ks y.1)
length-stored_bits (suc m) q (k ∷ ks) y =
    length-append (take (separator_length k - q) (drop q k)) (stored_bits m q ks)
    ∙ ap₂ ◌+◌ (length-compressed k q y.0) (length-stored_bits m q ks y.1)

pub stored_bits_at : (m q : ℕ) (ks : List (List ℕ)) (rest : List ℕ) (i : ℕ) → AreKeys ks → i < length ks
    → take (get_or (stored_lengths m q ks) i 0) (drop (sum (take i (stored_lengths m q ks))) (stored_bits m q ks ++ rest))
    ≡ stored m q i (get_or ks i [])
unfolding stored_bits stored_lengths sum AreKeys stored
stored_bits_at zero q [] rest i y h = absurd (not-suc-le-zero h)
stored_bits_at (suc m) q [] rest i y h = absurd (not-suc-le-zero h)
stored_bits_at zero q (k ∷ ks) rest zero y h =
    take-first (take (separator_length k) k) (stored_bits zero q ks) rest (separator_length k) (length_plain k y.0)
stored_bits_at zero q (k ∷ ks) rest (suc i) y h =
    ap (take (get_or (stored_lengths zero q ks) i 0))
    (drop-first (take (separator_length k) k) (stored_bits zero q ks) rest (separator_length k) (sum (take i (stored_lengths zero q ks))) (length_plain k y.0))
    ∙ stored_bits_at zero q ks rest i y.1 (le_of_suc-le-suc h)
stored_bits_at (suc m) q (k ∷ ks) rest zero y h =
    take-first (take (separator_length k - q) (drop q k)) (stored_bits m q ks) rest (separator_length k - q) (length-compressed k q y.0)
stored_bits_at (suc m) q (k ∷ ks) rest (suc i) y h =
    ap (take (get_or (stored_lengths m q ks) i 0))
    (drop-first (take (separator_length k - q) (drop q k)) (stored_bits m q ks) rest (separator_length k - q) (sum (take i (stored_lengths m q ks)))
    (length-compressed k q y.0))
    ∙ stored_bits_at m q ks rest i y.1 (le_of_suc-le-suc h)

pub AllBelow-stored_bits : (m q : ℕ) (ks : List (List ℕ)) → AreKeys ks → AllBelow 2 (stored_bits m q ks)
unfolding stored_bits AreKeys AllBelow
AllBelow-stored_bits zero q [] y = tt
AllBelow-stored_bits (suc m) q [] y = tt
AllBelow-stored_bits zero q (k ∷ ks) y =
    AllBelow-append 2 (take (separator_length k) k) (stored_bits zero q ks) (AllBelow-take 2 (separator_length k) k y.0.bits) (AllBelow-stored_bits zero q ks y.1)
AllBelow-stored_bits (suc m) q (k ∷ ks) y =
    AllBelow-append 2 (take (separator_length k - q) (drop q k)) (stored_bits m q ks)
    (AllBelow-take 2 (separator_length k - q) (drop q k) (AllBelow-drop 2 q k y.0.bits)) (AllBelow-stored_bits m q ks y.1)
