-- Laws of numbers that are compared by their bits (`last_set`, `shared_bits` and `below` of format's specs/Key.antt).
-- In order: the lowest bit; the last bit that is set; the bits that two numbers share; their order.
-- Not here: those of format's `KeyLaws`.
-- Assumes nothing.
use mathlib.Core.Bool.{Bool, true, false}
use mathlib.Core.List.{List, [], ◌∷◌, ◌++◌, append_assoc}
use mathlib.Core.Logic.{⊎_elim}
use mathlib.Core.Path.{◌≡◌, refl, sym, ap, ap₂, subst, ◌∙◌}
use Prim.Native.Nat.{ℕ, zero, suc, ◌+◌, ◌-◌, ◌*◌, ◌/◌, ◌%◌, ◌^◌, ◌≤◌, ◌<◌}
use native.Mathlib.Nat.{zero-add, suc-add, div-one, mod-lt, mod-eq_of_lt, le_of_lt, eq-or-lt_of_le}
use native.Mathlib.Omega.{arith}
use native.Mathlib.Decide.{ℕ_discrete}
use borrow.Author.Tests.{ltb-true, ltb-false}
use lib.Dec.{ltb}
use lib.Bits.{bit_xor, xor_shr, xor_add_and, xor_self, and_le_l, and_le_r}
use lib.Count.{count_trailing_zeros, count_leading_zeros, leading_of_zero, under}
use lib.Pow.{pow_pos, split, shr_lt, shr_mono, shr-shr}
use lib.ListN.{length}
use Rattle.format.specs.Bits.{bits}
use Rattle.format.specs.Key.{last_set, reach, below, shared_bits}
use Rattle.facts.proofs.BitsLaws.{length-bits, bits-mod}
use Rattle.facts.proofs.KeyLaws.{below_less, below_more, below_same, below-prefix, shared_bits_more, shared_bits_stop}

-- the lowest bit is the last
pub bits_snoc : (w n : ℕ) → bits (suc w) n ≡ bits w (n / 2) ++ (n % 2 ∷ [])
unfolding bits
bits_snoc zero n = rw div-one
bits_snoc (suc w) n =
    let e : n / 2 ^ suc w ≡ n / 2 / 2 ^ w = ap (λ (x : ℕ). n / 2 ^ x) (omega arith) ∙ sym (shr-shr n 1 w) in
    ap₂ ◌∷◌ (ap (λ (x : ℕ). x % 2) e) (bits_snoc w n)

pub bits_snoc_append : (w n : ℕ) (xs : List ℕ) → bits (suc w) n ++ xs ≡ bits w (n / 2) ++ (n % 2 ∷ xs)
bits_snoc_append w n xs =
    ap (λ (l : List ℕ). l ++ xs) (bits_snoc w n) ∙ append_assoc (bits w (n / 2)) (n % 2 ∷ []) xs

-- ---- the last bit that is set

pub last_set_zeros : (xs ys : List ℕ) → last_set ys ≡ 0 → last_set (xs ++ ys) ≡ last_set xs
unfolding last_set
last_set_zeros [] ys e = e
last_set_zeros (x ∷ xs) ys e = ap (reach x) (last_set_zeros xs ys e)

pub last_set_more : (xs ys : List ℕ) (m : ℕ) → last_set ys ≡ suc m → last_set (xs ++ ys) ≡ suc (length xs + m)
unfolding last_set reach
last_set_more [] ys m e = e ∙ ap suc (sym (zero-add m))
last_set_more (x ∷ xs) ys m e =
    ap (reach x) (last_set_more xs ys m e) ∙ ap (λ (n : ℕ). suc n) (sym (suc-add (length xs) m))

last_set_digit : (d : ℕ) → last_set (d ∷ []) ≡ d
unfolding last_set reach
last_set_digit d = refl

pub last_set-bits : (w n : ℕ) → last_set (bits w n) ≡ w - count_trailing_zeros w n
unfolding bits count_trailing_zeros last_set
last_set-bits zero n = refl
last_set-bits (suc w) n = go (n % 2) refl (last_set-bits w (n / 2))
  where
    go : (d : ℕ) → n % 2 ≡ d → last_set (bits w (n / 2)) ≡ w - count_trailing_zeros w (n / 2)
        → last_set (bits (suc w) n) ≡ suc w - under (n % 2) (count_trailing_zeros w (n / 2))
    go zero e ih =
        ap last_set (bits_snoc w n) ∙ last_set_zeros (bits w (n / 2)) (n % 2 ∷ []) (last_set_digit (n % 2) ∙ e) ∙ ih
        ∙ sym (ap (λ (d : ℕ). suc w - under d (count_trailing_zeros w (n / 2))) e ∙ omega arith)
    go (suc zero) e ih =
        ap last_set (bits_snoc w n) ∙ last_set_more (bits w (n / 2)) (n % 2 ∷ []) 0 (last_set_digit (n % 2) ∙ e)
        ∙ ap (λ (l : ℕ). suc (l + 0)) (length-bits w (n / 2))
        ∙ sym (ap (λ (d : ℕ). suc w - under d (count_trailing_zeros w (n / 2))) e ∙ omega arith)
    go (suc (suc d)) e ih = omega (arith, mod-lt n {m = 2} (omega arith))

-- where the last number of some bits has a set bit, and where it has none
pub last_set_in : (w : ℕ) (xs : List ℕ) (x : ℕ) → count_trailing_zeros w x < w
    → last_set (xs ++ bits w x) ≡ length xs + (w - count_trailing_zeros w x)
last_set_in w xs x h =
    let e : last_set (bits w x) ≡ suc ((w - count_trailing_zeros w x) - 1) = last_set-bits w x ∙ omega arith in
    last_set_more xs (bits w x) ((w - count_trailing_zeros w x) - 1) e ∙ omega arith

pub last_set_before : (w : ℕ) (xs : List ℕ) (x : ℕ) → w ≤ count_trailing_zeros w x → last_set (xs ++ bits w x) ≡ last_set xs
last_set_before w xs x h = last_set_zeros xs (bits w x) (last_set-bits w x ∙ omega arith)

-- ---- shared bits

pub shared_bits-prefix : (p xs ys : List ℕ) → shared_bits (p ++ xs) (p ++ ys) ≡ length p + shared_bits xs ys
shared_bits-prefix [] xs ys = sym (zero-add (shared_bits xs ys))
shared_bits-prefix (x ∷ p) xs ys =
    shared_bits_more x x (p ++ xs) (p ++ ys) refl ∙ ap suc (shared_bits-prefix p xs ys)
    ∙ sym (suc-add (length p) (shared_bits xs ys))

-- numbers with no bit in which they differ are equal
xor_none : (a b : ℕ) → bit_xor a b ≡ 0 → a ≡ b
xor_none a b e = omega (arith, e, xor_add_and a b, and_le_l a b, and_le_r a b)

leading_step : (k n : ℕ) → 0 < n → count_leading_zeros (suc k) n ≡ count_leading_zeros k (n / 2)
unfolding count_leading_zeros
leading_step k zero h = absurd (omega arith)
leading_step k (suc n) h = refl

-- numbers that differ share the leading zeros of their difference, whatever follows
pub shared_bits_differ : (w a b : ℕ) (xs ys : List ℕ) → a < 2 ^ w → b < 2 ^ w → (a ≡ b → ⊥)
    → shared_bits (bits w a ++ xs) (bits w b ++ ys) ≡ count_leading_zeros w (bit_xor a b)
shared_bits_differ zero a b xs ys ha hb d = absurd (d (omega arith))
shared_bits_differ (suc w) a b xs ys ha hb d =
    ap₂ shared_bits (bits_snoc_append w a xs) (bits_snoc_append w b ys)
    ∙ go (ℕ_discrete (a / 2) (b / 2))
    (shared_bits_differ w (a / 2) (b / 2) (a % 2 ∷ xs) (b % 2 ∷ ys) (omega arith) (omega arith))
  where
    pos : 0 < bit_xor a b
    pos =
        ⊎_elim
        (λ (e : 0 ≡ bit_xor a b). absurd (d (xor_none a b (sym e))))
        (λ (l : 0 < bit_xor a b). l)
        (eq-or-lt_of_le (omega arith))

    half : bit_xor a b / 2 ≡ bit_xor (a / 2) (b / 2)
    half = xor_shr a b 1

    go : Dec (a / 2 ≡ b / 2)
        → ((a / 2 ≡ b / 2 → ⊥)
        → shared_bits (bits w (a / 2) ++ (a % 2 ∷ xs)) (bits w (b / 2) ++ (b % 2 ∷ ys))
        ≡ count_leading_zeros w (bit_xor (a / 2) (b / 2)))
        → shared_bits (bits w (a / 2) ++ (a % 2 ∷ xs)) (bits w (b / 2) ++ (b % 2 ∷ ys)) ≡ count_leading_zeros (suc w)
        (bit_xor a b)
    go (yes e) ih =
        let z : bit_xor (a / 2) (b / 2) ≡ 0 = ap (λ (u : ℕ). bit_xor (a / 2) u) (sym e) ∙ xor_self (a / 2) in
        let n : a % 2 ≡ b % 2 → ⊥ = λ f. d (omega arith) in
        ap (λ (x : ℕ). shared_bits (bits w x ++ (a % 2 ∷ xs)) (bits w (b / 2) ++ (b % 2 ∷ ys))) e
        ∙ shared_bits-prefix (bits w (b / 2)) (a % 2 ∷ xs) (b % 2 ∷ ys)
        ∙ ap₂ ◌+◌ (length-bits w (b / 2)) (shared_bits_stop (a % 2) (b % 2) xs ys n)
        ∙ sym (leading_step w (bit_xor a b) pos ∙ ap (count_leading_zeros w) (half ∙ z) ∙ leading_of_zero w ∙ omega arith)
    go (no n) ih = ih n ∙ sym (leading_step w (bit_xor a b) pos ∙ ap (count_leading_zeros w) half)

-- equal ones share all their bits, and what those share that follow
pub shared_bits_equal : (w x y : ℕ) (xs ys : List ℕ) → x ≡ y
    → shared_bits (bits w x ++ xs) (bits w y ++ ys) ≡ w + shared_bits xs ys
shared_bits_equal w x y xs ys e =
    ap (λ (z : ℕ). shared_bits (bits w z ++ xs) (bits w y ++ ys)) e ∙ shared_bits-prefix (bits w y) xs ys
    ∙ ap (λ (k : ℕ). k + shared_bits xs ys) (length-bits w y)

-- ---- the order

top : (w x : ℕ) → x < 2 ^ suc w → x / 2 ^ w % 2 ≡ x / 2 ^ w
top w x h =
    let e : suc w ≡ 1 + w = omega arith in
    mod-eq_of_lt (shr_lt 1 w (subst (λ (k : ℕ). x < 2 ^ k) e h))

-- with equal top bits the rest decides
rest_lt : (w x y : ℕ) → x < y → x / 2 ^ w ≡ y / 2 ^ w → x % 2 ^ w < y % 2 ^ w
rest_lt w x y h e = omega (arith, split x w, split y w, ap (λ (k : ℕ). k * 2 ^ w) e)

-- the top bits by themselves
below_low : (w x y : ℕ) (xs ys : List ℕ)
    → below (bits w x ++ xs) (bits w y ++ ys) ≡ below (bits w (x % 2 ^ w) ++ xs) (bits w (y % 2 ^ w) ++ ys)
below_low w x y xs ys =
    ap₂ (λ (p q : List ℕ). below (p ++ xs) (q ++ ys)) (sym (bits-mod w w x (omega arith)))
    (sym (bits-mod w w y (omega arith)))

pub below-bits-less : (w x y : ℕ) (xs ys : List ℕ) → x < 2 ^ w → y < 2 ^ w → x < y
    → below (bits w x ++ xs) (bits w y ++ ys) ≡ true
unfolding bits
below-bits-less zero x y xs ys hx hy h = absurd (omega arith)
below-bits-less (suc w) x y xs ys hx hy h =
    let r : x % 2 ^ w < y % 2 ^ w → below (bits w x ++ xs) (bits w y ++ ys) ≡ true = λ l.
    below_low w x y xs ys
    ∙ below-bits-less w (x % 2 ^ w) (y % 2 ^ w) xs ys (mod-lt x (pow_pos w)) (mod-lt y (pow_pos w)) l in
    ⊎_elim
    (λ (e : x / 2 ^ w ≡ y / 2 ^ w). below_same _ _ _ _ (ap (λ (k : ℕ). k % 2) e) ∙ r (rest_lt w x y h e))
    (λ (l : x / 2 ^ w < y / 2 ^ w). below_less _ _ _ _ (rw (top w x hx, top w y hy) l))
    (eq-or-lt_of_le (shr_mono w (le_of_lt h)))

pub below-bits_more : (w x y : ℕ) (xs ys : List ℕ) → x < 2 ^ w → y < 2 ^ w → y < x
    → below (bits w x ++ xs) (bits w y ++ ys) ≡ false
unfolding bits
below-bits_more zero x y xs ys hx hy h = absurd (omega arith)
below-bits_more (suc w) x y xs ys hx hy h =
    let r : y % 2 ^ w < x % 2 ^ w → below (bits w x ++ xs) (bits w y ++ ys) ≡ false = λ l.
    below_low w x y xs ys
    ∙ below-bits_more w (x % 2 ^ w) (y % 2 ^ w) xs ys (mod-lt x (pow_pos w)) (mod-lt y (pow_pos w)) l in
    ⊎_elim
    (λ (e : y / 2 ^ w ≡ x / 2 ^ w). below_same _ _ _ _ (ap (λ (k : ℕ). k % 2) (sym e)) ∙ r (rest_lt w y x h e))
    (λ (l : y / 2 ^ w < x / 2 ^ w). below_more _ _ _ _ (rw (top w x hx, top w y hy) l))
    (eq-or-lt_of_le (shr_mono w (le_of_lt h)))

-- numbers that differ decide, whatever follows
pub below_differ : (w x y : ℕ) (xs ys : List ℕ) → x < 2 ^ w → y < 2 ^ w → (x ≡ y → ⊥)
    → below (bits w x ++ xs) (bits w y ++ ys) ≡ ltb x y
below_differ w x y xs ys hx hy d = go (ltb x y) refl
  where
    go : (t : Bool) → ltb x y ≡ t → below (bits w x ++ xs) (bits w y ++ ys) ≡ ltb x y
    go true q = below-bits-less w x y xs ys hx hy (ltb-true x y q) ∙ sym q
    go false q =
        ⊎_elim
        (λ (e : y ≡ x). absurd (d (sym e)))
        (λ (m : y < x). below-bits_more w x y xs ys hx hy m ∙ sym q)
        (eq-or-lt_of_le (ltb-false x y q))

-- equal ones leave it to what follows
pub below_equal : (w x y : ℕ) (xs ys : List ℕ) → x ≡ y → below (bits w x ++ xs) (bits w y ++ ys) ≡ below xs ys
below_equal w x y xs ys e =
    ap (λ (z : ℕ). below (bits w z ++ xs) (bits w y ++ ys)) e ∙ below-prefix (bits w y) xs ys
