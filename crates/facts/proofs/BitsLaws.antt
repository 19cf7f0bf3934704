-- Laws of bits, bytes and little-endian numbers (format's `specs/Bits.antt`).
-- In order: `AllBelow`; the bits of one number (`bits`, `value`); the bits of bytes (`bits_of`); `fill`; `pack`, and
-- `bits_of` and `pack` as each other's inverse; little-endian numbers (`le`, `unle`); `bytes_for`.
-- Not here: a run of bits copied (`RangesLaws`); the order of bits, what they share and where they end (`KeyLaws`).
-- Assumes nothing.
use mathlib.Core.List.{◌++◌, List, [], append_assoc, ◌∷◌}
use mathlib.Core.Path.{ap, ap₂, refl, subst, sym, ◌∙◌, ◌≡◌}
use Prim.Native.Nat.{◌%◌, ◌*◌, ◌+◌, ◌-◌, ◌/◌, ◌<◌, ◌^◌, suc, zero, ℕ, ◌≤◌}
use native.Mathlib.Nat.{add_comm, div-lt_iff_lt-mul, le_of_suc-le-suc, mod-eq_of_lt, mod-lt, mod-one, not-suc-le-zero, pow-suc, suc-add, zero-add}
use native.Mathlib.Omega.{arith}
use lib.Arith.{digits_lt}
use lib.Pow.{field, high, low, mod-mod-pow, mod-pow-add, shr-shr}
use lib.ListN.{drop, get_or, length, length-append, length-replicate, length-take, replicate, replicate-append-replicate, take}
use lib.Seq.{drop_at, ext_get_or, get_or-take, take_all, take-append-add, take-append-le, take_at}
use Rattle.format.specs.Bits.{AllBelow, bits, bits_of, bytes_for, fill, le, pack, unle, value}

-- ---- AllBelow

pub AllBelow_at : (n : ℕ) (xs : List ℕ) (k : ℕ) → AllBelow n xs → k < length xs → get_or xs k 0 < n
unfolding AllBelow
AllBelow_at n [] k b h = absurd (not-suc-le-zero h)
AllBelow_at n (x ∷ xs) zero b h = b.0
AllBelow_at n (x ∷ xs) (suc k) b h = AllBelow_at n xs k b.1 (le_of_suc-le-suc h)

pub at_below : (n : ℕ) (xs : List ℕ) → ((k : ℕ) → get_or xs k 0 < n) → AllBelow n xs
unfolding AllBelow
at_below n [] f = tt
at_below n (x ∷ xs) f = (f 0, at_below n xs (λ k. f (suc k)))

pub AllBelow-append : (n : ℕ) (xs ys : List ℕ) → AllBelow n xs → AllBelow n ys → AllBelow n (xs ++ ys)
unfolding AllBelow
AllBelow-append n [] ys b c = c
AllBelow-append n (x ∷ xs) ys b c = (b.0, AllBelow-append n xs ys b.1 c)

pub AllBelow-take : (n k : ℕ) (xs : List ℕ) → AllBelow n xs → AllBelow n (take k xs)
unfolding AllBelow
AllBelow-take n zero xs b = tt
AllBelow-take n (suc k) [] b = tt
AllBelow-take n (suc k) (x ∷ xs) b = (b.0, AllBelow-take n k xs b.1)

pub AllBelow-drop : (n k : ℕ) (xs : List ℕ) → AllBelow n xs → AllBelow n (drop k xs)
unfolding AllBelow
AllBelow-drop n zero xs b = b
AllBelow-drop n (suc k) [] b = tt
AllBelow-drop n (suc k) (x ∷ xs) b = AllBelow-drop n k xs b.1

pub AllBelow-replicate : (n k x : ℕ) → x < n → AllBelow n (replicate k x)
unfolding AllBelow
AllBelow-replicate n zero x h = tt
AllBelow-replicate n (suc k) x h = (h, AllBelow-replicate n k x h)

-- ---- the bits of one number

pub length-bits : (w n : ℕ) → length (bits w n) ≡ w
unfolding bits
length-bits zero n = refl
length-bits (suc w) n = ap suc (length-bits w n)

pub AllBelow-bits : (w n : ℕ) → AllBelow 2 (bits w n)
unfolding bits AllBelow
AllBelow-bits zero n = tt
AllBelow-bits (suc w) n = (mod-lt (n / 2 ^ w) {m = 2} (omega arith), AllBelow-bits w n)

-- only the w lowest bits of a number count
pub bits-mod : (w k n : ℕ) → w ≤ k → bits w (n % 2 ^ k) ≡ bits w n
unfolding bits
bits-mod zero k n h = refl
bits-mod (suc w) k n h =
    let e : k ≡ ((k - suc w) + 1) + w = omega arith in
    let f : n % 2 ^ k / 2 ^ w ≡ n / 2 ^ w % 2 ^ ((k - suc w) + 1) =
    ap (λ (x : ℕ). n % 2 ^ x / 2 ^ w) e ∙ field n ((k - suc w) + 1) w in
    ap₂ ◌∷◌ (ap (λ (x : ℕ). x % 2) f ∙ mod-mod-pow (n / 2 ^ w) (k - suc w) 1) (bits-mod w k n (omega arith))

-- two numbers side by side
pub bits_cat : (j k hi lo : ℕ) → lo < 2 ^ k → bits (j + k) (hi * 2 ^ k + lo) ≡ bits j hi ++ bits k lo
unfolding bits
bits_cat zero k hi lo h = rw zero-add (sym (bits-mod k k (hi * 2 ^ k + lo) (omega arith)) ∙ ap (λ (x : ℕ). bits k x) (low hi k h))
bits_cat (suc j) k hi lo h =
    let n : ℕ = hi * 2 ^ k + lo in
    let e : n / 2 ^ (j + k) ≡ hi / 2 ^ j =
    ap (λ (x : ℕ). n / 2 ^ x) (add_comm j k) ∙ sym (shr-shr n k j) ∙ ap (λ (x : ℕ). x / 2 ^ j) (high hi k h) in
    rw suc-add (ap₂ ◌∷◌ (ap (λ (x : ℕ). x % 2) e) (bits_cat j k hi lo h))

pub value-bits : (w n : ℕ) → value (bits w n) ≡ n % 2 ^ w
unfolding value bits
value-bits zero n = sym (mod-one n)
value-bits (suc w) n =
    let e : 1 + w ≡ suc w = omega arith in
    ap₂ (λ (x y : ℕ). (n / 2 ^ w % 2) * 2 ^ x + y) (length-bits w n) (value-bits w n) ∙ sym (mod-pow-add n 1 w) ∙ ap (λ (k : ℕ). n % 2 ^ k) e

-- a number that fits its bits is their value
pub value_of_bits : (w n : ℕ) → n < 2 ^ w → value (bits w n) ≡ n
value_of_bits w n h = value-bits w n ∙ mod-eq_of_lt h

-- a number of w bits is known by them
pub bits_inj : (w x y : ℕ) → x < 2 ^ w → y < 2 ^ w → bits w x ≡ bits w y → x ≡ y
bits_inj w x y h l e = sym (value_of_bits w x h) ∙ ap value e ∙ value_of_bits w y l

pub value-lt : (bs : List ℕ) → AllBelow 2 bs → value bs < 2 ^ length bs
unfolding value AllBelow
value-lt [] b = omega arith
value-lt (x ∷ xs) b = omega (arith, digits_lt b.0 (value-lt xs b.1), pow-suc 2 (length xs))

pub bits-value : (bs : List ℕ) → AllBelow 2 bs → bits (length bs) (value bs) ≡ bs
unfolding bits value AllBelow
bits-value [] b = refl
bits-value (x ∷ xs) b =
    let w : ℕ = length xs in
    let l : value xs < 2 ^ w = value-lt xs b.1 in
    ap₂ ◌∷◌ (ap (λ (y : ℕ). y % 2) (high x w l) ∙ mod-eq_of_lt b.0)
    (sym (bits-mod w w (x * 2 ^ w + value xs) (omega arith)) ∙ ap (bits w) (low x w l) ∙ bits-value xs b.1)

-- bits are told apart by their value
pub value_inj : (xs ys : List ℕ) → AllBelow 2 xs → AllBelow 2 ys → length xs ≡ length ys → value xs ≡ value ys → xs ≡ ys
value_inj xs ys b c l e = sym (bits-value xs b) ∙ ap₂ bits l e ∙ bits-value ys c

pub value_zeros : (n : ℕ) → value (replicate n 0) ≡ 0
unfolding value
value_zeros zero = refl
value_zeros (suc n) = omega (arith, value_zeros n)

-- bits that spell 0 are zeros
pub value-zero : (bs : List ℕ) → AllBelow 2 bs → value bs ≡ 0 → bs ≡ replicate (length bs) 0
value-zero bs b e =
    value_inj bs (replicate (length bs) 0) b (AllBelow-replicate 2 (length bs) 0 (omega arith)) (sym (length-replicate (length bs) 0)) (e ∙ sym (value_zeros (length bs)))

-- ---- the bits of bytes

pub length-bits_of : (xs : List ℕ) → length (bits_of xs) ≡ 8 * length xs
unfolding bits_of bits
length-bits_of [] = refl
length-bits_of (x ∷ xs) = omega (arith, length-bits_of xs)

pub AllBelow-bits_of : (xs : List ℕ) → AllBelow 2 (bits_of xs)
unfolding bits_of AllBelow
AllBelow-bits_of [] = tt
AllBelow-bits_of (x ∷ xs) = AllBelow-append 2 (bits 8 x) (bits_of xs) (AllBelow-bits 8 x) (AllBelow-bits_of xs)

pub bits_of-append : (xs ys : List ℕ) → bits_of (xs ++ ys) ≡ bits_of xs ++ bits_of ys
unfolding bits_of bits
bits_of-append [] ys = refl
bits_of-append (x ∷ xs) ys = simp (bits_of-append xs ys)

pub bits_of_zeros : (k : ℕ) → bits_of (replicate k 0) ≡ replicate (8 * k) 0
unfolding bits_of bits
bits_of_zeros zero = refl
bits_of_zeros (suc k) =
    let e : 8 * suc k ≡ suc (suc (suc (suc (suc (suc (suc (suc (8 * k)))))))) = omega arith in
    rw (e, bits_of_zeros k)

-- ---- fill

-- as many zeros or more
pub take_zeros : (n k : ℕ) → n ≤ k → take {A = ℕ} n (replicate k 0) ≡ replicate n 0
take_zeros zero k h = refl
take_zeros (suc n) zero h = absurd (not-suc-le-zero h)
take_zeros (suc n) (suc k) h = ap (λ (r : List ℕ). 0 ∷ r) (take_zeros n k (le_of_suc-le-suc h))

pub fill_enough : (n k : ℕ) (bs : List ℕ) → n ≤ k → take n (bs ++ replicate k 0) ≡ fill n bs
unfolding fill
fill_enough zero k bs h = refl
fill_enough (suc n) zero bs h = absurd (not-suc-le-zero h)
fill_enough (suc n) (suc k) [] h =
    ap (λ (r : List ℕ). 0 ∷ r) (take_zeros n k (le_of_suc-le-suc h) ∙ sym (take_zeros n n (omega arith)))
fill_enough (suc n) (suc k) (b ∷ bs) h =
    let p : n ≤ suc k = omega arith in
    ap (λ (r : List ℕ). b ∷ r) (fill_enough n (suc k) bs p ∙ sym (fill_enough n (suc n) bs (omega arith)))

pub fill-cons : (n b : ℕ) (bs : List ℕ) → fill (suc n) (b ∷ bs) ≡ b ∷ fill n bs
unfolding fill
fill-cons n b bs = ap (λ (r : List ℕ). b ∷ r) (fill_enough n (suc n) bs (omega arith))

pub fill-nil : (n : ℕ) → fill n [] ≡ replicate n 0
unfolding fill
fill-nil n = take_zeros n n (omega arith)

pub length-fill : (n : ℕ) (bs : List ℕ) → length (fill n bs) ≡ n
unfolding fill
length-fill n bs = simp (length-take, length-append, length-replicate) (omega arith)

pub AllBelow-fill : (m n : ℕ) (bs : List ℕ) → 0 < m → AllBelow m bs → AllBelow m (fill n bs)
unfolding fill
AllBelow-fill m n bs p b = AllBelow-take m n (bs ++ replicate n 0) (AllBelow-append m bs (replicate n 0) b (AllBelow-replicate m n 0 p))

-- of enough bits
pub fill-take : (n : ℕ) (bs : List ℕ) → n ≤ length bs → fill n bs ≡ take n bs
unfolding fill
fill-take n bs h = take-append-le n bs (replicate n 0) h

pub fill_exact : (bs : List ℕ) (n : ℕ) → length bs ≡ n → fill n bs ≡ bs
fill_exact bs n e = fill-take n bs (omega arith) ∙ take_all n bs (omega arith)

-- of too few
pub fill_short : (n : ℕ) (bs : List ℕ) → length bs ≤ n → fill n bs ≡ bs ++ replicate (n - length bs) 0
unfolding fill
fill_short n bs h =
    let e : n ≡ length bs + (n - length bs) = omega arith in
    ap (λ (k : ℕ). take k (bs ++ replicate n 0)) e ∙ take-append-add bs (replicate n 0) (n - length bs)
    ∙ ap (λ (r : List ℕ). bs ++ r) (take_zeros (n - length bs) n (omega arith))

-- zeros at the end add nothing
pub fill_zeros : (n k : ℕ) (bs : List ℕ) → fill n (bs ++ replicate k 0) ≡ fill n bs
unfolding fill
fill_zeros n k bs =
    ap (take n) (append_assoc bs (replicate k 0) (replicate n 0) ∙ ap (λ (r : List ℕ). bs ++ r) (replicate-append-replicate k n 0))
    ∙ fill_enough n (k + n) bs (omega arith)

pub fill-add : (n m : ℕ) (bs : List ℕ) → fill (n + m) bs ≡ fill n bs ++ fill m (drop n bs)
fill-add zero m bs =
    ap (λ (k : ℕ). fill k bs) (zero-add m) ∙ ap (λ (r : List ℕ). r ++ fill m bs) (sym (fill-take 0 bs (omega arith)))
fill-add (suc n) m [] =
    fill-nil (suc n + m) ∙ sym (replicate-append-replicate (suc n) m 0) ∙ sym (ap₂ ◌++◌ (fill-nil (suc n)) (fill-nil m))
fill-add (suc n) m (b ∷ bs) =
    ap (λ (k : ℕ). fill k (b ∷ bs)) (suc-add n m) ∙ fill-cons (n + m) b bs ∙ ap (λ (r : List ℕ). b ∷ r) (fill-add n m bs)
    ∙ ap (λ (r : List ℕ). r ++ fill m (drop n bs)) (sym (fill-cons n b bs))

-- a first part of what is filled
pub take-fill : (n m : ℕ) (bs : List ℕ) → n ≤ m → take n (fill m bs) ≡ fill n bs
take-fill n m bs h =
    let e : m ≡ n + (m - n) = omega arith in
    ap (λ (k : ℕ). take n (fill k bs)) e ∙ ap (take n) (fill-add n (m - n) bs) ∙ take_at (fill n bs) (fill (m - n) (drop n bs)) n (length-fill n bs)

pub get_or_zeros : (n i : ℕ) → get_or {A = ℕ} (replicate n 0) i 0 ≡ 0
get_or_zeros zero i = refl
get_or_zeros (suc n) zero = refl
get_or_zeros (suc n) (suc i) = get_or_zeros n i

pub get_or-append_zeros : (bs : List ℕ) (n i : ℕ) → get_or (bs ++ replicate n 0) i 0 ≡ get_or bs i 0
get_or-append_zeros [] n i = get_or_zeros n i
get_or-append_zeros (b ∷ bs) n zero = refl
get_or-append_zeros (b ∷ bs) n (suc i) = get_or-append_zeros bs n i

pub get_or-fill : (n : ℕ) (bs : List ℕ) (i : ℕ) → i < n → get_or (fill n bs) i 0 ≡ get_or bs i 0
unfolding fill
get_or-fill n bs i h = get_or-take n (bs ++ replicate n 0) i 0 h ∙ get_or-append_zeros bs n i

-- n bits that agree with bs are bs filled up
pub fill_unique : (n : ℕ) (k bs : List ℕ) → length k ≡ n → ((i : ℕ) → i < n → get_or k i 0 ≡ get_or bs i 0) → k ≡ fill n bs
fill_unique n k bs l f =
    ext_get_or 0 k (fill n bs) (l ∙ sym (length-fill n bs)) (λ i h. f i (omega arith) ∙ sym (get_or-fill n bs i (omega arith)))

-- ---- pack

pub length-pack : (k : ℕ) (bs : List ℕ) → length (pack k bs) ≡ k
unfolding pack
length-pack zero bs = refl
length-pack (suc k) bs = ap suc (length-pack k (drop 8 bs))

pub AllBelow-pack : (k : ℕ) (bs : List ℕ) → AllBelow 2 bs → AllBelow 256 (pack k bs)
unfolding pack AllBelow
AllBelow-pack zero bs b = tt
AllBelow-pack (suc k) bs b =
    let f : AllBelow 2 (fill 8 bs) = AllBelow-fill 2 8 bs (omega arith) b in
    (subst (λ (w : ℕ). value (fill 8 bs) < 2 ^ w) (length-fill 8 bs) (value-lt (fill 8 bs) f), AllBelow-pack k (drop 8 bs) (AllBelow-drop 2 8 bs b))

pub bits_of-pack : (k : ℕ) (bs : List ℕ) → AllBelow 2 bs → bits_of (pack k bs) ≡ fill (8 * k) bs
unfolding bits_of pack
bits_of-pack zero bs b = sym (fill-take 0 bs (omega arith))
bits_of-pack (suc k) bs b =
    let e : 8 * suc k ≡ 8 + 8 * k = omega arith in
    let f : AllBelow 2 (fill 8 bs) = AllBelow-fill 2 8 bs (omega arith) b in
    ap₂ ◌++◌ (subst (λ (w : ℕ). bits w (value (fill 8 bs)) ≡ fill 8 bs) (length-fill 8 bs) (bits-value (fill 8 bs) f))
    (bits_of-pack k (drop 8 bs) (AllBelow-drop 2 8 bs b)) ∙ sym (ap (λ (n : ℕ). fill n bs) e ∙ fill-add 8 (8 * k) bs)

pub pack-bits_of : (xs : List ℕ) → AllBelow 256 xs → pack (length xs) (bits_of xs) ≡ xs
unfolding pack bits_of AllBelow
pack-bits_of [] b = refl
pack-bits_of (x ∷ xs) b =
    let l : 8 ≤ length (bits 8 x ++ bits_of xs) = omega (arith, length-append (bits 8 x) (bits_of xs), length-bits 8 x) in
    ap₂ ◌∷◌ (ap value (fill-take 8 (bits 8 x ++ bits_of xs) l ∙ take_at (bits 8 x) (bits_of xs) 8 (length-bits 8 x)) ∙ value_of_bits 8 x b.0)
    (ap (pack (length xs)) (drop_at (bits 8 x) (bits_of xs) 8 (length-bits 8 x)) ∙ pack-bits_of xs b.1)

-- so bytes are known by their bits
pub bits_of_inj : (xs ys : List ℕ) → AllBelow 256 xs → AllBelow 256 ys → bits_of xs ≡ bits_of ys → xs ≡ ys
bits_of_inj xs ys b c e =
    let n : length xs ≡ length ys = omega (arith, length-bits_of xs, length-bits_of ys, ap length e) in
    sym (pack-bits_of xs b) ∙ ap₂ pack n e ∙ pack-bits_of ys c

pub packed : (xs bs : List ℕ) → AllBelow 256 xs → bits_of xs ≡ bs → xs ≡ pack (length xs) bs
packed xs bs b e = sym (pack-bits_of xs b) ∙ ap (pack (length xs)) e

-- zeros after bits that are packed make no difference
pub pack_zeros : (k n : ℕ) (bs : List ℕ) → AllBelow 2 bs → pack k (bs ++ replicate n 0) ≡ pack k bs
pack_zeros k n bs b =
    let b' : AllBelow 2 (bs ++ replicate n 0) = AllBelow-append 2 bs (replicate n 0) b (AllBelow-replicate 2 n 0 (omega arith)) in
    bits_of_inj (pack k (bs ++ replicate n 0)) (pack k bs) (AllBelow-pack k (bs ++ replicate n 0) b') (AllBelow-pack k bs b)
    (bits_of-pack k (bs ++ replicate n 0) b' ∙ fill_zeros (8 * k) n bs ∙ sym (bits_of-pack k bs b))

-- ---- little-endian numbers

pub length-le : (w n : ℕ) → length (le w n) ≡ w
unfolding le
length-le zero n = refl
length-le (suc w) n = ap suc (length-le w (n / 256))

pub AllBelow-le : (w n : ℕ) → AllBelow 256 (le w n)
unfolding le AllBelow
AllBelow-le zero n = tt
AllBelow-le (suc w) n = (mod-lt n {m = 256} (omega arith), AllBelow-le w (n / 256))

pub unle-le : (w n : ℕ) → n < 256 ^ w → unle (le w n) ≡ n
unfolding le unle
unle-le zero n h = omega arith
unle-le (suc w) n h =
    let p : n < 256 ^ w * 256 = subst (λ (x : ℕ). n < x) (pow-suc 256 w) h in
    let k : n / 256 < 256 ^ w = (div-lt_iff_lt-mul {k = 256} {x = n} {y = 256 ^ w} (omega arith)).1 p in
    ap (λ (x : ℕ). n % 256 + 256 * x) (unle-le w (n / 256) k) ∙ omega arith

pub unle-lt : (xs : List ℕ) → AllBelow 256 xs → unle xs < 256 ^ length xs
unfolding unle AllBelow
unle-lt [] b = omega arith
unle-lt (x ∷ xs) b = omega (arith, digits_lt (unle-lt xs b.1) b.0, pow-suc 256 (length xs))

pub le-unle : (xs : List ℕ) → AllBelow 256 xs → le (length xs) (unle xs) ≡ xs
unfolding le unle AllBelow
le-unle [] b = refl
le-unle (x ∷ xs) b =
    let l : x < 256 = b.0 in
    let r : (x + 256 * unle xs) % 256 ≡ x = omega arith in
    let d : (x + 256 * unle xs) / 256 ≡ unle xs = omega arith in
    ap₂ ◌∷◌ r (ap (le (length xs)) d ∙ le-unle xs b.1)

-- ---- bytes_for

pub bytes_for-holds : (n : ℕ) → n ≤ 8 * bytes_for n
unfolding bytes_for
bytes_for-holds n = omega arith

pub bytes_for-least : (n k : ℕ) → n ≤ 8 * k → bytes_for n ≤ k
unfolding bytes_for
bytes_for-least n k h = omega arith

pub bytes_for_mono : (m n : ℕ) → m ≤ n → bytes_for m ≤ bytes_for n
unfolding bytes_for
bytes_for_mono m n h = omega arith

-- fewer than eight bits are left over
pub bytes_for_slack : (n : ℕ) → 8 * bytes_for n - n < 8
unfolding bytes_for
bytes_for_slack n = omega arith

pub bytes_for_exact : (n p k : ℕ) → 8 * k ≡ n + p → p < 8 → bytes_for n ≡ k
unfolding bytes_for
bytes_for_exact n p k e h = omega arith
