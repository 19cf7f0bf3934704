-- Laws of windows: some bits of a list with zeros behind them, and the numbers that bytes of a slice spell.
-- In order: `take` and `drop` of any length; `fill` of parts; the bytes of a slice, 0 past its end; the numbers that
-- they spell, most significant byte first (`Spells`); the first bits of a word, and others behind them; a word's bits
-- from some bit on.
-- Not here: words that are stored (`WordsLaws`); numbers with the least significant byte first (`LittleLaws` of
-- `numbers`); those of facts' `BitsLaws`.
-- Assumes nothing.
use mathlib.Core.List.{List, [], ◌∷◌, ◌++◌, append-nil}
use mathlib.Core.Path.{◌≡◌, refl, sym, ap, ap₂, subst, ◌∙◌}
use Prim.Native.Nat.{ℕ, zero, suc, ◌+◌, ◌-◌, ◌*◌, ◌/◌, ◌%◌, ◌^◌, ◌≤◌, ◌<◌}
use native.Mathlib.Nat.{add-zero, mod-lt, mul_assoc}
use native.Mathlib.Omega.{arith}
use native.Mathlib.Decide.{dec_le}
use lib.Arith.{digits_lt}
use lib.Pow.{pow_pos, pow-add, split, shl-shr, shr_lt}
use lib.ListN.{
  length,
  get_or,
  take,
  drop,
  replicate,
  length-append,
  length-drop,
  drop_of_length-le,
  get_or-eq_default,
}
use lib.Seq.{take_at, drop_at, take_all, take-append-add, drop-append-add, drop-cons, drop-drop, drop-nil, take-nil}
use Rattle.format.specs.Bits.{bits, bits_of, fill}
use Rattle.facts.proofs.BitsLaws.{
  length-bits,
  length-bits_of,
  bits_cat,
  fill-take,
  fill_exact,
  fill-nil,
  fill-cons,
  fill-add,
  fill_short,
  take-fill,
  length-fill,
}
use Rattle.words.proofs.NumberLaws.{take-bits, bits_split, bits-zero, shl_64}

-- ---- take and drop

zero-sub : (n : ℕ) → 0 ≡ 0 - n
zero-sub n = omega arith

sub-zero : (n : ℕ) → n ≡ n - 0
sub-zero n = omega arith

sub-suc : (n k : ℕ) → n - k ≡ suc n - suc k
sub-suc n k = omega arith

pub drop-append : (n : ℕ) (xs ys : List ℕ) → drop n (xs ++ ys) ≡ drop n xs ++ drop (n - length xs) ys
drop-append zero xs ys = ap (λ (k : ℕ). xs ++ drop k ys) (zero-sub (length xs))
drop-append (suc n) [] ys = ap (λ (k : ℕ). drop k ys) (sub-zero (suc n))
drop-append (suc n) (x ∷ xs) ys =
    drop-append n xs ys ∙ ap (λ (k : ℕ). drop n xs ++ drop k ys) (sub-suc n (length xs))

pub take-append : (n : ℕ) (xs ys : List ℕ) → take n (xs ++ ys) ≡ take n xs ++ take (n - length xs) ys
take-append zero xs ys = ap (λ (k : ℕ). take k ys) (zero-sub (length xs))
take-append (suc n) [] ys = ap (λ (k : ℕ). take k ys) (sub-zero (suc n))
take-append (suc n) (x ∷ xs) ys =
    ap (λ (l : List ℕ). x ∷ l) (take-append n xs ys ∙ ap (λ (k : ℕ). take n xs ++ take k ys) (sub-suc n (length xs)))

pub drop-take : (n k : ℕ) (z : List ℕ) → drop n (take k z) ≡ take (k - n) (drop n z)
drop-take zero k z = ap (λ (j : ℕ). take j z) (sub-zero k)
drop-take (suc n) zero z = ap (λ (j : ℕ). take j (drop (suc n) z)) (zero-sub (suc n))
drop-take (suc n) (suc k) [] = sym (take-nil (suc k - suc n))
drop-take (suc n) (suc k) (x ∷ z) = drop-take n k z ∙ ap (λ (j : ℕ). take j (drop n z)) (sub-suc k n)

-- ---- fill

fill-zero : (l : List ℕ) → fill 0 l ≡ []
fill-zero l = fill-take 0 l (omega arith)

-- zeros behind what is cut make no difference
pub fill-take-fill : (n k : ℕ) (z : List ℕ) → fill n (take k (fill n z)) ≡ fill n (take k z)
fill-take-fill zero k z = fill-zero (take k (fill 0 z)) ∙ sym (fill-zero (take k z))
fill-take-fill (suc n) zero z = refl
fill-take-fill (suc n) (suc k) [] =
    let e : fill (suc n) [] ≡ 0 ∷ fill n [] = fill-nil (suc n) ∙ ap (λ (l : List ℕ). 0 ∷ l) (sym (fill-nil n)) in
    ap (λ (l : List ℕ). fill (suc n) (take (suc k) l)) e ∙ fill-cons n 0 (take k (fill n []))
    ∙ ap (λ (l : List ℕ). 0 ∷ l) (fill-take-fill n k [] ∙ ap (fill n) (take-nil k)) ∙ sym e
fill-take-fill (suc n) (suc k) (x ∷ z) =
    ap (λ (l : List ℕ). fill (suc n) (take (suc k) l)) (fill-cons n x z) ∙ fill-cons n x (take k (fill n z))
    ∙ ap (λ (l : List ℕ). x ∷ l) (fill-take-fill n k z) ∙ sym (fill-cons n x (take k z))

pub take-fill-append : (n m : ℕ) (a b : List ℕ) → n ≤ m → take n (a ++ fill m b) ≡ fill n (a ++ b)
take-fill-append n m [] b h = take-fill n m b h
take-fill-append zero m (x ∷ a) b h = sym (fill-take 0 (x ∷ a ++ b) (omega arith))
take-fill-append (suc n) m (x ∷ a) b h =
    ap (λ (l : List ℕ). x ∷ l) (take-fill-append n m a b (omega arith)) ∙ sym (fill-cons n x (a ++ b))

pub drop-fill : (h m : ℕ) (z : List ℕ) → drop h (fill (h + m) z) ≡ fill m (drop h z)
drop-fill h m z = ap (drop h) (fill-add h m z) ∙ drop_at (fill h z) (fill m (drop h z)) h (length-fill h z)

-- two numbers side by side
pub bits-fill : (j k a b : ℕ) (z : List ℕ) → bits j a ≡ fill j z → bits k b ≡ fill k (drop j z) → b < 2 ^ k
    → bits (j + k) (a * 2 ^ k + b) ≡ fill (j + k) z
bits-fill j k a b z ea eb h = bits_cat j k a b h ∙ ap₂ ◌++◌ ea eb ∙ sym (fill-add j k z)

-- ---- the bytes of a slice

pub drop-bits_of : (i : ℕ) (s : List ℕ) → drop (8 * i) (bits_of s) ≡ bits_of (drop i s)
unfolding bits_of
drop-bits_of zero s = refl
drop-bits_of (suc i) [] = drop-nil (8 * suc i)
drop-bits_of (suc i) (x ∷ s) =
    let e : 8 * suc i ≡ length (bits 8 x) + 8 * i = omega (arith, length-bits 8 x) in
    ap (λ (n : ℕ). drop n (bits 8 x ++ bits_of s)) e ∙ drop-append-add (bits 8 x) (bits_of s) (8 * i) ∙ drop-bits_of i s

-- the byte at i, 0 past the end
pub bits_byte : (i : ℕ) (s : List ℕ) → bits 8 (get_or s i 0) ≡ fill 8 (drop (8 * i) (bits_of s))
unfolding bits_of
bits_byte i s = sym (go (dec_le (suc i) (length s)))
  where
    go : Dec (suc i ≤ length s) → fill 8 (drop (8 * i) (bits_of s)) ≡ bits 8 (get_or s i 0)
    go (yes h) =
        let b : List ℕ = bits 8 (get_or s i 0) in
        let l : length b ≡ 8 = length-bits 8 (get_or s i 0) in
        ap (fill 8) (drop-bits_of i s ∙ ap bits_of (drop-cons s i 0 h))
        ∙ fill-take 8 (b ++ bits_of (drop (suc i) s)) (omega (arith, l, length-append b (bits_of (drop (suc i) s))))
        ∙ take_at b (bits_of (drop (suc i) s)) 8 l
    go (no h) =
        let k : length s ≤ i = omega arith in
        ap (fill 8) (drop_of_length-le (bits_of s) {i = 8 * i} (omega (arith, length-bits_of s))) ∙ fill-nil 8
        ∙ sym (ap (bits 8) (get_or-eq_default s 0 k) ∙ bits-zero 8)

-- the 64 bits from bit g of byte i on, out of the eight bytes from i on and the ninth
pub nine_bytes : (s : List ℕ) (b i g x y r : ℕ) → g < 8 → 8 * i + g ≡ b
    → bits 64 x ≡ fill 64 (drop (8 * i) (bits_of s))
    → y ≡ get_or s (i + 8) 0 → bits 64 r ≡ take 64 (drop g (bits 64 x ++ bits 8 y))
    → bits 64 r ≡ fill 64 (drop b (bits_of s))
nine_bytes s b i g x y r lg eb ex ey er =
    let z : List ℕ = drop (8 * i) (bits_of s) in
    let e8 : 8 * (i + 8) ≡ 8 * i + 64 = omega arith in
    let b8 : bits 8 y ≡ fill 8 (drop 64 z) =
    ap (bits 8) ey ∙ bits_byte (i + 8) s
    ∙ ap (fill 8) (ap (λ (k : ℕ). drop k (bits_of s)) e8 ∙ sym (drop-drop 64 (8 * i) (bits_of s))) in
    let eq : 72 ≡ g + (72 - g) = omega arith in
    let le : 64 ≤ 72 - g = omega arith in
    er ∙ ap₂ (λ (u v : List ℕ). take 64 (drop g (u ++ v))) ex b8
    ∙ ap (λ (u : List ℕ). take 64 (drop g u)) (sym (fill-add 64 8 z))
    ∙ ap (λ (k : ℕ). take 64 (drop g (fill k z))) eq ∙ ap (take 64) (drop-fill g (72 - g) z)
    ∙ take-fill 64 (72 - g) (drop g z) le
    ∙ ap (fill 64) (drop-drop g (8 * i) (bits_of s) ∙ ap (λ (k : ℕ). drop k (bits_of s)) eb)

-- the 64 bits from bit g of byte i on, out of the last eight bytes
pub last-eight : (s : List ℕ) (i j g x r : ℕ) → j ≡ length s - 8 → 8 ≤ length s → j ≤ i → i < length s → g < 8
    → bits 64 x ≡ fill 64 (drop (8 * j) (bits_of s))
    → bits 64 r ≡ fill 64 (drop (8 * (i - j) + g) (bits 64 x))
    → bits 64 r ≡ fill 64 (drop (8 * i + g) (bits_of s))
last-eight s i j g x r ej h l hi hg ex er =
    let z : List ℕ = drop (8 * j) (bits_of s) in
    let lz : length z ≡ 64 = omega (arith, length-drop (8 * j) (bits_of s), length-bits_of s) in
    let e : 8 * j + (8 * (i - j) + g) ≡ 8 * i + g = omega arith in
    er ∙ ap (λ (l : List ℕ). fill 64 (drop (8 * (i - j) + g) l)) (ex ∙ fill_exact z 64 lz)
    ∙ ap (fill 64) (drop-drop (8 * (i - j) + g) (8 * j) (bits_of s) ∙ ap (λ (k : ℕ). drop k (bits_of s)) e)

-- past the end
pub bits_past : (s : List ℕ) (b i g : ℕ) → length s ≤ i → b ≡ 8 * i + g → bits 64 0 ≡ fill 64 (drop b (bits_of s))
bits_past s b i g h e =
    bits-zero 64
    ∙ sym (ap (fill 64) (drop_of_length-le (bits_of s) {i = b} (omega (arith, length-bits_of s))) ∙ fill-nil 64)

-- ---- the number that bytes spell, most significant first

-- x is the number of the k bytes from i on
pub record Spells (s : List ℕ) (i k x : ℕ) : Type 0 where
  pub small : x < 2 ^ (8 * k)
  pub same : bits (8 * k) x ≡ fill (8 * k) (drop (8 * i) (bits_of s))

pub spells_none : (s : List ℕ) (i : ℕ) → Spells s i 0 0
unfolding bits
spells_none s i = record { small = omega arith; same = sym (fill-zero (drop (8 * i) (bits_of s))) }

-- those of j bytes, and k that follow
spells_cat : (s : List ℕ) (i j k x y : ℕ) → Spells s i j x → Spells s (i + j) k y
    → Spells s i (j + k) (x * 2 ^ (8 * k) + y)
spells_cat s i j k x y a b =
    let e : 8 * j + 8 * k ≡ 8 * (j + k) = omega arith in
    let f : 8 * (i + j) ≡ 8 * i + 8 * j = omega arith in
    let z : List ℕ = drop (8 * i) (bits_of s) in
    let d : drop (8 * (i + j)) (bits_of s) ≡ drop (8 * j) z =
    ap (λ (n : ℕ). drop n (bits_of s)) f ∙ sym (drop-drop (8 * j) (8 * i) (bits_of s)) in
    record {
      small =
          subst (λ (n : ℕ). x * 2 ^ (8 * k) + y < n) (sym (pow-add 2 (8 * j) (8 * k)) ∙ ap (λ (n : ℕ). 2 ^ n) e)
          (digits_lt a.small b.small);
      same =
          subst (λ (n : ℕ). bits n (x * 2 ^ (8 * k) + y) ≡ fill n z) e
          (bits-fill (8 * j) (8 * k) x y z a.same (b.same ∙ ap (fill (8 * k)) d) b.small);
    }

pub spells_byte : (s : List ℕ) (i b : ℕ) → b ≡ get_or s i 0 → b < 256 → Spells s i 1 b
spells_byte s i b e h = record { small = h; same = ap (bits 8) e ∙ bits_byte i s }

-- one byte more
pub spells_more : (s : List ℕ) (i k x b : ℕ) → Spells s i k x → b ≡ get_or s (i + k) 0 → b < 256
    → Spells s i (k + 1) (x * 256 + b)
spells_more s i k x b a e h = spells_cat s i k 1 x b a (spells_byte s (i + k) b e h)

-- ---- the first bits of a word

-- a word without its bits from k on
cut : (x k : ℕ) → k ≤ 64 → x < 2 ^ 64 → x - (x * 2 ^ k % 2 ^ 64) / 2 ^ k ≡ x / 2 ^ (64 - k) * 2 ^ (64 - k)
cut x k h l = omega (arith, ap (λ (n : ℕ). n / 2 ^ k) (shl_64 x k h) ∙ shl-shr (x % 2 ^ (64 - k)) k, split x (64 - k))

pub cut_le : (x k : ℕ) → k < 64 → (x * 2 ^ k % 2 ^ 64) / 2 ^ k ≤ x
cut_le x k h =
    let k' : k ≤ 64 = omega arith in
    omega (arith, ap (λ (n : ℕ). n / 2 ^ k) (shl_64 x k k') ∙ shl-shr (x % 2 ^ (64 - k)) k, split x (64 - k))

-- its first k bits are those of a number
first_are : (x k : ℕ) → k ≤ 64 → take k (bits 64 x) ≡ bits k (x / 2 ^ (64 - k))
first_are x k h =
    let e : 64 ≡ k + (64 - k) = omega arith in
    ap (λ (n : ℕ). take k (bits n x)) e ∙ take-bits k (64 - k) x

-- and y behind them
module _ (x k y : ℕ) (h : k < 64) (lx : x < 2 ^ 64) (ly : y < 2 ^ 64) where
  rest_lt : y / 2 ^ k < 2 ^ (64 - k)
  rest_lt =
      let e : 64 ≡ (64 - k) + k = omega arith in
      shr_lt (64 - k) k (subst (λ (n : ℕ). y < 2 ^ n) e ly)

  joined_is : (x - (x * 2 ^ k % 2 ^ 64) / 2 ^ k) + y / 2 ^ k ≡ x / 2 ^ (64 - k) * 2 ^ (64 - k) + y / 2 ^ k
  joined_is =
      let l : k ≤ 64 = omega arith in
      ap (λ (n : ℕ). n + y / 2 ^ k) (cut x k l lx)

  pub joined-lt : (x - (x * 2 ^ k % 2 ^ 64) / 2 ^ k) + y / 2 ^ k < 2 ^ 64
  joined-lt =
      let e : 64 ≡ k + (64 - k) = omega arith in
      let hx : x / 2 ^ (64 - k) < 2 ^ k = shr_lt k (64 - k) (subst (λ (n : ℕ). x < 2 ^ n) e lx) in
      subst (λ (n : ℕ). n < 2 ^ 64) (sym joined_is)
      (subst (λ (n : ℕ). x / 2 ^ (64 - k) * 2 ^ (64 - k) + y / 2 ^ k < n)
      (sym (pow-add 2 k (64 - k)) ∙ ap (λ (n : ℕ). 2 ^ n) (sym e)) (digits_lt hx rest_lt))

  pub joined-bits : bits 64 ((x - (x * 2 ^ k % 2 ^ 64) / 2 ^ k) + y / 2 ^ k) ≡ take 64 (take k (bits 64 x) ++ bits 64 y)
  joined-bits =
      let l : k ≤ 64 = omega arith in
      let e : 64 ≡ k + (64 - k) = omega arith in
      let e' : 64 ≡ (64 - k) + k = omega arith in
      let A : List ℕ = bits k (x / 2 ^ (64 - k)) in
      let f : 64 ≡ length A + (64 - k) = omega (arith, length-bits k (x / 2 ^ (64 - k))) in
      ap₂ bits e joined_is ∙ bits_cat k (64 - k) (x / 2 ^ (64 - k)) (y / 2 ^ k) rest_lt
      ∙ sym (ap (λ (u : List ℕ). take 64 (u ++ bits 64 y)) (first_are x k l)
      ∙ ap (λ (n : ℕ). take n (A ++ bits 64 y)) f ∙ take-append-add A (bits 64 y) (64 - k)
      ∙ ap (λ (u : List ℕ). A ++ u) (ap (λ (n : ℕ). take (64 - k) (bits n y)) e' ∙ take-bits (64 - k) k y))

-- y's own bits from k on
module _ (k y : ℕ) (h : k < 64) where
  pub rest_is : (y * 2 ^ k % 2 ^ 64) / 2 ^ k ≡ y % 2 ^ (64 - k)
  rest_is =
      let l : k ≤ 64 = omega arith in
      ap (λ (n : ℕ). n / 2 ^ k) (shl_64 y k l) ∙ shl-shr (y % 2 ^ (64 - k)) k

  pub rest_are : drop k (bits 64 y) ≡ bits (64 - k) (y % 2 ^ (64 - k))
  rest_are =
      let e : 64 ≡ k + (64 - k) = omega arith in
      ap (λ (n : ℕ). drop k (bits n y)) e ∙ ap (drop k) (bits_split k (64 - k) y)
      ∙ drop_at (bits k (y / 2 ^ (64 - k))) (bits (64 - k) (y % 2 ^ (64 - k))) k (length-bits k (y / 2 ^ (64 - k)))

  -- a word moved over its first k bits
  pub moved_bits : bits 64 (y * 2 ^ k % 2 ^ 64) ≡ fill 64 (drop k (bits 64 y))
  moved_bits =
      let l : k ≤ 64 = omega arith in
      let e : 64 ≡ (64 - k) + k = omega arith in
      let A : List ℕ = bits (64 - k) (y % 2 ^ (64 - k)) in
      let lk : length A ≡ 64 - k = length-bits (64 - k) (y % 2 ^ (64 - k)) in
      let le : length A ≤ 64 = omega arith in
      let f : k ≡ 64 - length A = omega arith in
      ap₂ bits e (shl_64 y k l ∙ sym (add-zero ((y % 2 ^ (64 - k)) * 2 ^ k)))
      ∙ bits_cat (64 - k) k (y % 2 ^ (64 - k)) 0 (pow_pos k) ∙ ap (λ (z : List ℕ). A ++ z) (bits-zero k)
      ∙ sym (ap (fill 64) rest_are ∙ fill_short 64 A le ∙ ap (λ (n : ℕ). A ++ replicate n 0) (sym f))

-- behind the first k of x
module _ (x k y : ℕ) (h : k < 64) (lx : x < 2 ^ 64) where
  spliced_is : (x - (x * 2 ^ k % 2 ^ 64) / 2 ^ k) + (y * 2 ^ k % 2 ^ 64) / 2 ^ k
      ≡ x / 2 ^ (64 - k) * 2 ^ (64 - k) + y % 2 ^ (64 - k)
  spliced_is =
      let l : k ≤ 64 = omega arith in
      ap₂ ◌+◌ (cut x k l lx) (rest_is k y h)

  pub spliced-lt : (x - (x * 2 ^ k % 2 ^ 64) / 2 ^ k) + (y * 2 ^ k % 2 ^ 64) / 2 ^ k < 2 ^ 64
  spliced-lt =
      let e : 64 ≡ k + (64 - k) = omega arith in
      let hx : x / 2 ^ (64 - k) < 2 ^ k = shr_lt k (64 - k) (subst (λ (n : ℕ). x < 2 ^ n) e lx) in
      subst (λ (n : ℕ). n < 2 ^ 64) (sym spliced_is)
      (subst (λ (n : ℕ). x / 2 ^ (64 - k) * 2 ^ (64 - k) + y % 2 ^ (64 - k) < n)
      (sym (pow-add 2 k (64 - k)) ∙ ap (λ (n : ℕ). 2 ^ n) (sym e)) (digits_lt hx (mod-lt y (pow_pos (64 - k)))))

  pub spliced-bits : bits 64 ((x - (x * 2 ^ k % 2 ^ 64) / 2 ^ k) + (y * 2 ^ k % 2 ^ 64) / 2 ^ k)
      ≡ take k (bits 64 x) ++ drop k (bits 64 y)
  spliced-bits =
      let l : k ≤ 64 = omega arith in
      let e : 64 ≡ k + (64 - k) = omega arith in
      ap₂ bits e spliced_is
      ∙ bits_cat k (64 - k) (x / 2 ^ (64 - k)) (y % 2 ^ (64 - k)) (mod-lt y (pow_pos (64 - k)))
      ∙ sym (ap₂ ◌++◌ (first_are x k l) (rest_are k y h))

-- the last k bits of x, and y behind them
last_are : (x k : ℕ) → k ≤ 64 → drop (64 - k) (bits 64 x) ≡ bits k (x % 2 ^ k)
last_are x k h =
    let e : 64 ≡ (64 - k) + k = omega arith in
    ap (λ (n : ℕ). drop (64 - k) (bits n x)) e ∙ ap (drop (64 - k)) (bits_split (64 - k) k x)
    ∙ drop_at (bits (64 - k) (x / 2 ^ k)) (bits k (x % 2 ^ k)) (64 - k) (length-bits (64 - k) (x / 2 ^ k))

twice_mod : (a : ℕ) → ((a % 2 ^ 64) * 2) % 2 ^ 64 ≡ (a * 2) % 2 ^ 64
twice_mod a = omega arith

module _ (x k y : ℕ) (h : k < 64) (ly : y < 2 ^ 64) where
  moved_twice : ((x * 2 ^ (63 - k) % 2 ^ 64) * 2) % 2 ^ 64 ≡ (x % 2 ^ k) * 2 ^ (64 - k)
  moved_twice =
      let e : suc (63 - k) ≡ 64 - k = omega arith in
      let d : (x * 2 ^ (63 - k)) * 2 ≡ x * 2 ^ suc (63 - k) = mul_assoc x (2 ^ (63 - k)) 2 ∙ ap (λ (n : ℕ). x * n) (omega arith) in
      let f : 64 - (64 - k) ≡ k = omega arith in
      twice_mod (x * 2 ^ (63 - k)) ∙ ap (λ (n : ℕ). n % 2 ^ 64) (d ∙ ap (λ (n : ℕ). x * 2 ^ n) e)
      ∙ shl_64 x (64 - k) (omega arith) ∙ ap (λ (n : ℕ). (x % 2 ^ n) * 2 ^ (64 - k)) f

  across_is : ((x * 2 ^ (63 - k) % 2 ^ 64) * 2) % 2 ^ 64 + y / 2 ^ k ≡ (x % 2 ^ k) * 2 ^ (64 - k) + y / 2 ^ k
  across_is = ap (λ (n : ℕ). n + y / 2 ^ k) moved_twice

  behind_lt : y / 2 ^ k < 2 ^ (64 - k)
  behind_lt =
      let e : 64 ≡ (64 - k) + k = omega arith in
      shr_lt (64 - k) k (subst (λ (n : ℕ). y < 2 ^ n) e ly)

  pub across_lt : ((x * 2 ^ (63 - k) % 2 ^ 64) * 2) % 2 ^ 64 + y / 2 ^ k < 2 ^ 64
  across_lt =
      let e : 64 ≡ k + (64 - k) = omega arith in
      subst (λ (n : ℕ). n < 2 ^ 64) (sym across_is)
      (subst (λ (n : ℕ). (x % 2 ^ k) * 2 ^ (64 - k) + y / 2 ^ k < n)
      (sym (pow-add 2 k (64 - k)) ∙ ap (λ (n : ℕ). 2 ^ n) (sym e)) (digits_lt (mod-lt x (pow_pos k)) behind_lt))

  pub across-bits : bits 64 (((x * 2 ^ (63 - k) % 2 ^ 64) * 2) % 2 ^ 64 + y / 2 ^ k)
      ≡ drop (64 - k) (bits 64 x) ++ take (64 - k) (bits 64 y)
  across-bits =
      let e : 64 ≡ k + (64 - k) = omega arith in
      let e' : 64 ≡ (64 - k) + k = omega arith in
      ap₂ bits e across_is ∙ bits_cat k (64 - k) (x % 2 ^ k) (y / 2 ^ k) behind_lt
      ∙ sym (ap₂ ◌++◌ (last_are x k (omega arith))
      (ap (λ (n : ℕ). take (64 - k) (bits n y)) e' ∙ take-bits (64 - k) k y))

pub across_all : (x k y : ℕ) → 64 ≤ k → bits 64 x ≡ drop (64 - k) (bits 64 x) ++ take (64 - k) (bits 64 y)
across_all x k y h =
    let e : 64 - k ≡ 0 = omega arith in
    rw e (sym (append-nil (bits 64 x)))

pub spliced_all : (x k y : ℕ) → 64 ≤ k → bits 64 x ≡ take k (bits 64 x) ++ drop k (bits 64 y)
spliced_all x k y h =
    sym (ap₂ ◌++◌ (take_all k (bits 64 x) (omega (arith, length-bits 64 x)))
    (drop_of_length-le (bits 64 y) {i = k} (omega (arith, length-bits 64 y)))
    ∙ append-nil (bits 64 x))

pub joined_all : (x k y : ℕ) → 64 ≤ k → bits 64 x ≡ take 64 (take k (bits 64 x) ++ bits 64 y)
joined_all x k y h =
    sym (ap (λ (u : List ℕ). take 64 (u ++ bits 64 y)) (take_all k (bits 64 x) (omega (arith, length-bits 64 x)))
    ∙ take_at (bits 64 x) (bits 64 y) 64 (length-bits 64 x))
