-- Laws of the numbers that bytes of a slice hold, least significant byte first (`unle` of format's specs/Bits.antt).
-- In order: the byte past the end; one byte and those behind it; two and four bytes.
-- Assumes nothing.
use mathlib.Core.List.{List, []}
use mathlib.Core.Path.{◌≡◌, refl, sym, ap, ◌∙◌}
use Prim.Native.Nat.{ℕ, suc, ◌+◌, ◌*◌, ◌≤◌}
use native.Mathlib.Numerals.{add-one}
use native.Mathlib.Omega.{arith}
use native.Mathlib.Decide.{dec_le}
use lib.ListN.{length, get_or, take, drop, drop_of_length-le, get_or-eq_default}
use lib.Seq.{drop-cons, take-nil}
use Rattle.format.specs.Bits.{unle}

pub byte_past : (s : List ℕ) (i : ℕ) → length s ≤ i → 0 ≡ get_or s i 0
byte_past s i h = sym (get_or-eq_default s 0 h)

unle_empty : (w : ℕ) → unle (take w []) ≡ 0
unfolding unle
unle_empty w = ap unle (take-nil w)

unle-step : (w i : ℕ) (s : List ℕ) → unle (take (suc w) (drop i s)) ≡ get_or s i 0 + 256 * unle (take w (drop (i + 1) s))
unfolding unle
unle-step w i s = go (dec_le (suc i) (length s))
  where
    go : Dec (suc i ≤ length s) → unle (take (suc w) (drop i s)) ≡ get_or s i 0 + 256 * unle (take w (drop (i + 1) s))
    go (yes h) =
        ap (λ (l : List ℕ). unle (take (suc w) l)) (drop-cons s i 0 h)
        ∙ ap (λ (k : ℕ). get_or s i 0 + 256 * unle (take w (drop k s))) (sym (add-one i))
    go (no h) =
        let k : length s ≤ i = omega arith in
        let z : unle (take (suc w) (drop i s)) ≡ 0 =
        ap (λ (l : List ℕ). unle (take (suc w) l)) (drop_of_length-le s k) in
        let y : unle (take w (drop (i + 1) s)) ≡ 0 =
        ap (λ (l : List ℕ). unle (take w l)) (drop_of_length-le s {i = i + 1} (omega arith)) ∙ unle_empty w in
        omega (arith, z, y, byte_past s i k)

unle-none : (l : List ℕ) → unle (take 0 l) ≡ 0
unfolding unle
unle-none l = refl

pub unle_two : (s : List ℕ) (i : ℕ) → unle (take 2 (drop i s)) ≡ get_or s i 0 + 256 * get_or s (i + 1) 0
unle_two s i = omega (arith, unle-step 1 i s, unle-step 0 (i + 1) s, unle-none (drop ((i + 1) + 1) s))

pub unle-four : (s : List ℕ) (i : ℕ)
    → unle (take 4 (drop i s)) ≡ unle (take 2 (drop i s)) + 65536 * unle (take 2 (drop (i + 2) s))
unle-four s i =
    let e : (i + 1) + 1 ≡ i + 2 = omega arith in
    omega (
      arith,
      unle_two s i,
      unle-step 3 i s,
      unle-step 2 (i + 1) s,
      ap (λ (k : ℕ). unle (take 2 (drop k s))) e,
    )
