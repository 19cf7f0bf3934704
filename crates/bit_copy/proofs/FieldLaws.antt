-- Laws of the bits of a number and of bytes that format's laws leave out.
-- In order: one bit of a number (`bits`), and of bytes (`bits_of`); a front and a rest of bytes; bits replaced in the
-- middle of others.
-- Assumes nothing.
use mathlib.Core.List.{List, [], ◌∷◌, ◌++◌, append_assoc}
use mathlib.Core.Path.{◌≡◌, sym, ap, ap₂, ◌∙◌}
use Prim.Native.Nat.{ℕ, zero, suc, ◌+◌, ◌-◌, ◌*◌, ◌/◌, ◌%◌, ◌^◌, ◌≤◌, ◌<◌}
use native.Mathlib.Nat.{le_of_suc-le-suc, not-suc-le-zero}
use native.Mathlib.Omega.{arith}
use lib.ListN.{length, get_or, take, drop, take-append-drop, get_or-append}
use lib.Seq.{drop-append-add, drop-append-le, get_or-append-add, length-take-le, paste}
use lib.Seq.{take-append-add, take-append-le, take_at}
use Rattle.format.specs.Bits.{bits, bits_of}
use Rattle.facts.proofs.BitsLaws.{bits_of-append, length-bits, length-bits_of}

-- ---- one bit

pub get_d_bits : (w n i : ℕ) → i < w → get_or (bits w n) i 0 ≡ n / 2 ^ (w - suc i) % 2
unfolding bits
get_d_bits zero n i h = absurd (not-suc-le-zero h)
get_d_bits (suc w) n zero h = ap (λ (x : ℕ). n / 2 ^ x % 2) (omega arith)
get_d_bits (suc w) n (suc i) h = get_d_bits w n i (le_of_suc-le-suc h) ∙ ap (λ (x : ℕ). n / 2 ^ x % 2) (omega arith)

-- bit j of byte i
pub get_or-bits_of : (l : List ℕ) (i j : ℕ) → i < length l → j < 8
    → get_or (bits_of l) (8 * i + j) 0 ≡ get_or l i 0 / 2 ^ (7 - j) % 2
unfolding bits_of
get_or-bits_of [] i j h k = absurd (not-suc-le-zero h)
get_or-bits_of (b ∷ bs) zero j h k =
    let e : 8 * 0 + j ≡ j = omega arith in
    let s : 8 - suc j ≡ 7 - j = omega arith in
    let len : j < length (bits 8 b) = omega (arith, length-bits 8 b) in
    ap (λ (x : ℕ). get_or (bits 8 b ++ bits_of bs) x 0) e ∙ get_or-append (bits 8 b) (bits_of bs) 0 j len
    ∙ get_d_bits 8 b j k
    ∙ ap (λ (x : ℕ). b / 2 ^ x % 2) s
get_or-bits_of (b ∷ bs) (suc i) j h k =
    let e : 8 * suc i + j ≡ length (bits 8 b) + (8 * i + j) = omega (arith, length-bits 8 b) in
    ap (λ (x : ℕ). get_or (bits 8 b ++ bits_of bs) x 0) e ∙ get_or-append-add (bits 8 b) (bits_of bs) (8 * i + j) 0
    ∙ get_or-bits_of bs i j (le_of_suc-le-suc h) k

-- ---- a front and a rest of bytes

module _ (k : ℕ) (l : List ℕ) (h : k ≤ length l) where
  parts : bits_of l ≡ bits_of (take k l) ++ bits_of (drop k l)
  parts = ap bits_of (sym (take-append-drop k l)) ∙ bits_of-append (take k l) (drop k l)

  size : length (bits_of (take k l)) ≡ 8 * k
  size = length-bits_of (take k l) ∙ ap (λ (n : ℕ). 8 * n) (length-take-le k l h)

  -- the first k bytes
  pub bits_of-take : bits_of (take k l) ≡ take (8 * k) (bits_of l)
  bits_of-take = sym (ap (take (8 * k)) parts ∙ take_at (bits_of (take k l)) (bits_of (drop k l)) (8 * k) size)

-- ---- bits replaced in the middle

pub paste_inside : (p x q s : List ℕ) (j n : ℕ) → j + n ≤ length x
    → paste (p ++ (x ++ q)) (length p + j) s n ≡ p ++ (paste x j s n ++ q)
paste_inside p x q s j n h =
    let t : take (length p + j) (p ++ (x ++ q)) ≡ p ++ take j x =
    take-append-add p (x ++ q) j ∙ ap (λ (l : List ℕ). p ++ l) (take-append-le j x q (omega arith)) in
    let e : (length p + j) + n ≡ length p + (j + n) = omega arith in
    let d : drop ((length p + j) + n) (p ++ (x ++ q)) ≡ drop (j + n) x ++ q =
    ap (λ (k : ℕ). drop k (p ++ (x ++ q))) e ∙ drop-append-add p (x ++ q) (j + n) ∙ drop-append-le (j + n) x q h in
    ap₂ (λ (l m : List ℕ). l ++ take n s ++ m) t d ∙ simp append_assoc
