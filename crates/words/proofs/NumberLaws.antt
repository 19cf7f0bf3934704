-- Laws of parts of a number (`bits` of format's specs/Bits.antt).
-- In order: its first bits and those that follow; the bits of 0; a left shift.
-- Not here: those of format's `BitsLaws`.
-- Assumes nothing.
use mathlib.Core.List.{◌∷◌, ◌++◌}
use mathlib.Core.Path.{◌≡◌, refl, sym, ap, ap₂, ◌∙◌}
use Prim.Native.Nat.{ℕ, zero, suc, ◌+◌, ◌-◌, ◌*◌, ◌/◌, ◌%◌, ◌^◌, ◌≤◌}
use native.Mathlib.Nat.{add-zero, div-eq_of_lt, mod-lt}
use native.Mathlib.Omega.{arith}
use lib.Pow.{pow_pos, split, low, shl-shr, mod-pow-add}
use lib.ListN.{take, drop, replicate}
use lib.Seq.{take_at, drop_at}
use Rattle.format.specs.Bits.{bits}
use Rattle.facts.proofs.BitsLaws.{length-bits, bits_cat, bits-mod}

-- its first j bits, and the k that follow
pub bits_split : (j k n : ℕ) → bits (j + k) n ≡ bits j (n / 2 ^ k) ++ bits k (n % 2 ^ k)
bits_split j k n = ap (bits (j + k)) (sym (split n k)) ∙ bits_cat j k (n / 2 ^ k) (n % 2 ^ k) (mod-lt n (pow_pos k))

pub take-bits : (j k n : ℕ) → take j (bits (j + k) n) ≡ bits j (n / 2 ^ k)
take-bits j k n =
    ap (take j) (bits_split j k n) ∙ take_at (bits j (n / 2 ^ k)) (bits k (n % 2 ^ k)) j (length-bits j (n / 2 ^ k))

pub drop_bits : (j k n : ℕ) → drop j (bits (j + k) n) ≡ bits k n
drop_bits j k n =
    ap (drop j) (bits_split j k n) ∙ drop_at (bits j (n / 2 ^ k)) (bits k (n % 2 ^ k)) j (length-bits j (n / 2 ^ k))
    ∙ bits-mod k k n (omega arith)

pub bits-zero : (w : ℕ) → bits w 0 ≡ replicate w 0
unfolding bits
bits-zero zero = refl
bits-zero (suc w) = ap₂ ◌∷◌ (ap (λ (x : ℕ). x % 2) (div-eq_of_lt (pow_pos w))) (bits-zero w)

-- a left shift in j + k bits keeps the j low ones
shl_low : (x j k : ℕ) → x * 2 ^ k % 2 ^ (j + k) ≡ (x % 2 ^ j) * 2 ^ k
shl_low x j k =
    let z : x * 2 ^ k % 2 ^ k ≡ 0 = ap (λ (n : ℕ). n % 2 ^ k) (sym (add-zero (x * 2 ^ k))) ∙ low x k (pow_pos k) in
    mod-pow-add (x * 2 ^ k) j k ∙ ap₂ (λ (a b : ℕ). (a % 2 ^ j) * 2 ^ k + b) (shl-shr x k) z
    ∙ add-zero ((x % 2 ^ j) * 2 ^ k)

-- and so in 64 bits
pub shl_64 : (x h : ℕ) → h ≤ 64 → x * 2 ^ h % 2 ^ 64 ≡ (x % 2 ^ (64 - h)) * 2 ^ h
shl_64 x h l =
    let e : 64 ≡ (64 - h) + h = omega arith in
    ap (λ (k : ℕ). x * 2 ^ h % 2 ^ k) e ∙ shl_low x (64 - h) h
