-- Laws of shared bits, as two keys are gone through from the front.
-- In order: one bit more, or none; how far two keys have been gone through (`SharedTo`).
-- Assumes nothing.
use mathlib.Core.List.{List}
use mathlib.Core.Path.{◌≡◌, ap₂, ◌∙◌}
use Prim.Native.Nat.{ℕ, suc, ◌+◌, ◌*◌, ◌≤◌, ◌<◌}
use native.Mathlib.Omega.{arith}
use lib.ListN.{length, get_or, drop, drop_of_length-le}
use lib.Seq.{drop-cons}
use Rattle.format.specs.Bits.{bits_of}
use Rattle.format.specs.Key.{shared_bits}
use Rattle.facts.proofs.BitsLaws.{length-bits_of}
use Rattle.facts.proofs.KeyLaws.{shared_bits_more, shared_bits_stop}

-- ---- one bit

module _ (xs ys : List ℕ) (n : ℕ) (hx : n < length xs) (hy : n < length ys) where
  -- the bits at n are equal: one more is shared
  pub shared_bits_next : get_or xs n 0 ≡ get_or ys n 0
      → shared_bits (drop n xs) (drop n ys) ≡ suc (shared_bits (drop (suc n) xs) (drop (suc n) ys))
  shared_bits_next e =
      ap₂ shared_bits (drop-cons xs n 0 hx) (drop-cons ys n 0 hy)
      ∙ shared_bits_more (get_or xs n 0) (get_or ys n 0) (drop (suc n) xs) (drop (suc n) ys) e

  -- they differ: no more are
  pub shared_bits-end : (get_or xs n 0 ≡ get_or ys n 0 → ⊥) → shared_bits (drop n xs) (drop n ys) ≡ 0
  shared_bits-end e =
      ap₂ shared_bits (drop-cons xs n 0 hx) (drop-cons ys n 0 hy)
      ∙ shared_bits_stop (get_or xs n 0) (get_or ys n 0) (drop (suc n) xs) (drop (suc n) ys) e

-- ---- keys gone through

-- The first n bits of a and b are equal, so that the rest decides.
pub record SharedTo (a b : List ℕ) (n : ℕ) : Type 0 where
  pub rest : shared_bits (bits_of a) (bits_of b) ≡ n + shared_bits (drop n (bits_of a)) (drop n (bits_of b))

pub SharedTo_start : (a b : List ℕ) → SharedTo a b 0
SharedTo_start a b = record { rest = omega arith }

pub SharedTo_all : (a b : List ℕ) (n : ℕ) → 8 * length a ≤ n → SharedTo a b n → n ≡ shared_bits (bits_of a) (bits_of b)
unfolding shared_bits
SharedTo_all a b n h so =
    let l : length (bits_of a) ≤ n = omega (arith, length-bits_of a) in
    omega (arith, rw (drop_of_length-le (bits_of a) l) at so.rest)
