-- `bit_ops::prefix_len` meets its contract: because n bits are shared so far, n being the bits of the bytes and of the
-- byte's bits gone through, and a mask of one bit tells whether the next is. The measures are what is left of the bytes
-- and of the byte's bits.
-- Assumes nothing.
use Rattle.std.proofs.Common.{rules}
use Rattle.bit_ops.proofs.prefix_len.Goals as goal
use mathlib.Core.List.{List}
use mathlib.Core.Path.{◌≡◌, sym, ap, ◌∙◌}
use Prim.Native.Nat.{ℕ, ◌+◌, ◌-◌, ◌*◌, ◌/◌, ◌%◌, ◌^◌, ◌≤◌, ◌<◌}
use native.Mathlib.Nat.{one-mul}
use native.Mathlib.Numerals.{add-one}
use native.Mathlib.Omega.{arith}
use lib.Bits.{bit_and, and_high}
use lib.ListN.{length, get_or}
use lib.Pow.{pow-add, shl_exact, shl-shr}
use Rattle.format.specs.Bits.{bits_of}
use Rattle.format.specs.Key.{shared_bits}
use Rattle.facts.proofs.BitsLaws.{length-bits_of}
use Rattle.bit_copy.proofs.FieldLaws.{get_or-bits_of}
use Rattle.bit_ops.proofs.SharedLaws.{SharedTo, SharedTo_start, SharedTo_all, shared_bits_next, shared_bits-end}

-- ---- a mask of one bit

and_bit : (n k : ℕ) → bit_and n (2 ^ k) ≡ (n / 2 ^ k % 2) * 2 ^ k
and_bit n k =
    let e : 2 ^ (1 + k) - 2 ^ k ≡ 2 ^ k = omega (arith, pow-add 2 1 k) in
    ap (λ (x : ℕ). bit_and n x) (sym e) ∙ and_high n 1 k

-- `1u8 << k`
one_shl : (k : ℕ) → k < 8 → 1 * 2 ^ k % 256 ≡ 2 ^ k
one_shl k h = shl_exact 1 k 8 (omega arith) (omega arith) ∙ one-mul (2 ^ k)

-- two numbers under it are equal where that bit is
module _ (x y k : ℕ) (h : k < 8) where
  masked_eq : bit_and x (1 * 2 ^ k % 256) ≡ bit_and y (1 * 2 ^ k % 256) → x / 2 ^ k % 2 ≡ y / 2 ^ k % 2
  masked_eq e = sym (shl-shr _ k) ∙ ap (λ (z : ℕ). z / 2 ^ k) (simp (one_shl, and_bit, h) at e) ∙ shl-shr _ k

  eq_masked : x / 2 ^ k % 2 ≡ y / 2 ^ k % 2 → bit_and x (1 * 2 ^ k % 256) ≡ bit_and y (1 * 2 ^ k % 256)
  eq_masked e = simp (one_shl, and_bit, h, e)

-- ---- the loops

full : (a b : List ℕ) (i n : ℕ) → length a ≡ 32 → 32 ≤ i → n ≡ 8 * i → SharedTo a b n
    → n ≡ shared_bits (bits_of a) (bits_of b)
full a b i n l h e so = SharedTo_all a b n (omega arith) so

-- byte i and bit j are looked at, and n bits are shared so far
module _ (a b : List ℕ) (i j n : ℕ) (la : length a ≡ 32) (lb : length b ≡ 32) (hi : i < 32) (hj : j < 8)
    (e : n ≡ 8 * i + j) (so : SharedTo a b n) where
  more : bit_and (get_or a i 0) (1 * 2 ^ (7 - j) % 256) ≡ bit_and (get_or b i 0) (1 * 2 ^ (7 - j) % 256)
      → SharedTo a b (n + 1)
  more q =
      let hx : i < length a = omega arith in
      let hy : i < length b = omega arith in
      let ha : n < length (bits_of a) = omega (arith, length-bits_of a) in
      let hb : n < length (bits_of b) = omega (arith, length-bits_of b) in
      let m : get_or (bits_of a) n 0 ≡ get_or (bits_of b) n 0 =
      rw (e, get_or-bits_of, get_or-bits_of) (masked_eq _ _ (7 - j) (omega arith) q) in
      record { rest = rw add-one (omega (arith, so.rest, shared_bits_next (bits_of a) (bits_of b) n ha hb m)) }

  stop : (bit_and (get_or a i 0) (1 * 2 ^ (7 - j) % 256) ≡ bit_and (get_or b i 0) (1 * 2 ^ (7 - j) % 256) → ⊥)
      → n ≡ shared_bits (bits_of a) (bits_of b)
  stop q =
      let hx : i < length a = omega arith in
      let hy : i < length b = omega arith in
      let ha : n < length (bits_of a) = omega (arith, length-bits_of a) in
      let hb : n < length (bits_of b) = omega (arith, length-bits_of b) in
      let d : get_or (bits_of a) n 0 ≡ get_or (bits_of b) n 0 → ⊥ =
      λ m. q (eq_masked _ _ (7 - j) (omega arith) (rw (e, get_or-bits_of, get_or-bits_of) at m)) in
      omega (arith, so.rest, shared_bits-end (bits_of a) (bits_of b) n ha hb d)

ruleset laws = (SharedTo_start, more, stop, full)

pub loop-bit-preserved : goal.loop-bit-preserved
loop-bit-preserved c = search (rules, laws)

pub returns-after-bytes : goal.returns-after-bytes
returns-after-bytes c = search (rules, laws)

pub returns-then-x-byte : goal.returns-then-x-byte
returns-then-x-byte c = search (rules, laws)
