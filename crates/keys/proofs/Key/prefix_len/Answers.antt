-- `keys::Key::prefix_len` meets its contract: equal words share their 64 bits, and the first two that differ
-- share the leading zeros of their difference.
-- Assumes nothing.
use mathlib.Core.List.{List, [], ◌++◌, append-nil}
use mathlib.Core.Path.{◌≡◌, sym, ap, ap₂, ◌∙◌}
use Prim.Native.Nat.{ℕ, ◌+◌, ◌^◌, ◌≤◌, ◌<◌}
use native.Mathlib.Omega.{arith}
use lib.Bits.{bit_xor}
use lib.Count.{count_leading_zeros, leading_le}
use Rattle.format.specs.Bits.{bits}
use Rattle.format.specs.Key.{shared_bits}
use Rattle.facts.proofs.BitsLaws.{length-bits}
use Rattle.facts.proofs.KeyLaws.{shared_bits_same}
use Rattle.keys.specs.declared.Key.{Key}
use Rattle.keys.specs.Keys.{key_bits}
use Rattle.keys.proofs.CompareLaws.{shared_bits_differ, shared_bits_equal}
use Rattle.keys.proofs.KeysLaws.{key_bits-words}
use Rattle.std.proofs.Common.{rules}
use Rattle.keys.proofs.Key.prefix_len.Goals as goal

cd : Key → List ℕ
cd k = bits 64 k.c ++ bits 64 k.d

bcd : Key → List ℕ
bcd k = bits 64 k.b ++ cd k

module _ (k o : Key) where
  whole : shared_bits (key_bits k) (key_bits o) ≡ shared_bits (bits 64 k.a ++ bcd k) (bits 64 o.a ++ bcd o)
  unfolding bcd cd
  whole = ap₂ shared_bits (key_bits-words k) (key_bits-words o)

  differ_a : k.a < 2 ^ 64 → o.a < 2 ^ 64 → (k.a ≡ o.a → ⊥)
      → count_leading_zeros 64 (bit_xor k.a o.a) ≡ shared_bits (key_bits k) (key_bits o)
  differ_a hk ho d = sym (whole ∙ shared_bits_differ 64 k.a o.a (bcd k) (bcd o) hk ho d)

  module _ (a : k.a ≡ o.a) where
    past_a : shared_bits (key_bits k) (key_bits o) ≡ 64 + shared_bits (bits 64 k.b ++ cd k) (bits 64 o.b ++ cd o)
    unfolding bcd
    past_a = whole ∙ shared_bits_equal 64 k.a o.a (bcd k) (bcd o) a

    differ_b : k.b < 2 ^ 64 → o.b < 2 ^ 64 → (k.b ≡ o.b → ⊥)
        → 64 + count_leading_zeros 64 (bit_xor k.b o.b) ≡ shared_bits (key_bits k) (key_bits o)
    differ_b hk ho d = omega (arith, past_a, shared_bits_differ 64 k.b o.b (cd k) (cd o) hk ho d)

    module _ (b : k.b ≡ o.b) where
      past_b : shared_bits (key_bits k) (key_bits o)
          ≡ 128 + shared_bits (bits 64 k.c ++ bits 64 k.d) (bits 64 o.c ++ bits 64 o.d)
      unfolding cd
      past_b = omega (arith, past_a, shared_bits_equal 64 k.b o.b (cd k) (cd o) b)

      differ_c : k.c < 2 ^ 64 → o.c < 2 ^ 64 → (k.c ≡ o.c → ⊥)
          → 128 + count_leading_zeros 64 (bit_xor k.c o.c) ≡ shared_bits (key_bits k) (key_bits o)
      differ_c hk ho d =
          omega (arith, past_b, shared_bits_differ 64 k.c o.c (bits 64 k.d) (bits 64 o.d) hk ho d)

      module _ (c : k.c ≡ o.c) where
        past_c : shared_bits (key_bits k) (key_bits o) ≡ 192 + shared_bits (bits 64 k.d) (bits 64 o.d)
        past_c = omega (arith, past_b, shared_bits_equal 64 k.c o.c (bits 64 k.d) (bits 64 o.d) c)

        differ_d : k.d < 2 ^ 64 → o.d < 2 ^ 64 → (k.d ≡ o.d → ⊥)
            → 192 + count_leading_zeros 64 (bit_xor k.d o.d) ≡ shared_bits (key_bits k) (key_bits o)
        differ_d hk ho d =
            let e : shared_bits (bits 64 k.d) (bits 64 o.d) ≡ count_leading_zeros 64 (bit_xor k.d o.d) =
            ap₂ shared_bits (sym (append-nil (bits 64 k.d))) (sym (append-nil (bits 64 o.d)))
            ∙ shared_bits_differ 64 k.d o.d [] [] hk ho d in
            omega (arith, past_c)

        equal : k.d ≡ o.d → 256 ≡ shared_bits (key_bits k) (key_bits o)
        equal d =
            let e : shared_bits (bits 64 k.d) (bits 64 o.d) ≡ 64 =
            ap (λ (x : ℕ). shared_bits (bits 64 x) (bits 64 o.d)) d ∙ shared_bits_same (bits 64 o.d)
            ∙ length-bits 64 o.d in
            omega (arith, past_c)

most_a : (w : ℕ) → count_leading_zeros 64 w ≤ 256
most_a w = omega (arith, leading_le 64 w)

most_b : (w : ℕ) → 64 + count_leading_zeros 64 w ≤ 256
most_b w = omega (arith, leading_le 64 w)

most_c : (w : ℕ) → 128 + count_leading_zeros 64 w ≤ 256
most_c w = omega (arith, leading_le 64 w)

most_d : (w : ℕ) → 192 + count_leading_zeros 64 w ≤ 256
most_d w = omega (arith, leading_le 64 w)

ruleset laws =
    (differ_a, differ_b, differ_c, differ_d, equal, most_a, most_b, most_c, most_d)

pub returns-then-self-o : goal.returns-then-self-o
returns-then-self-o c = search (rules, laws)

pub returns-then-self-o-2 : goal.returns-then-self-o-2
returns-then-self-o-2 c = search (rules, laws)

pub returns-then-self-o-3 : goal.returns-then-self-o-3
returns-then-self-o-3 c = search (rules, laws)

pub returns-then-self-o-4 : goal.returns-then-self-o-4
returns-then-self-o-4 c = search (rules, laws)

pub returns : goal.returns
returns c = search (rules, laws)
