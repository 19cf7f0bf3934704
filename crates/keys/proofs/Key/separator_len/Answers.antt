-- `keys::Key::separator_len` meets its contract: the last word that is not zero has the last set bit.
-- Assumes nothing.
use mathlib.Core.List.{List, ◌++◌}
use mathlib.Core.Path.{◌≡◌, ap, ◌∙◌}
use Prim.Native.Nat.{ℕ, ◌-◌, ◌^◌, ◌≤◌, ◌<◌}
use native.Mathlib.Omega.{arith}
use lib.Count.{count_trailing_zeros}
use lib.ListN.{length, length-append}
use Rattle.format.specs.Bits.{bits}
use Rattle.format.specs.Key.{last_set, separator_length}
use Rattle.facts.proofs.BitsLaws.{length-bits}
use Rattle.keys.specs.declared.Key.{Key}
use Rattle.keys.specs.Keys.{key_bits}
use Rattle.keys.proofs.CompareLaws.{last_set-bits, last_set_in, last_set_before}
use Rattle.keys.proofs.KeysLaws.{key_bits-last}
use Rattle.std.specs.Int.Count.{trailing_of_zero}
use Rattle.std.proofs.Common.{rules, w64}
use Rattle.std.proofs.lemmas.Nat.Bits.{bit_at-trailing_zeros}
use Rattle.keys.proofs.Key.separator_len.Goals as goal

-- a word that is not 0 has a bit that is set, and 0 has none
set_inside : (x : ℕ) → (x ≡ 0 → ⊥) → x < 2 ^ 64 → count_trailing_zeros 64 x < 64
set_inside x z h = (bit_at-trailing_zeros w64 x (omega arith) h).0

none_set : (x : ℕ) → x ≡ 0 → 64 ≤ count_trailing_zeros 64 x
none_set x z = omega (arith, ap (count_trailing_zeros 64) z ∙ trailing_of_zero 64)

module _ (k : Key) where
  ab : List ℕ
  ab = bits 64 k.a ++ bits 64 k.b

  abc : List ℕ
  abc = ab ++ bits 64 k.c

  length_ab : length ab ≡ 128
  unfolding ab
  length_ab = simp (length-append, length-bits)

  length_abc : length abc ≡ 192
  unfolding abc ab
  length_abc = simp (length-append, length-bits)

  last : key_bits k ≡ abc ++ bits 64 k.d
  unfolding ab abc
  last = key_bits-last k

  in_d : count_trailing_zeros 64 k.d < 64 → 256 - count_trailing_zeros 64 k.d ≡ separator_length (key_bits k)
  unfolding separator_length
  in_d h = omega (arith, ap last_set last ∙ last_set_in 64 abc k.d h, length_abc)

  module _ (d : 64 ≤ count_trailing_zeros 64 k.d) where
    past_d : last_set (key_bits k) ≡ last_set abc
    past_d = ap last_set last ∙ last_set_before 64 abc k.d d

    in_c : count_trailing_zeros 64 k.c < 64 → 192 - count_trailing_zeros 64 k.c ≡ separator_length (key_bits k)
    unfolding separator_length abc
    in_c h = omega (arith, past_d ∙ last_set_in 64 ab k.c h, length_ab)

    module _ (c : 64 ≤ count_trailing_zeros 64 k.c) where
      past_c : last_set (key_bits k) ≡ last_set ab
      unfolding abc
      past_c = past_d ∙ last_set_before 64 ab k.c c

      in_b : count_trailing_zeros 64 k.b < 64 → 128 - count_trailing_zeros 64 k.b ≡ separator_length (key_bits k)
      unfolding separator_length ab
      in_b h = omega (arith, past_c ∙ last_set_in 64 (bits 64 k.a) k.b h, length-bits 64 k.a)

      module _ (b : 64 ≤ count_trailing_zeros 64 k.b) where
        past_b : last_set (key_bits k) ≡ 64 - count_trailing_zeros 64 k.a
        unfolding ab
        past_b = past_c ∙ last_set_before 64 (bits 64 k.a) k.b b ∙ last_set-bits 64 k.a

        in_a : count_trailing_zeros 64 k.a < 64 → 64 - count_trailing_zeros 64 k.a ≡ separator_length (key_bits k)
        unfolding separator_length
        in_a h = omega (arith, past_b)

        none : 64 ≤ count_trailing_zeros 64 k.a → 1 ≡ separator_length (key_bits k)
        unfolding separator_length
        none h = omega (arith, past_b)

ruleset laws = (set_inside, none_set, in_a, in_b, in_c, in_d, none)

pub returns-then-self-ne0 : goal.returns-then-self-ne0
returns-then-self-ne0 c = search (rules, laws)

pub returns-then-self-ne0-2 : goal.returns-then-self-ne0-2
returns-then-self-ne0-2 c = search (rules, laws)

pub returns-then-self-ne0-3 : goal.returns-then-self-ne0-3
returns-then-self-ne0-3 c = search (rules, laws)

pub returns-then-self-ne0-4 : goal.returns-then-self-ne0-4
returns-then-self-ne0-4 c = search (rules, laws)

pub returns : goal.returns
returns c = search (rules, laws)
