-- A key is known by its 256 bits: two of the same bits are one.
-- Assumes nothing.
use mathlib.Core.List.{List}
use mathlib.Core.Path.{◌≡◌, sym, ap, ap₂, ◌∙◌}
use Prim.Native.Nat.{ℕ, ◌^◌, ◌<◌}
use lib.ListN.{take, drop}
use Rattle.format.specs.Bits.{value}
use Rattle.keys.specs.declared.Key.{Key}
use Rattle.keys.specs.Keys.{key_bits}
use Rattle.keys.proofs.KeysLaws.{word_a, word_b, word_c, word_d}

-- each word has 64 bits, as its type says
pub record InWords (k : Key) : Type 0 where
  pub a : k.a < 2 ^ 64
  pub b : k.b < 2 ^ 64
  pub c : k.c < 2 ^ 64
  pub d : k.d < 2 ^ 64

-- the key of 256 bits
pub key_of : List ℕ → Key
key_of bs =
    record {
      a = value (take 64 bs);
      b = value (take 64 (drop 64 bs));
      c = value (take 64 (drop 128 bs));
      d = value (take 64 (drop 192 bs));
    }

pub key_of-key_bits : (k : Key) → InWords k → key_of (key_bits k) ≡ k
unfolding key_of
key_of-key_bits k w =
    let c : ℕ = value (take 64 (drop 128 (key_bits k))) in
    let d : ℕ = value (take 64 (drop 192 (key_bits k))) in
    ap₂ (λ (x y : ℕ). record { a = x; b = y; c = c; d = d }) (word_a k w.a) (word_b k w.b)
    ∙ ap₂ (λ (x y : ℕ). record { a = k.a; b = k.b; c = x; d = y }) (word_c k w.c) (word_d k w.d)

pub key_bits_inj : (k o : Key) → InWords k → InWords o → key_bits k ≡ key_bits o → k ≡ o
key_bits_inj k o v w e = sym (key_of-key_bits k v) ∙ ap key_of e ∙ key_of-key_bits o w
