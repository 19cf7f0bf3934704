-- Laws of keys as four words (`specs/Keys.antt`).
-- In order: the words one behind the other; their values; that they are a key.
-- Assumes nothing.
use mathlib.Core.List.{List, ◌++◌, append_assoc}
use mathlib.Core.Path.{◌≡◌, sym, ap, subst, ◌∙◌}
use Prim.Native.Nat.{ℕ, ◌^◌, ◌<◌}
use native.Mathlib.Omega.{arith}
use lib.ListN.{length, take, drop, length-append}
use lib.Seq.{take_at, drop_at, drop-drop, take_all}
use Rattle.format.specs.Bits.{bits, value, AllBelow}
use Rattle.format.specs.Key.{IsKey}
use Rattle.facts.proofs.BitsLaws.{length-bits, AllBelow-bits, AllBelow-append, value_of_bits}
use Rattle.keys.specs.declared.Key.{Key}
use Rattle.keys.specs.Keys.{key_bits}

module _ (k : Key) where
  -- the first word by itself, and then the second
  pub key_bits-words : key_bits k ≡ bits 64 k.a ++ (bits 64 k.b ++ (bits 64 k.c ++ bits 64 k.d))
  unfolding key_bits
  key_bits-words = simp append_assoc

  -- the last word by itself
  pub key_bits-last : key_bits k ≡ bits 64 k.a ++ bits 64 k.b ++ bits 64 k.c ++ bits 64 k.d
  unfolding key_bits
  key_bits-last = mathlib.Core.Path.refl

  pub length-key_bits : length (key_bits k) ≡ 256
  length-key_bits =
      ap length key_bits-words ∙ simp (length-append, length-bits)

  AllBelow-key_bits : AllBelow 2 (key_bits k)
  AllBelow-key_bits =
      subst (AllBelow 2) (sym key_bits-words)
      (AllBelow-append 2 (bits 64 k.a) (bits 64 k.b ++ (bits 64 k.c ++ bits 64 k.d))
      (AllBelow-bits 64 k.a)
      (AllBelow-append 2 (bits 64 k.b) (bits 64 k.c ++ bits 64 k.d) (AllBelow-bits 64 k.b)
      (AllBelow-append 2 (bits 64 k.c) (bits 64 k.d) (AllBelow-bits 64 k.c) (AllBelow-bits 64 k.d))))

  pub IsKey-key_bits : IsKey (key_bits k)
  IsKey-key_bits = record { size = length-key_bits; bits = AllBelow-key_bits }

  -- ---- each word is the value of its bits

  past_a : drop 64 (key_bits k) ≡ bits 64 k.b ++ (bits 64 k.c ++ bits 64 k.d)
  past_a =
      ap (drop 64) key_bits-words
      ∙ drop_at (bits 64 k.a) (bits 64 k.b ++ (bits 64 k.c ++ bits 64 k.d)) 64 (length-bits 64 k.a)

  past_b : drop 128 (key_bits k) ≡ bits 64 k.c ++ bits 64 k.d
  past_b =
      sym (drop-drop 64 64 (key_bits k)) ∙ ap (drop 64) past_a
      ∙ drop_at (bits 64 k.b) (bits 64 k.c ++ bits 64 k.d) 64 (length-bits 64 k.b)

  past_c : drop 192 (key_bits k) ≡ bits 64 k.d
  past_c =
      sym (drop-drop 64 128 (key_bits k)) ∙ ap (drop 64) past_b
      ∙ drop_at (bits 64 k.c) (bits 64 k.d) 64 (length-bits 64 k.c)

  front : (x : ℕ) (xs ys : List ℕ) → x < 2 ^ 64 → ys ≡ bits 64 x ++ xs → value (take 64 ys) ≡ x
  front x xs ys h e =
      ap (λ (l : List ℕ). value (take 64 l)) e ∙ ap value (take_at (bits 64 x) xs 64 (length-bits 64 x))
      ∙ value_of_bits 64 x h

  pub word_a : k.a < 2 ^ 64 → value (take 64 (key_bits k)) ≡ k.a
  word_a h = front k.a (bits 64 k.b ++ (bits 64 k.c ++ bits 64 k.d)) (key_bits k) h key_bits-words

  pub word_b : k.b < 2 ^ 64 → value (take 64 (drop 64 (key_bits k))) ≡ k.b
  word_b h = front k.b (bits 64 k.c ++ bits 64 k.d) (drop 64 (key_bits k)) h past_a

  pub word_c : k.c < 2 ^ 64 → value (take 64 (drop 128 (key_bits k))) ≡ k.c
  word_c h = front k.c (bits 64 k.d) (drop 128 (key_bits k)) h past_b

  pub word_d : k.d < 2 ^ 64 → value (take 64 (drop 192 (key_bits k))) ≡ k.d
  word_d h =
      ap (λ (l : List ℕ). value (take 64 l)) past_c
      ∙ ap value (take_all 64 (bits 64 k.d) (omega (arith, length-bits 64 k.d))) ∙ value_of_bits 64 k.d h
