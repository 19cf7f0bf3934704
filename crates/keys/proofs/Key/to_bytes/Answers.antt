-- `keys::Key::to_bytes` meets its contract: four words stored one behind the other are the bytes of the key's
-- bits.
-- Assumes nothing.
use mathlib.Core.List.{List, [], ◌++◌, append-nil}
use mathlib.Core.Path.{◌≡◌, refl, ap, ap₂, ◌∙◌}
use Prim.Native.Nat.{ℕ, ◌≤◌}
use native.Mathlib.Omega.{arith}
use lib.ListN.{length, drop, length-append, length-drop, drop_of_length-le}
use Rattle.format.specs.Bits.{bits_of, pack, AllBelow}
use Rattle.facts.proofs.BitsLaws.{packed, bits_of-append, AllBelow-append}
use Rattle.keys.specs.declared.Key.{Key}
use Rattle.keys.specs.Keys.{key_bits}
use Rattle.words.specs.Words.{word_bytes, with_word}
use Rattle.words.proofs.WordsLaws.{length-word_bytes, bits_of-word_bytes, AllBelow-word_bytes, with_word_behind}
use Rattle.std.proofs.Common.{rules}
use Rattle.keys.proofs.Key.to_bytes.Goals as goal

module _ (k : Key) where
  a : List ℕ
  a = word_bytes k.a

  ab : List ℕ
  ab = a ++ word_bytes k.b

  abc : List ℕ
  abc = ab ++ word_bytes k.c

  bytes : List ℕ
  bytes = abc ++ word_bytes k.d

  length_a : length a ≡ 8
  unfolding a
  length_a = length-word_bytes k.a

  length_ab : length ab ≡ 16
  unfolding ab
  length_ab = length-append a (word_bytes k.b) ∙ omega (arith, length_a, length-word_bytes k.b)

  length_abc : length abc ≡ 24
  unfolding abc
  length_abc = length-append ab (word_bytes k.c) ∙ omega (arith, length_ab, length-word_bytes k.c)

  length_bytes : length bytes ≡ 32
  unfolding bytes
  length_bytes = length-append abc (word_bytes k.d) ∙ omega (arith, length_abc, length-word_bytes k.d)

  AllBelow_bytes : AllBelow 256 bytes
  unfolding a ab abc bytes
  AllBelow_bytes =
      AllBelow-append 256 abc (word_bytes k.d)
      (AllBelow-append 256 ab (word_bytes k.c)
      (AllBelow-append 256 a (word_bytes k.b) (AllBelow-word_bytes k.a) (AllBelow-word_bytes k.b))
      (AllBelow-word_bytes k.c)) (AllBelow-word_bytes k.d)

  bits_of_bytes : bits_of bytes ≡ key_bits k
  unfolding a ab abc bytes key_bits
  bits_of_bytes =
      bits_of-append abc (word_bytes k.d)
      ∙ ap₂ ◌++◌ (bits_of-append ab (word_bytes k.c)
      ∙ ap₂ ◌++◌ (bits_of-append a (word_bytes k.b) ∙ ap₂ ◌++◌ (bits_of-word_bytes k.a) (bits_of-word_bytes k.b))
      (bits_of-word_bytes k.c)) (bits_of-word_bytes k.d)

  stored : (s t u v w : List ℕ) → length s ≡ 32 → t ≡ with_word s 0 k.a → u ≡ with_word t 8 k.b
      → v ≡ with_word u 16 k.c
      → w ≡ with_word v 24 k.d → w ≡ pack 32 (key_bits k)
  unfolding a ab abc bytes
  stored s t u v w l et eu ev ew =
      let s1 : List ℕ = drop 8 s in
      let s2 : List ℕ = drop 8 s1 in
      let s3 : List ℕ = drop 8 s2 in
      let l1 : length s1 ≡ 24 = length-drop 8 s ∙ omega arith in
      let l2 : length s2 ≡ 16 = length-drop 8 s1 ∙ omega arith in
      let l3 : length s3 ≡ 8 = length-drop 8 s2 ∙ omega arith in
      let l4 : length s3 ≤ 8 = omega arith in
      let q1 : t ≡ a ++ s1 = et ∙ with_word_behind [] s 0 k.a refl (omega arith) in
      let q2 : u ≡ ab ++ s2 =
      eu ∙ ap (λ (x : List ℕ). with_word x 8 k.b) q1 ∙ with_word_behind a s1 8 k.b length_a (omega arith) in
      let q3 : v ≡ abc ++ s3 =
      ev ∙ ap (λ (x : List ℕ). with_word x 16 k.c) q2 ∙ with_word_behind ab s2 16 k.c length_ab (omega arith) in
      let q4 : w ≡ bytes ++ drop 8 s3 =
      ew ∙ ap (λ (x : List ℕ). with_word x 24 k.d) q3 ∙ with_word_behind abc s3 24 k.d length_abc (omega arith) in
      q4 ∙ ap (λ (x : List ℕ). bytes ++ x) (drop_of_length-le s3 l4) ∙ append-nil bytes
      ∙ packed bytes (key_bits k) AllBelow_bytes bits_of_bytes ∙ ap (λ (n : ℕ). pack n (key_bits k)) length_bytes

pub returns : goal.returns
returns c = search (rules, stored)
