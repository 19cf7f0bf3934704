-- Laws of words in bytes (`specs/Words.antt`).
-- In order: `word_bytes`; `with_word`; `with_first`; `word_bits`.
-- Not here: the number that bytes spell (`WindowLaws`).
-- Assumes nothing.
use mathlib.Core.Bool.{Bool, true, false, cond}
use mathlib.Core.List.{List, ◌∷◌, ◌++◌, append-nil}
use mathlib.Core.Path.{◌≡◌, refl, sym, ap, ap₂, ◌∙◌}
use Prim.Native.Nat.{ℕ, zero, suc, ◌+◌, ◌*◌, ◌/◌, ◌%◌, ◌^◌, ◌≤◌, ◌<◌, min}
use native.Mathlib.Nat.{pow-suc}
use native.Mathlib.Decide.{dec_le}
use native.Mathlib.Omega.{arith}
use borrow.Author.Tests.{le-leb, lt-leb, leb-true}
use lib.Dec.{leb}
use lib.Pow.{pow-add}
use Rattle.std.proofs.lemmas.List.{take-append-drop}
use Rattle.std.specs.Int.{w64, byte_at, bytes_high_first, from_be_bytes, to_be_bytes}
use Rattle.std.proofs.lemmas.Nat.{be_bytes_8}
use lib.ListN.{length, get_or, take, drop, replicate, length-append, length-drop, get_or-eq_default}
use lib.Seq.{take_all, take_at, drop-append-add, drop-length, length-paste, length-take-le, paste}
use Rattle.format.specs.Bits.{bits, bits_of, fill, pack, value, AllBelow}
use Rattle.facts.proofs.BitsLaws.{
  at_below,
  AllBelow_at,
  AllBelow-bits,
  AllBelow-drop,
  AllBelow-pack,
  AllBelow-take,
  bits_of-append,
  bits_of-pack,
  fill_exact,
  fill-take,
  length-bits,
  length-bits_of,
  length-pack,
  value-bits,
}
use Rattle.words.specs.Words.{word_bytes, with_word, with_first, word_bits}
use Rattle.words.proofs.NumberLaws.{take-bits, drop_bits}
use Rattle.words.proofs.WindowLaws.{drop-bits_of}

-- ---- the bytes of a word

pow_256 : (k : ℕ) → 256 ^ k ≡ 2 ^ (8 * k)
pow_256 zero = refl
pow_256 (suc k) =
    let e : 8 * k + 8 ≡ 8 * suc k = omega arith in
    pow-suc 256 k ∙ ap (λ (n : ℕ). n * 256) (pow_256 k) ∙ sym (pow-add 2 (8 * k) 8) ∙ ap (λ (n : ℕ). 2 ^ n) e

byte_at-is : (k x : ℕ) → byte_at k x ≡ x / 2 ^ (8 * k) % 256
byte_at-is zero x = omega arith
byte_at-is (suc k) x = ap (λ (n : ℕ). x / n % 256) (pow_256 (suc k))

-- the k lowest bytes of a number, highest first, are those that hold its bits
high_first : (k x : ℕ) → bytes_high_first k x ≡ pack k (bits (8 * k) x)
unfolding bits pack
high_first zero x = refl
high_first (suc k) x =
    let e : 8 * suc k ≡ 8 + 8 * k = omega arith in
    let l : List ℕ = bits (8 + 8 * k) x in
    ap₂ ◌∷◌
    (byte_at-is k x ∙ sym (ap value (fill-take 8 l (omega (arith, length-bits (8 + 8 * k) x)) ∙ take-bits 8 (8 * k) x)
    ∙ value-bits 8 (x / 2 ^ (8 * k))))
    (high_first k x ∙ sym (ap (pack k) (drop_bits 8 (8 * k) x)))
    ∙ sym (ap (λ (n : ℕ). pack (suc k) (bits n x)) e)

module _ (x : ℕ) where
  pub length-word_bytes : length (word_bytes x) ≡ 8
  unfolding word_bytes
  length-word_bytes = length-pack 8 (bits 64 x)

  pub bits_of-word_bytes : bits_of (word_bytes x) ≡ bits 64 x
  unfolding word_bytes
  bits_of-word_bytes = bits_of-pack 8 (bits 64 x) (AllBelow-bits 64 x) ∙ fill_exact (bits 64 x) 64 (length-bits 64 x)

  pub AllBelow-word_bytes : AllBelow 256 (word_bytes x)
  unfolding word_bytes
  AllBelow-word_bytes = AllBelow-pack 8 (bits 64 x) (AllBelow-bits 64 x)

  pub word_bytes-is : to_be_bytes w64 x ≡ word_bytes x
  unfolding word_bytes
  word_bytes-is = high_first 8 x

-- the word that eight bytes of a slice spell
module _ (s : List ℕ) (i : ℕ) (bound : (k : ℕ) → get_or s k 0 < 256) where
  bytes_of-eight : (k : ℕ) → get_or (take 8 (drop i s)) k 0 < 256
  bytes_of-eight k = go (dec_le (suc k) (length (take 8 (drop i s))))
    where
      go : Dec (suc k ≤ length (take 8 (drop i s))) → get_or (take 8 (drop i s)) k 0 < 256
      go (yes h) =
          AllBelow_at 256 (take 8 (drop i s)) k
          (AllBelow-take 256 8 (drop i s) (AllBelow-drop 256 i s (at_below 256 s bound))) h
      go (no h) = omega (arith, get_or-eq_default (take 8 (drop i s)) 0 {n = k} (omega arith))

  pub bits_of-eight : (bs : List ℕ) (x : ℕ) → i + 8 ≤ length s → bs ≡ take 8 (drop i s) → x ≡ from_be_bytes w64 bs
      → bits 64 x ≡ fill 64 (drop (8 * i) (bits_of s))
  bits_of-eight bs x h e ex =
      let t : List ℕ = take 8 (drop i s) in
      let r : List ℕ = bits_of (drop 8 (drop i s)) in
      let l : length t ≡ 8 = length-take-le 8 (drop i s) (omega (arith, length-drop i s)) in
      let n : length (bits_of t) ≡ 64 = omega (arith, length-bits_of t) in
      sym (bits_of-word_bytes x)
      ∙ ap bits_of (sym (word_bytes-is x) ∙ be_bytes_8 t x l bytes_of-eight (ex ∙ ap (from_be_bytes w64) e))
      ∙ sym (ap (fill 64) (drop-bits_of i s ∙ ap bits_of (sym (take-append-drop 8 (drop i s))) ∙ bits_of-append t (drop 8 (drop i s)))
      ∙ fill-take 64 (bits_of t ++ r) (omega (arith, n, length-append (bits_of t) r)) ∙ take_at (bits_of t) r 64 n)

-- ---- a word stored

module _ (s : List ℕ) (i x : ℕ) where
  pub paste-word_bytes : i + 8 ≤ length s → paste s i (word_bytes x) 8 ≡ with_word s i x
  unfolding with_word
  paste-word_bytes h = sym (ap (λ (t : Bool). cond t (paste s i (word_bytes x) 8) s) (le-leb (i + 8) (length s) h))

  pub with_word_in : i + 8 ≤ length s → with_word s i x ≡ take i s ++ word_bytes x ++ drop (i + 8) s
  with_word_in h =
      sym (paste-word_bytes h)
      ∙ ap (λ (w : List ℕ). take i s ++ w ++ drop (i + 8) s)
      (take_all 8 (word_bytes x) (omega (arith, length-word_bytes x)))

  pub with_word_out : length s < i + 8 → with_word s i x ≡ s
  unfolding with_word
  with_word_out h = ap (λ (t : Bool). cond t (paste s i (word_bytes x) 8) s) (lt-leb (i + 8) (length s) h)

  pub length-with_word : length (with_word s i x) ≡ length s
  unfolding with_word
  length-with_word = go (leb (i + 8) (length s)) refl
    where
      go : (t : Bool) → leb (i + 8) (length s) ≡ t → length (with_word s i x) ≡ length s
      go true q =
          ap (λ (t : Bool). length (cond t (paste s i (word_bytes x) 8) s)) q
          ∙ length-paste s i (word_bytes x) 8 (leb-true (i + 8) (length s) q) (omega (arith, length-word_bytes x))
      go false q = ap (λ (t : Bool). length (cond t (paste s i (word_bytes x) 8) s)) q

-- behind a part of length i
pub with_word_behind : (p q : List ℕ) (i x : ℕ) → length p ≡ i → 8 ≤ length q
    → with_word (p ++ q) i x ≡ (p ++ word_bytes x) ++ drop 8 q
with_word_behind p q i x e h =
    let l : i + 8 ≤ length (p ++ q) = omega (arith, length-append p q) in
    let f : i + 8 ≡ length p + 8 = omega arith in
    with_word_in (p ++ q) i x l
    ∙ ap₂ (λ (u v : List ℕ). (u ++ word_bytes x) ++ v) (take_at p q i e)
    (ap (λ (k : ℕ). drop k (p ++ q)) f ∙ drop-append-add p q 8)

-- ---- its first bytes stored

-- in all of a slice of at most eight
pub with_first_few : (s : List ℕ) (x : ℕ) → length s ≤ 8 → with_first s x ≡ take (length s) (word_bytes x)
unfolding with_first
with_first_few s x h =
    let e : min (length s) 8 ≡ length s = omega arith in
    let f : 0 + min (length s) 8 ≡ length s = omega arith in
    ap₂ (λ (m n : ℕ). take m (word_bytes x) ++ drop n s) e f
    ∙ ap (λ (l : List ℕ). take (length s) (word_bytes x) ++ l) (drop-length s)
    ∙ append-nil (take (length s) (word_bytes x))

-- ---- a word read

module _ (s : List ℕ) (i : ℕ) where
  pub word_bits_in : i + 8 ≤ length s → word_bits s i ≡ fill 64 (drop (8 * i) (bits_of s))
  unfolding word_bits
  word_bits_in h =
      ap (λ (t : Bool). cond t (fill 64 (drop (8 * i) (bits_of s))) (replicate 64 0)) (le-leb (i + 8) (length s) h)

  pub word_bits_out : length s < i + 8 → word_bits s i ≡ replicate 64 0
  unfolding word_bits
  word_bits_out h =
      ap (λ (t : Bool). cond t (fill 64 (drop (8 * i) (bits_of s))) (replicate 64 0)) (lt-leb (i + 8) (length s) h)
