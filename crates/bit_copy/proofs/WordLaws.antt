-- Laws of bits copied a word at a time (`Moved` of specs/Runs.antt; words' `with_word`, `with_first`).
-- In order: a word stored; bits moved inside eight bytes, and inside fewer; a whole word moved.
-- Assumes nothing.
use mathlib.Core.Bool.{Bool, cond}
use mathlib.Core.List.{List, [], ◌++◌, append_assoc}
use mathlib.Core.Path.{◌≡◌, sym, ap, ap₂, ◌∙◌}
use Prim.Native.Nat.{ℕ, ◌+◌, ◌-◌, ◌*◌, ◌/◌, ◌≤◌, ◌<◌}
use native.Mathlib.Nat.{zero-add}
use native.Mathlib.Omega.{arith}
use borrow.Author.Tests.{lt-ltb}
use lib.ListN.{length, take, drop, replicate, length-drop, take-append-drop}
use lib.Seq.{drop-drop, length-paste, length-take-le, paste, take_all, take-append-add, take_at, take-take}
use Rattle.format.specs.Bits.{bits, bits_of, fill}
use Rattle.facts.proofs.BitsLaws.{bits_of-append, fill_short, fill-take, length-bits, length-bits_of, take-fill}
use Rattle.words.specs.Words.{word_bytes, with_word, with_first, window_bits, word_bits}
use Rattle.words.proofs.WindowLaws.{drop-bits_of}
use Rattle.words.proofs.WordsLaws.{with_word_in, with_first_few, bits_of-word_bytes, length-word_bytes, word_bits_in}
use Rattle.bit_copy.specs.Runs.{Moved}
use Rattle.bit_copy.proofs.FieldLaws.{bits_of-take, paste_inside}

-- ---- a word stored

module _ (d : List ℕ) (i : ℕ) (h : i + 8 ≤ length d) where
  P : List ℕ
  P = bits_of (take i d)

  Q : List ℕ
  Q = bits_of (drop (i + 8) d)

  stored-bits : (y : ℕ) → bits_of (with_word d i y) ≡ P ++ (bits 64 y ++ Q)
  unfolding P Q
  stored-bits y =
      ap bits_of (with_word_in d i y h ∙ append_assoc (take i d) (word_bytes y) (drop (i + 8) d))
      ∙ bits_of-append (take i d) (word_bytes y ++ drop (i + 8) d)
      ∙ ap (λ (l : List ℕ). P ++ l) (bits_of-append (word_bytes y) (drop (i + 8) d)
      ∙ ap (λ (l : List ℕ). l ++ Q) (bits_of-word_bytes y))

  -- the eight bytes that stood there
  old_bits : (x : ℕ) → bits 64 x ≡ fill 64 (drop (8 * i) (bits_of d)) → bits_of d ≡ P ++ (bits 64 x ++ Q)
  unfolding P Q
  old_bits x ex =
      let B : List ℕ = bits_of d in
      let e : 8 * (i + 8) ≡ 8 * i + 64 = omega arith in
      let l : 64 ≤ length (drop (8 * i) B) = omega (arith, length-drop (8 * i) B, length-bits_of d) in
      let p : P ≡ take (8 * i) B = bits_of-take i d (omega arith) in
      let q : Q ≡ drop 64 (drop (8 * i) B) =
      sym (drop-bits_of (i + 8) d) ∙ ap (λ (k : ℕ). drop k B) e ∙ sym (drop-drop 64 (8 * i) B) in
      sym (ap₂ (λ (u v : List ℕ). u ++ v) p
      (ap₂ ◌++◌ (ex ∙ fill-take 64 (drop (8 * i) B) l) q ∙ take-append-drop 64 (drop (8 * i) B))
      ∙ take-append-drop (8 * i) B)

  -- bits pasted into them are pasted into all
  pub word_pasted : (x y j n : ℕ) (s : List ℕ) → bits 64 x ≡ fill 64 (drop (8 * i) (bits_of d)) → j + n ≤ 64
      → bits 64 y ≡ paste (bits 64 x) j s n
      → bits_of (with_word d i y) ≡ paste (bits_of d) (8 * i + j) s n
  unfolding P
  word_pasted x y j n s ex l ey =
      let f : length P + j ≡ 8 * i + j = omega (arith, length-bits_of (take i d), length-take-le i d (omega arith)) in
      stored-bits y ∙ ap (λ (b : List ℕ). P ++ (b ++ Q)) ey
      ∙ sym (paste_inside P (bits 64 x) Q s j n (omega (arith, length-bits 64 x)))
      ∙ ap₂ (λ (b : List ℕ) (m : ℕ). paste b m s n) (sym (old_bits x ex)) f

-- ---- bits moved inside eight bytes

-- n bits of the word v, from bit j of the word x on: first all of v, then x again
pub joined_paste : (x v w y j n : ℕ) (z : List ℕ) → j + n ≤ 64 → bits 64 v ≡ fill 64 z → n ≤ length z
    → bits 64 w ≡ take 64 (take j (bits 64 x) ++ bits 64 v)
    → bits 64 y ≡ take (j + n) (bits 64 w) ++ drop (j + n) (bits 64 x)
    → bits 64 y ≡ paste (bits 64 x) j z n
joined_paste x v w y j n z l ev lz ew ey =
    let X : List ℕ = bits 64 x in
    let W : List ℕ = bits 64 v in
    let lj : length (take j X) ≡ j = length-take-le j X (omega (arith, length-bits 64 x)) in
    let a : j + n ≡ length (take j X) + n = omega arith in
    let t : take (j + n) (bits 64 w) ≡ take j X ++ take n z =
    ap (take (j + n)) ew ∙ take-take (j + n) 64 (take j X ++ W) l
    ∙ ap (λ (k : ℕ). take k (take j X ++ W)) a ∙ take-append-add (take j X) W n
    ∙ ap (λ (b : List ℕ). take j X ++ b) (ap (take n) ev ∙ take-fill n 64 z (omega arith) ∙ fill-take n z lz) in
    ey ∙ ap (λ (b : List ℕ). b ++ drop (j + n) X) t

pub moved_in_word : (d s : List ℕ) (i j f n x y : ℕ) (d' : List ℕ) → j + n ≤ 64 → i + 8 ≤ length d
    → bits 64 x ≡ word_bits d i
    → bits 64 y ≡ paste (bits 64 x) j (drop f (bits_of s)) n
    → d' ≡ with_word d i y
    → Moved d (8 * i + j) s f n d'
moved_in_word d s i j f n x y d' l h ex ey e =
    record { moved = ap bits_of e ∙ word_pasted d i h x y j n (drop f (bits_of s)) (ex ∙ word_bits_in d i h) l ey }

-- ---- bits moved inside fewer bytes

-- all the bytes as a word with zeros behind them, whose first bytes are stored again
pub moved_in_few : (d s : List ℕ) (j f n x y : ℕ) (d' : List ℕ) → j + n ≤ 8 * length d → length d < 8
    → f + n ≤ 8 * length s
    → bits 64 x ≡ fill 64 (bits_of d)
    → bits 64 y ≡ paste (bits 64 x) j (drop f (bits_of s)) n
    → d' ≡ with_first d y
    → Moved d j s f n d'
moved_in_few d s j f n x y d' l h hs ex ey e =
    let B : List ℕ = bits_of d in
    let z : List ℕ = drop f (bits_of s) in
    let q : List ℕ = replicate (64 - length B) 0 in
    let lz : n ≤ length z = omega (arith, length-drop f (bits_of s), length-bits_of s) in
    let lB : length B ≡ 8 * length d = length-bits_of d in
    let lP : length (paste B j z n) ≡ 8 * length d = length-paste B j z n (omega arith) lz ∙ lB in
    let w : bits 64 y ≡ paste B j z n ++ q =
    ey ∙ ap (λ (b : List ℕ). paste b j z n) (ex ∙ fill_short 64 B (omega arith))
    ∙ ap (λ (k : ℕ). paste (B ++ q) k z n) (sym (zero-add j)) ∙ paste_inside [] B q z j n (omega arith) in
    record {
      moved =
          ap bits_of (e ∙ with_first_few d y (omega arith))
          ∙ bits_of-take (length d) (word_bytes y) (omega (arith, length-word_bytes y))
          ∙ ap (take (8 * length d)) (bits_of-word_bytes y ∙ w)
          ∙ take_at (paste B j z n) q (8 * length d) lP;
    }

-- ---- a word moved

pub word_stored : (d : List ℕ) (i x : ℕ) → i + 8 ≤ length d
    → bits_of (with_word d i x) ≡ paste (bits_of d) (8 * i) (bits 64 x) 64
unfolding P Q
word_stored d i x h =
    let B : List ℕ = bits_of d in
    let a : 8 * (i + 8) ≡ 8 * i + 64 = omega arith in
    stored-bits d i h x
    ∙ ap₂ (λ (p q : List ℕ). p ++ (bits 64 x ++ q)) (bits_of-take i d (omega arith))
    (sym (drop-bits_of (i + 8) d) ∙ ap (λ (n : ℕ). drop n B) a)
    ∙ sym (append_assoc (take (8 * i) B) (bits 64 x) (drop (8 * i + 64) B))
    ∙ ap (λ (l : List ℕ). take (8 * i) B ++ l ++ drop (8 * i + 64) B)
    (sym (take_all 64 (bits 64 x) (omega (arith, length-bits 64 x))))

pub moved_word : (d s : List ℕ) (i f x : ℕ) (d' : List ℕ) → i + 8 ≤ length d → f + 64 < 8 * length s
    → bits 64 x ≡ window_bits s f
    → d' ≡ with_word d i x
    → Moved d (8 * i) s f 64 d'
unfolding window_bits
moved_word d s i f x d' h hs ex e =
    let B : List ℕ = bits_of d in
    let z : List ℕ = drop f (bits_of s) in
    let k : f / 8 + 8 < length s = omega arith in
    let lz : 64 ≤ length z = omega (arith, length-drop f (bits_of s), length-bits_of s) in
    let v : bits 64 x ≡ take 64 z =
    ex ∙ ap (λ (t : Bool). cond t (fill 64 z) (replicate 64 0)) (lt-ltb (f / 8 + 8) (length s) k) ∙ fill-take 64 z lz in
    record {
      moved =
          ap bits_of e ∙ word_stored d i x h
          ∙ ap (λ (l : List ℕ). take (8 * i) B ++ l ++ drop (8 * i + 64) B)
          (take_all 64 (bits 64 x) (omega (arith, length-bits 64 x)) ∙ v);
    }
