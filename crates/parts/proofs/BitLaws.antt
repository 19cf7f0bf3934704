-- Laws of bits in a slice.
-- In order: bits of a key copied; a word's first bits; a number's bits; a key's; bits cleared.
-- Assumes nothing.
use mathlib.Core.Bool.{Bool, true, false, cond}
use mathlib.Core.List.{List, [], ◌++◌, append_assoc, append-nil}
use mathlib.Core.Path.{◌≡◌, refl, sym, ap, ap₂, ◌∙◌}
use Prim.Native.Nat.{ℕ, ◌+◌, ◌-◌, ◌*◌, ◌/◌, ◌%◌, ◌^◌, ◌≤◌, ◌<◌}
use native.Mathlib.Omega.{arith}
use Rattle.std.specs.Int.{to_be_bytes, w64}
use mir.Syntax.{w8}
use mir.Val.{Fits}
use lib.ListN.{get_or, length, take, drop, replicate, length-replicate, replicate-append-replicate}
use lib.ListN.{length-append, length-drop}
use borrow.Author.Tests.{le-leb, lt-leb, ne_eqb}
use lib.Seq.{drop-append-add, drop-append-le, drop-drop, paste, paste-zero, take_all, take-append-add, take-append-le, take-paste}
use Rattle.format.specs.Answer.{afterwards, first, unless}
use Rattle.format.specs.Bits.{bits, bits_of, fill, pack, bytes_for}
use Rattle.format.specs.Key.{IsKey}
use Rattle.format.specs.Ranges.{bit_copy, bits_copied, inside}
use Rattle.std.specs.Prelude.{⊤, Result}
use Rattle.format.specs.declared.refusal.Refusal.{Refusal}
use Rattle.facts.proofs.BitsLaws.{bits_of-append, bits_of-pack, bits_of_zeros, fill_exact, length-bits_of}
use Rattle.facts.proofs.BitsLaws.{fill-take, length-bits, length-pack, take-fill, take_zeros}
use Rattle.facts.proofs.BitsLaws.{AllBelow-bits_of, AllBelow-take, at_below, pack-bits_of, pack_zeros, packed}
use Rattle.facts.proofs.RangesLaws.{bits_of-bits_copied}
use Rattle.bit_copy.specs.Calls.{Copied}
use Rattle.bit_copy.proofs.FieldLaws.{bits_of-take}
use Rattle.bit_copy.proofs.RunLaws.{end-inside, paste_add}
use Rattle.bit_copy.proofs.WordLaws.{word_pasted, word_stored, joined_paste}
use Rattle.words.specs.Words.{with_word, word_bytes, word_bits}
use Rattle.words.proofs.NumberLaws.{drop_bits}
use Rattle.words.proofs.WindowLaws.{moved_bits}
use Rattle.words.proofs.WordsLaws.{length-word_bytes, word_bytes-is, length-with_word, bits_of-word_bytes, word_bits_in}
use Rattle.keys.specs.declared.Key.{Key}
use Rattle.keys.specs.Keys.{key_bits}
use Rattle.keys.proofs.KeysLaws.{IsKey-key_bits, key_bits-words}
use Rattle.parts.specs.Parts.{with_key, with_first, with_number, cleared}

-- ---- bits of a key copied

-- between ranges that lie inside
pub copied : (d : List ℕ) (at : ℕ) (s : List ℕ) (from n : ℕ) (r : Result ⊤ Refusal) (d' : List ℕ) → Copied d at s from n r d'
    → at + n ≤ 8 * length d
    → from + n ≤ 8 * length s
    → bits_of d' ≡ paste (bits_of d) at (drop from (bits_of s)) n
unfolding bit_copy unless first afterwards
copied d at s from n r d' c hd hs =
    let p : inside (length d) at n ≡ true = end-inside (length d) at n hd in
    let q : inside (length s) from n ≡ true = end-inside (length s) from n hs in
    ap bits_of (rw (p, q) at c.written) ∙ bits_of-bits_copied d at s from n p q

module _ (k b : List ℕ) (e : b ≡ pack 32 k) where
  pub length-key : length b ≡ 32
  length-key = ap length e ∙ length-pack 32 k

  -- what `put_key` leaves
  pub copied_key : (d : List ℕ) (at from n : ℕ) (r : Result ⊤ Refusal) (d' : List ℕ) → Copied d at b from n r d'
      → d' ≡ with_key d at k from n
  unfolding with_key
  copied_key d at from n r d' c = c.written ∙ ap (λ (x : List ℕ). afterwards (bit_copy d at x from n) (λ y. y) d) e

-- what callers cite: the bits of a key that is there, in bits that are there
pub bits_of-with_key : (d : List ℕ) (at : ℕ) (k : List ℕ) (from n : ℕ) → IsKey k → at + n ≤ 8 * length d → from + n ≤ 256
    → bits_of (with_key d at k from n) ≡ paste (bits_of d) at (drop from k) n
unfolding with_key bit_copy unless first afterwards
bits_of-with_key d at k from n y hd hk =
    let b : List ℕ = pack 32 k in
    let p : inside (length d) at n ≡ true = end-inside (length d) at n hd in
    let q : inside (length b) from n ≡ true = end-inside (length b) from n (omega (arith, length-pack 32 k)) in
    rw (p, q) (bits_of-bits_copied d at b from n p q
    ∙ ap (λ (x : List ℕ). paste (bits_of d) at (drop from x) n)
    (bits_of-pack 32 k y.bits ∙ fill_exact k 256 y.size))

-- the same, of the bytes
pub with_key-inside : (d : List ℕ) (at : ℕ) (k : List ℕ) (from n : ℕ) → IsKey k → at + n ≤ 8 * length d → from + n ≤ 256
    → with_key d at k from n ≡ pack (length d) (paste (bits_of d) at (drop from k) n)
unfolding with_key bit_copy bits_copied unless first afterwards
with_key-inside d at k from n y hd hk =
    let b : List ℕ = pack 32 k in
    let p : inside (length d) at n ≡ true = end-inside (length d) at n hd in
    let q : inside (length b) from n ≡ true = end-inside (length b) from n (omega (arith, length-pack 32 k)) in
    rw (p, q) (ap (λ (x : List ℕ). pack (length d) (paste (bits_of d) at (drop from x) n))
    (bits_of-pack 32 k y.bits ∙ fill_exact k 256 y.size))

-- ---- a word's first bits

-- into eight bytes
pub in_word : (d : List ℕ) (i j n x y w z : ℕ) (d' : List ℕ) → j + n ≤ 64 → i + 8 ≤ length d
    → bits 64 y ≡ word_bits d i
    → bits 64 w ≡ take 64 (take j (bits 64 y) ++ bits 64 x)
    → bits 64 z ≡ take (j + n) (bits 64 w) ++ drop (j + n) (bits 64 y)
    → d' ≡ with_word d i z
    → bits_of d' ≡ paste (bits_of d) (8 * i + j) (bits 64 x) n
in_word d i j n x y w z d' l h ey ew ez e =
    let f : bits 64 x ≡ fill 64 (bits 64 x) = sym (fill_exact (bits 64 x) 64 (length-bits 64 x)) in
    ap bits_of e ∙ word_pasted d i h y z j n (bits 64 x) (ey ∙ word_bits_in d i h) l
    (joined_paste y x w z j n (bits 64 x) l f (omega (arith, length-bits 64 x)) ew ez)

-- into eight, and the rest behind them
pub in_two : (d : List ℕ) (i j n x : ℕ) (d' d'' : List ℕ) → j < 8 → n ≤ 64 → i + 16 ≤ length d → 64 - j < n
    → bits_of d' ≡ paste (bits_of d) (8 * i + j) (bits 64 x) (64 - j)
    → bits_of d'' ≡ paste (bits_of d') (8 * (i + 8) + 0) (bits 64 (x * 2 ^ (64 - j) % 2 ^ 64)) (n - (64 - j))
    → bits_of d'' ≡ paste (bits_of d) (8 * i + j) (bits 64 x) n
in_two d i j n x d' d'' hj hn h p e₁ e₂ =
    let B : List ℕ = bits_of d in
    let X : List ℕ = bits 64 x in
    let g : ℕ = 64 - j in
    let m : ℕ = n - g in
    let at : ℕ = 8 * i + j in
    let a : 8 * (i + 8) + 0 ≡ at + g = omega arith in
    let c : g + m ≡ n = omega arith in
    let lx : length (drop g X) ≡ 64 - g = length-drop g X ∙ ap (λ (k : ℕ). k - g) (length-bits 64 x) in
    let t : take m (bits 64 (x * 2 ^ g % 2 ^ 64)) ≡ take m (drop g X) =
    ap (take m) (moved_bits g x (omega arith)) ∙ take-fill m 64 (drop g X) (omega arith)
    ∙ fill-take m (drop g X) (omega arith) in
    e₂ ∙ ap₂ (λ (l : List ℕ) (k : ℕ). paste l k (bits 64 (x * 2 ^ g % 2 ^ 64)) m) e₁ a
    ∙ ap (λ (l : List ℕ). take (at + g) (paste B at X g) ++ l ++ drop ((at + g) + m) (paste B at X g)) t
    ∙ paste_add B at X g m (omega (arith, length-bits_of d)) (omega (arith, length-bits 64 x))
    ∙ ap (paste B at X) c

-- at a bit
pub at_word : (d : List ℕ) (at n x : ℕ) (d' : List ℕ)
    → bits_of d' ≡ paste (bits_of d) (8 * (at / 8) + at % 8) (bits 64 x) n
    → bits_of d' ≡ paste (bits_of d) at (bits 64 x) n
at_word d at n x d' e =
    let a : 8 * (at / 8) + at % 8 ≡ at = omega arith in
    e ∙ ap (λ (k : ℕ). paste (bits_of d) k (bits 64 x) n) a

-- near the end: by eight bytes of their own
pub by_bytes : (d : List ℕ) (at n x : ℕ) (w : List ℕ) (r : Result ⊤ Refusal) (d' : List ℕ) → n ≤ 64 → at + n ≤ 8 * length d
    → w ≡ to_be_bytes w64 x → Copied d at w 0 n r d'
    → bits_of d' ≡ paste (bits_of d) at (bits 64 x) n
by_bytes d at n x w r d' hn h e c =
    let z : w ≡ word_bytes x = e ∙ word_bytes-is x in
    let l : length w ≡ 8 = ap length z ∙ length-word_bytes x in
    copied d at w 0 n r d' c h (omega arith)
    ∙ ap (λ (b : List ℕ). paste (bits_of d) at b n) (ap bits_of z ∙ bits_of-word_bytes x)

-- a key's words, each over two

-- 64 bits over the end of a word
over_two : (u v : ℕ) (r : List ℕ) (g y : ℕ) → g ≤ 64 → bits 64 y ≡ drop g (bits 64 u) ++ take g (bits 64 v)
    → take 64 (bits 64 y) ≡ take 64 (drop g (bits 64 u ++ (bits 64 v ++ r)))
over_two u v r g y h e =
    let U : List ℕ = bits 64 u in
    let W : List ℕ = bits 64 v in
    let lu : length (drop g U) ≡ 64 - g = length-drop g U ∙ ap (λ (m : ℕ). m - g) (length-bits 64 u) in
    let f : 64 ≡ length (drop g U) + g = omega arith in
    take_all 64 (bits 64 y) (omega (arith, length-bits 64 y)) ∙ e
    ∙ sym (ap (take 64) (drop-append-le g U (W ++ r) (omega (arith, length-bits 64 u)))
    ∙ ap (λ (m : ℕ). take m (drop g U ++ (W ++ r))) f ∙ take-append-add (drop g U) (W ++ r) g
    ∙ ap (λ (l : List ℕ). drop g U ++ l) (take-append-le g W r (omega (arith, length-bits 64 v))))

-- m bits more of s, out of any list that begins with them
paste_more : (b : List ℕ) (at : ℕ) (s t : List ℕ) (n m at' : ℕ) (c c' : List ℕ) → c ≡ paste b at s n
    → c' ≡ paste c at' t m → at' ≡ at + n → take m t ≡ take m (drop n s) → (at + n) + m ≤ length b → n ≤ length s
    → c' ≡ paste b at s (n + m)
paste_more b at s t n m at' c c' e e' ea et hb hs =
    e' ∙ ap₂ (λ (l : List ℕ) (k : ℕ). paste l k t m) e ea
    ∙ ap (λ (l : List ℕ). take (at + n) (paste b at s n) ++ l ++ drop ((at + n) + m) (paste b at s n)) et
    ∙ paste_add b at s n m hb hs

pub whole-key : (d : List ℕ) (i h : ℕ) (k : Key) (y₁ y₂ y₃ y₄ : ℕ) (d₁ d₂ d₃ d₄ d₅ : List ℕ) → h < 8
    → i + 40 ≤ length d
    → bits_of d₁ ≡ paste (bits_of d) (8 * i + h) (bits 64 k.a) (64 - h)
    → bits 64 y₁ ≡ drop (64 - h) (bits 64 k.a) ++ take (64 - h) (bits 64 k.b)
    → d₂ ≡ with_word d₁ (i + 8) y₁
    → bits 64 y₂ ≡ drop (64 - h) (bits 64 k.b) ++ take (64 - h) (bits 64 k.c)
    → d₃ ≡ with_word d₂ (i + 16) y₂
    → bits 64 y₃ ≡ drop (64 - h) (bits 64 k.c) ++ take (64 - h) (bits 64 k.d)
    → d₄ ≡ with_word d₃ (i + 24) y₃
    → bits 64 y₄ ≡ drop (64 - h) (bits 64 k.d) ++ take (64 - h) (bits 64 0)
    → bits_of d₅ ≡ paste (bits_of d₄) (8 * (i + 32) + 0) (bits 64 y₄) h
    → length d₁ ≡ length d
    → bits_of d₅ ≡ paste (bits_of d) (8 * i + h) (key_bits k) 256
whole-key d i h k y₁ y₂ y₃ y₄ d₁ d₂ d₃ d₄ d₅ hh hd e₁ f₁ e₂ f₂ e₃ f₃ e₄ f₄ e₅ l₁ =
    let X : List ℕ = bits_of d in
    let A : List ℕ = bits 64 k.a in
    let B : List ℕ = bits 64 k.b in
    let C : List ℕ = bits 64 k.c in
    let D : List ℕ = bits 64 k.d in
    let S : List ℕ = A ++ (B ++ (C ++ D)) in
    let g : ℕ = 64 - h in
    let at : ℕ = 8 * i + h in
    let la : length A ≡ 64 = length-bits 64 k.a in
    let lb : length B ≡ 64 = length-bits 64 k.b in
    let lc : length C ≡ 64 = length-bits 64 k.c in
    let ld : length D ≡ 64 = length-bits 64 k.d in
    let ls : length S ≡ 256 =
    omega (arith, length-append A (B ++ (C ++ D)), length-append B (C ++ D), length-append C D) in
    let lx : length X ≡ 8 * length d = length-bits_of d in
    let l₂ : length d₂ ≡ length d = ap length e₂ ∙ length-with_word d₁ (i + 8) y₁ ∙ l₁ in
    let l₃ : length d₃ ≡ length d = ap length e₃ ∙ length-with_word d₂ (i + 16) y₂ ∙ l₂ in
    -- what is left of S behind each word
    let s₁ : drop (g + 64) S ≡ drop g (B ++ (C ++ D)) = go g A (B ++ (C ++ D)) la in
    let s₂ : drop ((g + 64) + 64) S ≡ drop g (C ++ D) =
    sym (drop-drop 64 (g + 64) S) ∙ ap (drop 64) s₁ ∙ drop-drop 64 g (B ++ (C ++ D)) ∙ go g B (C ++ D) lb in
    let s₃ : drop (((g + 64) + 64) + 64) S ≡ drop g D =
    sym (drop-drop 64 ((g + 64) + 64) S) ∙ ap (drop 64) s₂ ∙ drop-drop 64 g (C ++ D) ∙ go g C D lc in
    let nil : C ++ D ≡ C ++ (D ++ []) = ap (λ (l : List ℕ). C ++ l) (sym (append-nil D)) in
    let t₁ : take g A ≡ take g S = sym (take-append-le g A (B ++ (C ++ D)) (omega arith)) in
    let p₁ : bits_of d₁ ≡ paste X at S g =
    e₁ ∙ ap (λ (l : List ℕ). take at X ++ l ++ drop (at + g) X) t₁ in
    let p₂ : bits_of d₂ ≡ paste X at S (g + 64) =
    paste_more X at S (bits 64 y₁) g 64 (8 * (i + 8)) (bits_of d₁) (bits_of d₂) p₁
    (ap bits_of e₂ ∙ word_stored d₁ (i + 8) y₁ (omega arith)) (omega arith)
    (over_two k.a k.b (C ++ D) g y₁ (omega arith) f₁) (omega arith) (omega arith) in
    let p₃ : bits_of d₃ ≡ paste X at S ((g + 64) + 64) =
    paste_more X at S (bits 64 y₂) (g + 64) 64 (8 * (i + 16)) (bits_of d₂) (bits_of d₃) p₂
    (ap bits_of e₃ ∙ word_stored d₂ (i + 16) y₂ (omega arith)) (omega arith)
    (over_two k.b k.c D g y₂ (omega arith) f₂ ∙ ap (take 64) (sym s₁)) (omega arith) (omega arith) in
    let p₄ : bits_of d₄ ≡ paste X at S (((g + 64) + 64) + 64) =
    paste_more X at S (bits 64 y₃) ((g + 64) + 64) 64 (8 * (i + 24)) (bits_of d₃) (bits_of d₄) p₃
    (ap bits_of e₄ ∙ word_stored d₃ (i + 24) y₃ (omega arith)) (omega arith)
    (over_two k.c k.d [] g y₃ (omega arith) f₃ ∙ ap (λ (l : List ℕ). take 64 (drop g l)) (sym nil)
    ∙ ap (take 64) (sym s₂)) (omega arith) (omega arith) in
    let lg : length (drop g D) ≡ h = omega (arith, length-drop g D) in
    let t₅ : take h (bits 64 y₄) ≡ take h (drop (((g + 64) + 64) + 64) S) =
    ap (take h) f₄ ∙ take-append-le h (drop g D) (take g (bits 64 0)) (omega arith) ∙ ap (take h) (sym s₃) in
    let n : (((g + 64) + 64) + 64) + h ≡ 256 = omega arith in
    paste_more X at S (bits 64 y₄) (((g + 64) + 64) + 64) h (8 * (i + 32) + 0) (bits_of d₄) (bits_of d₅) p₄ e₅
    (omega arith) t₅ (omega arith) (omega arith)
    ∙ ap₂ (paste X at) (sym (key_bits-words k)) n
  where
    go : (g : ℕ) (a r : List ℕ) → length a ≡ 64 → drop (g + 64) (a ++ r) ≡ drop g r
    go g a r l =
        let e : g + 64 ≡ length a + g = omega arith in
        ap (λ (m : ℕ). drop m (a ++ r)) e ∙ drop-append-add a r g

module _ (d : List ℕ) (at n x : ℕ) where
  -- what `put_first` leaves: of no bits,
  pub first-none : n ≡ 0 → ((i : ℕ) → Fits w8 (get_or d i 0)) → d ≡ with_first d at n x
  unfolding with_first inside
  first-none z b = rw z (sym (ap (pack (length d)) (sym (paste-zero (bits_of d) at (bits 64 x)))
      ∙ pack-bits_of d (at_below 256 d (λ i. omega (arith, b i)))))

  -- of bits that are not there,
  pub first_past : (s : ℕ) → (n ≡ 0 → ⊥) → s ≡ bytes_for (at + n) → length d < s → d ≡ with_first d at n x
  unfolding with_first inside bytes_for
  first_past s z e h =
      let l : 8 * length d < at + n = omega arith in
      rw (ne_eqb n 0 z, lt-leb (at + n) (8 * length d) l)

  -- and of bits that are
  pub first_room : (s : ℕ) → s ≡ bytes_for (at + n) → s ≤ length d → at + n ≤ 8 * length d
  unfolding bytes_for
  first_room s e h = omega arith

  pub first-put : (s : ℕ) (d' : List ℕ) → s ≡ bytes_for (at + n) → s ≤ length d
      → bits_of d' ≡ paste (bits_of d) at (bits 64 x) n
      → length d' ≡ length d → ((i : ℕ) → Fits w8 (get_or d' i 0)) → d' ≡ with_first d at n x
  unfolding with_first
  first-put s d' es h e l b =
      let q : inside (length d) at n ≡ true = end-inside (length d) at n (first_room s es h) in
      rw q (packed d' (paste (bits_of d) at (bits 64 x) n) (at_below 256 d' (λ i. omega (arith, b i))) e
      ∙ ap (λ (m : ℕ). pack m (paste (bits_of d) at (bits 64 x) n)) l)

-- ---- a number's bits

-- moved to the front of a word
low_bits : (x n : ℕ) → n ≤ 64 → 0 < n → take n (bits 64 (x * 2 ^ (64 - n) % 2 ^ 64)) ≡ take n (bits n x)
low_bits x n h p =
    let e : (64 - n) + n ≡ 64 = omega arith in
    let l : length (bits n x) ≡ n = length-bits n x in
    ap (take n) (moved_bits (64 - n) x (omega arith)
    ∙ ap (fill 64) (ap (λ (w : ℕ). drop (64 - n) (bits w x)) (sym e) ∙ drop_bits (64 - n) n x))
    ∙ take-fill n 64 (bits n x) h
    ∙ fill-take n (bits n x) (omega arith)

module _ (d : List ℕ) (at n x : ℕ) where
  -- what callers cite: at most a word, in bits that are there
  pub with_number-inside : n ≤ 64 → at + n ≤ 8 * length d
      → with_number d at n x ≡ pack (length d) (paste (bits_of d) at (bits n x) n)
  unfolding with_number
  with_number-inside h q = rw (le-leb n 64 h, end-inside (length d) at n q)

  -- what `put_number` leaves: of too many bits,
  pub number_many : 64 < n → d ≡ with_number d at n x
  unfolding with_number
  number_many h = rw (lt-leb n 64 h)

  -- of none,
  pub number-none : n ≡ 0 → ((i : ℕ) → Fits w8 (get_or d i 0)) → d ≡ with_number d at n x
  unfolding with_number bits inside
  number-none z b = rw z (sym (ap (pack (length d)) (sym (paste-zero (bits_of d) at []))
      ∙ pack-bits_of d (at_below 256 d (λ i. omega (arith, b i)))))

  -- and of a word at most
  pub number_put : (d' : List ℕ) → n ≤ 64 → (n ≡ 0 → ⊥) → d' ≡ with_first d at n (x * 2 ^ (64 - n) % 2 ^ 64)
      → d' ≡ with_number d at n x
  unfolding with_number with_first
  number_put d' h z e =
      e ∙ rw (le-leb n 64 h) (ap (λ (l : List ℕ). cond (inside (length d) at n)
      (pack (length d) (take at (bits_of d) ++ l ++ drop (at + n) (bits_of d))) d)
      (low_bits x n h (omega arith)))

-- ---- a key's bits

module _ (d : List ℕ) (at : ℕ) (k : Key) (d' : List ℕ) where
  key_bytes_lem : bits_of (pack 32 (key_bits k)) ≡ key_bits k
  key_bytes_lem =
      let y : IsKey (key_bits k) = IsKey-key_bits k in
      bits_of-pack 32 (key_bits k) y.bits ∙ fill_exact (key_bits k) 256 y.size

  -- of its first word
  first_key_lem : (from n : ℕ) → from < 64 → n ≤ 64 - from
      → take n (bits 64 (k.a * 2 ^ from % 2 ^ 64)) ≡ take n (drop from (bits_of (pack 32 (key_bits k))))
  first_key_lem from n h l =
      let A : List ℕ = bits 64 k.a in
      let R : List ℕ = bits 64 k.b ++ (bits 64 k.c ++ bits 64 k.d) in
      let la : length (drop from A) ≡ 64 - from = length-drop from A ∙ ap (λ (m : ℕ). m - from) (length-bits 64 k.a) in
      let s : n ≤ length (drop from A) = omega arith in
      ap (take n) (moved_bits from k.a h) ∙ take-fill n 64 (drop from A) (omega arith) ∙ fill-take n (drop from A) s
      ∙ sym (ap (λ (l : List ℕ). take n (drop from l)) (key_bytes_lem ∙ key_bits-words k)
      ∙ ap (take n) (drop-append-le from A R (omega (arith, length-bits 64 k.a)))
      ∙ take-append-le n (drop from A) R s)

  pub key-first : (from n : ℕ) → from < 64 → n ≤ 64 - from → d' ≡ with_first d at n (k.a * 2 ^ from % 2 ^ 64)
      → d' ≡ with_key d at (key_bits k) from n
  unfolding with_first with_key bit_copy bits_copied unless first afterwards
  key-first from n h l e = e ∙ go (inside (length d) at n) refl
    where
      go : (t : Bool) → inside (length d) at n ≡ t
          → with_first d at n (k.a * 2 ^ from % 2 ^ 64) ≡ with_key d at (key_bits k) from n
      go true q =
          let p : inside (length (pack 32 (key_bits k))) from n ≡ true =
          end-inside (length (pack 32 (key_bits k))) from n (omega (arith, length-pack 32 (key_bits k))) in
          rw (q, p)
          (ap (λ (z : List ℕ). pack (length d) (take at (bits_of d) ++ z ++ drop (at + n) (bits_of d)))
          (first_key_lem from n h l))
      go false q = rw q

  -- all of them
  pub key-whole : (from n r : ℕ) → from ≡ 0 → n ≡ 256 → r ≡ length d / 8 - 5 → at / 64 < r
      → bits_of d' ≡ paste (bits_of d) (8 * (at / 8) + at % 8) (key_bits k) 256
      → length d' ≡ length d → ((i : ℕ) → Fits w8 (get_or d' i 0)) → d' ≡ with_key d at (key_bits k) from n
  key-whole from n r ef en er h e l b =
      let a : 8 * (at / 8) + at % 8 ≡ at = omega arith in
      rw (ef, en) (packed d' (paste (bits_of d) at (key_bits k) 256) (at_below 256 d' (λ i. omega (arith, b i)))
      (e ∙ ap (λ (p : ℕ). paste (bits_of d) p (key_bits k) 256) a)
      ∙ ap (λ (x : ℕ). pack x (paste (bits_of d) at (key_bits k) 256)) l
      ∙ sym (with_key-inside d at (key_bits k) 0 256 (IsKey-key_bits k) (omega arith) (omega arith)))

-- ---- bits cleared

-- bytes up to j, then zeros
bits-cleared : (d : List ℕ) (j n : ℕ) → j ≤ length d
    → bits_of (take j d ++ replicate n 0) ≡ take (8 * j) (bits_of d) ++ replicate (8 * n) 0
bits-cleared d j n h = bits_of-append (take j d) (replicate n 0) ∙ ap₂ ◌++◌ (bits_of-take j d h) (bits_of_zeros n)

-- from a byte's start
clear_whole : (d d₂ : List ℕ) (at : ℕ) → at ≤ 8 * length d → at % 8 ≤ 0
    → d₂ ≡ take (at / 8) d ++ replicate (length d - at / 8) 0
    → bits_of d₂ ≡ take at (bits_of d) ++ replicate (8 * length d - at) 0
clear_whole d d₂ at h z e =
    let a : 8 * (at / 8) ≡ at = omega arith in
    let b : 8 * (length d - at / 8) ≡ 8 * length d - at = omega arith in
    ap bits_of e ∙ bits-cleared d (at / 8) (length d - at / 8) (omega arith)
    ∙ ap₂ (λ (x y : ℕ). take x (bits_of d) ++ replicate y 0) a b

-- from inside a byte: eight zero bits have those that its rest takes
clear_part : (d d₁ d₂ : List ℕ) (at : ℕ) → at ≤ 8 * length d → 0 < at % 8 → length d₁ ≡ length d
    → bits_of d₁ ≡ paste (bits_of d) at (drop 0 (bits_of (replicate 1 0))) (8 - at % 8)
    → d₂ ≡ take (at / 8 + 1) d₁ ++ replicate (length d₁ - (at / 8 + 1)) 0
    → bits_of d₂ ≡ take at (bits_of d) ++ replicate (8 * length d - at) 0
clear_part d d₁ d₂ at h p l e₁ e₂ =
    let j : ℕ = at / 8 + 1 in
    let n : ℕ = 8 - at % 8 in
    let lj : j ≤ length d₁ = omega arith in
    let a : 8 * j ≡ at + n = omega arith in
    let b : n + 8 * (length d₁ - j) ≡ 8 * length d - at = omega arith in
    let z : take n (replicate {A = ℕ} 8 0) ≡ replicate n 0 = take_zeros n 8 (omega arith) in
    let e : bits_of d₁ ≡ paste (bits_of d) at (replicate 8 0) n =
    e₁ ∙ ap (λ (x : List ℕ). paste (bits_of d) at x n) (bits_of_zeros 1) in
    let t : take (at + n) (bits_of d₁) ≡ take at (bits_of d) ++ take n (replicate 8 0) =
    ap (take (at + n)) e
    ∙ take-paste (bits_of d) at (replicate 8 0) n (omega (arith, length-bits_of d))
    (omega (arith, length-replicate {A = ℕ} 8 0)) in
    ap bits_of e₂ ∙ bits-cleared d₁ j (length d₁ - j) lj
    ∙ ap (λ (x : ℕ). take x (bits_of d₁) ++ replicate (8 * (length d₁ - j)) 0) a
    ∙ ap (λ (x : List ℕ). x ++ replicate (8 * (length d₁ - j)) 0) (t ∙ ap (λ (x : List ℕ). take at (bits_of d) ++ x) z)
    ∙ append_assoc (take at (bits_of d)) (replicate n 0) (replicate (8 * (length d₁ - j)) 0)
    ∙ ap (λ (x : List ℕ). take at (bits_of d) ++ x) (replicate-append-replicate n (8 * (length d₁ - j)) 0)
    ∙ ap (λ (x : ℕ). take at (bits_of d) ++ replicate x 0) b

-- bytes are known by their bits, and zeros behind them are no others
all_zeros : (d d₂ : List ℕ) (at : ℕ) → length d₂ ≡ length d → ((i : ℕ) → Fits w8 (get_or d₂ i 0))
    → bits_of d₂ ≡ take at (bits_of d) ++ replicate (8 * length d - at) 0
    → d₂ ≡ cleared d at
unfolding cleared
all_zeros d d₂ at l b e =
    packed d₂ (take at (bits_of d) ++ replicate (8 * length d - at) 0) (at_below 256 d₂ (λ i. omega (arith, b i))) e
    ∙ ap (λ (x : ℕ). pack x (take at (bits_of d) ++ replicate (8 * length d - at) 0)) l
    ∙ pack_zeros (length d) (8 * length d - at) (take at (bits_of d)) (AllBelow-take 2 at (bits_of d) (AllBelow-bits_of d))

-- what `clear_from` leaves: behind the end,
pub cleared_past : (d : List ℕ) (at : ℕ) → length d ≤ at / 8 → ((i : ℕ) → Fits w8 (get_or d i 0)) → d ≡ cleared d at
unfolding cleared
cleared_past d at h b =
    sym (ap (pack (length d)) (take_all at (bits_of d) (omega (arith, length-bits_of d)))
    ∙ pack-bits_of d (at_below 256 d (λ i. omega (arith, b i))))

-- from a byte's start,
pub cleared-whole : (d d₂ : List ℕ) (at : ℕ) → at / 8 < length d → at % 8 ≤ 0
    → d₂ ≡ take (at / 8) d ++ replicate (length d - at / 8) 0
    → length d₂ ≡ length d
    → ((i : ℕ) → Fits w8 (get_or d₂ i 0))
    → d₂ ≡ cleared d at
cleared-whole d d₂ at h z e l b = all_zeros d d₂ at l b (clear_whole d d₂ at (omega arith) z e)

-- and from inside a byte
pub cleared_part : (d d₁ d₂ : List ℕ) (at : ℕ) (r : Result ⊤ Refusal) → at / 8 < length d → 0 < at % 8
    → Copied d at (replicate 1 0) 0 (8 - at % 8) r d₁
    → length d₁ ≡ length d
    → d₂ ≡ take (at / 8 + 1) d₁ ++ replicate (length d₁ - (at / 8 + 1)) 0
    → length d₂ ≡ length d
    → ((i : ℕ) → Fits w8 (get_or d₂ i 0))
    → d₂ ≡ cleared d at
cleared_part d d₁ d₂ at r h p c l₁ e l b =
    all_zeros d d₂ at l b (clear_part d d₁ d₂ at (omega arith) p l₁
    (copied d at (replicate 1 0) 0 (8 - at % 8) r d₁ c (omega arith) (omega (arith, length-replicate {A = ℕ} 1 0))) e)
