-- Laws of a key that has the first bits of another, and other bits behind them.
-- In order: two lists that are cut off, with a third behind them; word by word; keys.
-- Assumes nothing.
use mathlib.Core.List.{List, ◌++◌, append_assoc}
use mathlib.Core.Path.{◌≡◌, sym, ap, ap₂, ◌∙◌}
use Prim.Native.Nat.{ℕ, ◌+◌, ◌-◌, ◌≤◌}
use native.Mathlib.Decide.{dec_le}
use native.Mathlib.Omega.{arith}
use lib.ListN.{length, take, drop, length-append, drop_of_length-le}
use lib.Seq.{take_all, take_at, drop_at, take-append-le, drop-drop, length-take-le}
use Rattle.format.specs.Bits.{bits, bits_of, fill}
use Rattle.facts.proofs.BitsLaws.{length-bits, fill-add, fill-take}
use Rattle.words.proofs.WindowLaws.{drop-append, take-append, drop-take}
use Rattle.keys.specs.declared.Key.{Key}
use Rattle.keys.specs.Keys.{key_bits}
use Rattle.keys.proofs.KeysLaws.{key_bits-words}

-- the first q bits of A and R, with T behind them: their first w bits, and those from w on
module _ (w q : ℕ) (A R T : List ℕ) (e : length A ≡ w) where
  longer : w ≤ q → take q (A ++ R) ++ T ≡ A ++ (take (q - w) R ++ T)
  longer h =
      let l : length A ≤ q = omega arith in
      ap (λ (u : List ℕ). u ++ T)
      (take-append q A R ∙ ap₂ (λ (u : List ℕ) (n : ℕ). u ++ take (q - n) R) (take_all q A l) e)
      ∙ append_assoc A (take (q - w) R) T

  first_part : fill w (take q (A ++ R) ++ T) ≡ fill w (take q A ++ T)
  first_part = go (dec_le q w)
    where
      go : Dec (q ≤ w) → fill w (take q (A ++ R) ++ T) ≡ fill w (take q A ++ T)
      go (yes h) =
          let l : q ≤ length A = omega arith in
          ap (λ (u : List ℕ). fill w (u ++ T)) (take-append-le q A R l)
      go (no h) =
          let l : length A ≤ q = omega arith in
          let n : w ≤ length (A ++ (take (q - w) R ++ T)) = omega (arith, length-append A (take (q - w) R ++ T)) in
          let m : w ≤ length (A ++ T) = omega (arith, length-append A T) in
          ap (fill w) (longer (omega arith)) ∙ fill-take w (A ++ (take (q - w) R ++ T)) n
          ∙ take_at A (take (q - w) R ++ T) w e
          ∙ sym (ap (λ (u : List ℕ). fill w (u ++ T)) (take_all q A l) ∙ fill-take w (A ++ T) m ∙ take_at A T w e)

  rest_part : drop w (take q (A ++ R) ++ T) ≡ take (q - w) R ++ drop (w - q) T
  rest_part = go (dec_le q w)
    where
      go : Dec (q ≤ w) → drop w (take q (A ++ R) ++ T) ≡ take (q - w) R ++ drop (w - q) T
      go (yes h) =
          let l : q ≤ length A = omega arith in
          let t : length (take q A) ≡ q = length-take-le q A l in
          let z : q - w ≡ 0 = omega arith in
          let d : length (take q A) ≤ w = omega arith in
          ap (λ (u : List ℕ). drop w (u ++ T)) (take-append-le q A R l) ∙ drop-append w (take q A) T
          ∙ ap₂ (λ (u : List ℕ) (k : ℕ). u ++ drop (w - k) T) (drop_of_length-le (take q A) d) t
          ∙ sym (ap (λ (k : ℕ). take k R ++ drop (w - q) T) z)
      go (no h) =
          let z : 0 ≡ w - q = omega arith in
          ap (drop w) (longer (omega arith)) ∙ drop_at A (take (q - w) R ++ T) w e
          ∙ ap (λ (k : ℕ). take (q - w) R ++ drop k T) z

  step : (m : ℕ) → fill (w + m) (take q (A ++ R) ++ T) ≡ fill w (take q A ++ T) ++ fill m
      (take (q - w) R ++ drop (w - q) T)
  step m = fill-add w m (take q (A ++ R) ++ T) ∙ ap₂ (λ (u v : List ℕ). u ++ fill m v) first_part rest_part

-- the word from lo on, and the rest
next : (lo m q : ℕ) (A R T : List ℕ) → length A ≡ 64
    → fill (64 + m) (take (q - lo) (A ++ R) ++ drop (lo - q) T)
    ≡ fill 64 (take (q - lo) A ++ drop (lo - q) T) ++ fill m (take (q - (lo + 64)) R ++ drop ((lo + 64) - q) T)
next lo m q A R T e =
    let a : (q - lo) - 64 ≡ q - (lo + 64) = omega arith in
    let b : (lo - q) + (64 - (q - lo)) ≡ (lo + 64) - q = omega arith in
    step 64 (q - lo) A R (drop (lo - q) T) e m
    ∙ ap₂ (λ (n : ℕ) (u : List ℕ). fill 64 (take (q - lo) A ++ drop (lo - q) T) ++ fill m (take n R ++ u)) a
    (drop-drop (64 - (q - lo)) (lo - q) T ∙ ap (λ (n : ℕ). drop n T) b)

four : (q : ℕ) (A B C D T : List ℕ) → length A ≡ 64 → length B ≡ 64 → length C ≡ 64
    → fill 256 (take (q - 0) (A ++ (B ++ (C ++ D))) ++ drop (0 - q) T)
    ≡ fill 64 (take (q - 0) A ++ drop (0 - q) T)
    ++ (fill 64 (take (q - 64) B ++ drop (64 - q) T)
    ++ (fill 64 (take (q - 128) C ++ drop (128 - q) T) ++ fill 64 (take (q - 192) D ++ drop (192 - q) T)))
four q A B C D T la lb lc =
    next 0 192 q A (B ++ (C ++ D)) T la
    ∙ ap (λ (u : List ℕ). fill 64 (take (q - 0) A ++ drop (0 - q) T) ++ u) (next 64 128 q B (C ++ D) T lb
    ∙ ap (λ (u : List ℕ). fill 64 (take (q - 64) B ++ drop (64 - q) T) ++ u) (next 128 64 q C D T lc))

pub key_bits_behind : (s : List ℕ) (k : Key) (q start len a b c d : ℕ)
    → bits 64 a ≡ fill 64 (take (q - 0) (bits 64 k.a) ++ take (len - (0 - q)) (drop (start + (0 - q)) (bits_of s)))
    → bits 64 b ≡ fill 64 (take (q - 64) (bits 64 k.b) ++ take (len - (64 - q)) (drop (start + (64 - q)) (bits_of s)))
    → bits 64 c
    ≡ fill 64 (take (q - 128) (bits 64 k.c) ++ take (len - (128 - q)) (drop (start + (128 - q)) (bits_of s)))
    → bits 64 d
    ≡ fill 64 (take (q - 192) (bits 64 k.d) ++ take (len - (192 - q)) (drop (start + (192 - q)) (bits_of s)))
    → key_bits (record { a = a; b = b; c = c; d = d })
    ≡ fill 256 (take q (key_bits k) ++ take len (drop start (bits_of s)))
key_bits_behind s k q start len a b c d ea eb ec ed =
    let T : List ℕ = take len (drop start (bits_of s)) in
    let f : (x lo : ℕ)
    → fill 64 (take (q - lo) (bits 64 x) ++ take (len - (lo - q)) (drop (start + (lo - q)) (bits_of s)))
    ≡ fill 64 (take (q - lo) (bits 64 x) ++ drop (lo - q) T) =
    λ x lo.
    ap (λ (u : List ℕ). fill 64 (take (q - lo) (bits 64 x) ++ u))
    (sym
    (drop-take (lo - q) len (drop start (bits_of s))
    ∙ ap (take (len - (lo - q))) (drop-drop (lo - q) start (bits_of s)))) in
    let z : 0 - q ≡ 0 = omega arith in
    let y : q - 0 ≡ q = omega arith in
    key_bits-words (record { a = a; b = b; c = c; d = d })
    ∙ ap₂ ◌++◌ (ea ∙ f k.a 0) (ap₂ ◌++◌ (eb ∙ f k.b 64) (ap₂ ◌++◌ (ec ∙ f k.c 128) (ed ∙ f k.d 192)))
    ∙ sym (ap₂ (λ (i : ℕ) (u : List ℕ). fill 256 (take i u ++ T)) (sym y) (key_bits-words k)
    ∙ ap
    (λ (j : ℕ). fill 256
    (take (q - 0) (bits 64 k.a ++ (bits 64 k.b ++ (bits 64 k.c ++ bits 64 k.d))) ++ drop j T))
    (sym z)
    ∙ four q (bits 64 k.a) (bits 64 k.b) (bits 64 k.c) (bits 64 k.d) T (length-bits 64 k.a)
    (length-bits 64 k.b)
    (length-bits 64 k.c))
