-- Laws of bits that are written into bytes (`with_bits`), as the code writes them.
-- In order: the bits afterwards; bits behind bits; a number and a key; the numbers of an Update and a KeepChunk; an edit.
-- Assumes nothing.
use mathlib.Core.List.{List, ◌++◌, append_assoc}
use mathlib.Core.Path.{◌≡◌, refl, sym, ap, ap₂, ◌∙◌}
use Prim.Native.Nat.{ℕ, ◌+◌, ◌*◌, ◌%◌, ◌^◌, ◌≤◌}
use native.Mathlib.Nat.{mod-lt}
use native.Mathlib.Omega.{arith}
use lib.Pow.{pow_pos}
use lib.ListN.{length, take, drop, length-append}
use lib.Seq.{drop-drop, drop-paste, length-paste, paste, take_all, take-paste}
use Rattle.format.specs.Bits.{bits, bits_of, pack, AllBelow}
use Rattle.format.specs.Edit.{edit_bits}
use Rattle.format.specs.Key.{IsKey}
use Rattle.facts.proofs.BitsLaws.{
  AllBelow-append,
  AllBelow-bits,
  AllBelow-bits_of,
  AllBelow-drop,
  AllBelow-take,
  bits_cat,
  bits-mod,
  bits_of-pack,
  fill_exact,
  length-bits,
  length-bits_of,
  length-pack,
}
use Rattle.keys.specs.declared.Key.{Key}
use Rattle.keys.specs.Keys.{key_bits}
use Rattle.keys.proofs.KeysLaws.{IsKey-key_bits, length-key_bits}
use Rattle.parts.specs.Parts.{with_key, with_number}
use Rattle.parts.proofs.BitLaws.{with_key-inside, with_number-inside}
use Rattle.edits.specs.declared.edit.Edit.{Edit}
use Rattle.edits.specs.declared.edit.Edit.TheVariants.{Insert, Update, KeepChunk}
use Rattle.edits.specs.Record.{edit_meant}
use Rattle.edits.proofs.ReadingLaws.{size_insert, size_update, size-keep}
use Rattle.branch_ops.specs.Writer.{with_bits}

-- ---- the bits afterwards

pub length-with_bits : (d : List ℕ) (p : ℕ) (bs : List ℕ) → length (with_bits d p bs) ≡ length d
unfolding with_bits
length-with_bits d p bs = length-pack (length d) (paste (bits_of d) p bs (length bs))

pub AllBelow_paste : (x : List ℕ) (p : ℕ) (y : List ℕ) (n : ℕ) → AllBelow 2 x → AllBelow 2 y
    → AllBelow 2 (paste x p y n)
AllBelow_paste x p y n hx hy =
    AllBelow-append 2 (take p x ++ take n y) (drop (p + n) x)
    (AllBelow-append 2 (take p x) (take n y) (AllBelow-take 2 p x hx) (AllBelow-take 2 n y hy))
    (AllBelow-drop 2 (p + n) x hx)

pub bits_of_packed : (d x : List ℕ) → AllBelow 2 x → length x ≡ 8 * length d → bits_of (pack (length d) x) ≡ x
bits_of_packed d x b e = bits_of-pack (length d) x b ∙ fill_exact x (8 * length d) e

pub bits_of-with_bits : (d : List ℕ) (p : ℕ) (bs : List ℕ) → AllBelow 2 bs → p + length bs ≤ 8 * length d
    → bits_of (with_bits d p bs) ≡ paste (bits_of d) p bs (length bs)
unfolding with_bits
bits_of-with_bits d p bs b h =
    bits_of_packed d (paste (bits_of d) p bs (length bs))
    (AllBelow_paste (bits_of d) p bs (length bs) (AllBelow-bits_of d) b)
    (length-paste (bits_of d) p bs (length bs) (omega (arith, length-bits_of d)) (omega arith) ∙ length-bits_of d)

-- ---- bits behind bits

paste_append : (d : List ℕ) (at : ℕ) (x y : List ℕ) (a b : ℕ) → length x ≡ a → length y ≡ b
    → (at + a) + b ≤ length d
    → paste (paste d at x a) (at + a) y b ≡ paste d at (x ++ y) (a + b)
paste_append d at x y a b ex ey h =
    let t : take (at + a) (paste d at x a) ≡ take at d ++ x =
    take-paste d at x a (omega arith) (omega arith)
    ∙ ap (λ (l : List ℕ). take at d ++ l) (take_all a x (omega arith)) in
    let r : drop ((at + a) + b) (paste d at x a) ≡ drop ((at + a) + b) d =
    sym (drop-drop b (at + a) (paste d at x a)) ∙ ap (drop b) (drop-paste d at x a (omega arith) (omega arith))
    ∙ drop-drop b (at + a) d in
    let e : (at + a) + b ≡ at + (a + b) = omega arith in
    let w : take (a + b) (x ++ y) ≡ x ++ y = take_all (a + b) (x ++ y) (omega (arith, length-append x y)) in
    ap₂ (λ (l m : List ℕ). l ++ take b y ++ m) t r
    ∙ ap (λ (l : List ℕ). (take at d ++ x) ++ l ++ drop ((at + a) + b) d) (take_all b y (omega arith))
    ∙ ap₂ ◌++◌ (append_assoc (take at d) x y ∙ ap (λ (l : List ℕ). take at d ++ l) (sym w)) (ap (λ (k : ℕ). drop k d) e)

pub with_bits_append : (d : List ℕ) (p a : ℕ) (x y : List ℕ) → AllBelow 2 x → length x ≡ a
    → (p + a) + length y ≤ 8 * length d
    → with_bits (with_bits d p x) (p + a) y ≡ with_bits d p (x ++ y)
unfolding with_bits
with_bits_append d p a x y b ex h =
    ap₂ (λ (k : ℕ) (z : List ℕ). pack k (paste z (p + a) y (length y))) (length-with_bits d p x)
    (bits_of-with_bits d p x b (omega arith) ∙ ap (paste (bits_of d) p x) ex)
    ∙ ap (pack (length d)) (paste_append (bits_of d) p x y a (length y) ex refl (omega (arith, length-bits_of d))
    ∙ ap (paste (bits_of d) p (x ++ y)) (sym (length-append x y ∙ ap (λ (k : ℕ). k + length y) ex)))

-- ---- a number and a key

pub number_is : (d : List ℕ) (p n x : ℕ) → n ≤ 64 → p + n ≤ 8 * length d
    → with_number d p n x ≡ with_bits d p (bits n x)
unfolding with_bits
number_is d p n x h q =
    with_number-inside d p n x h q
    ∙ ap (λ (k : ℕ). pack (length d) (paste (bits_of d) p (bits n x) k)) (sym (length-bits n x))

key_is : (d : List ℕ) (p : ℕ) (k : Key) → p + 256 ≤ 8 * length d
    → with_key d p (key_bits k) 0 256 ≡ with_bits d p (key_bits k)
unfolding with_bits
key_is d p k h =
    with_key-inside d p (key_bits k) 0 256 (IsKey-key_bits k) h (omega arith)
    ∙ ap (λ (n : ℕ). pack (length d) (paste (bits_of d) p (key_bits k) n)) (sym (length-key_bits k))

pub put_insert_lem : (d d₁ d₂ d₃ : List ℕ) (p : ℕ) (k : Key) (x : ℕ) → p + 290 ≤ 8 * length d → d₁ ≡ with_number d p 2 0
    → d₂ ≡ with_key d₁ (p + 2) (key_bits k) 0 256
    → d₃ ≡ with_number d₂ (p + 258) 32 x
    → d₃ ≡ with_bits d p (bits 2 0 ++ key_bits k ++ bits 32 x)
put_insert_lem d d₁ d₂ d₃ p k x h e₁ e₂ e₃ =
    let b : List ℕ = bits 2 0 in
    let lb : length b ≡ 2 = length-bits 2 0 in
    let lk : length (key_bits k) ≡ 256 = length-key_bits k in
    let y : IsKey (key_bits k) = IsKey-key_bits k in
    let q₁ : d₁ ≡ with_bits d p b = e₁ ∙ number_is d p 2 0 (omega arith) (omega arith) in
    let l₁ : length d₁ ≡ length d = ap length q₁ ∙ length-with_bits d p b in
    let q₂ : d₂ ≡ with_bits d p (b ++ key_bits k) =
    e₂ ∙ key_is d₁ (p + 2) k (omega arith) ∙ ap (λ (z : List ℕ). with_bits z (p + 2) (key_bits k)) q₁
    ∙ with_bits_append d p 2 b (key_bits k) (AllBelow-bits 2 0) lb (omega arith) in
    let l₂ : length d₂ ≡ length d = ap length q₂ ∙ length-with_bits d p (b ++ key_bits k) in
    e₃ ∙ number_is d₂ (p + 258) 32 x (omega arith) (omega arith)
    ∙ ap (λ (z : List ℕ). with_bits z (p + 258) (bits 32 x)) q₂
    ∙ with_bits_append d p 258 (b ++ key_bits k) (bits 32 x) (AllBelow-append 2 b (key_bits k) (AllBelow-bits 2 0) y.bits)
    (omega (arith, length-append b (key_bits k))) (omega (arith, length-bits 32 x))

-- ---- the numbers of an Update and a KeepChunk

-- a kind of two bits, ten bits of i, and n bits of x
fields : (c i n x : ℕ) → bits (12 + n) ((c * 2 ^ 10 + i % 2 ^ 10) * 2 ^ n + x % 2 ^ n) ≡ bits 2 c ++ bits 10 i ++ bits n x
fields c i n x =
    bits_cat 12 n (c * 2 ^ 10 + i % 2 ^ 10) (x % 2 ^ n) (mod-lt x (pow_pos n))
    ∙ ap₂ ◌++◌ (bits_cat 2 10 c (i % 2 ^ 10) (mod-lt i (pow_pos 10)) ∙ ap (λ (l : List ℕ). bits 2 c ++ l) (bits-mod 10 10 i (omega arith)))
    (bits-mod n n x (omega arith))

pub update_bits : (i x : ℕ) → bits 44 ((1024 + i % 1024) * 4294967296 + x % 4294967296)
    ≡ bits 2 1 ++ bits 10 i ++ bits 32 x
update_bits i x = fields 1 i 32 x

pub keep-bits : (a b : ℕ) → bits 22 ((2048 + a % 1024) * 1024 + b % 1024) ≡ bits 2 2 ++ bits 10 a ++ bits 10 b
keep-bits a b = fields 2 a 10 b

-- ---- an edit

module _ (d d' : List ℕ) (p : ℕ) (c : Edit) (h : p + length (edit_bits (edit_meant c)) ≤ 8 * length d) where
  pub room_insert : (k : Key) (x : ℕ) → c ≡ Insert k x → p + 290 ≤ 8 * length d
  room_insert k x q = omega (arith, size_insert c k x q)

  pub edit_inserted : (k : Key) (x : ℕ) → c ≡ Insert k x
      → d' ≡ with_bits d p (bits 2 0 ++ key_bits k ++ bits 32 x)
      → d' ≡ with_bits d p (edit_bits (edit_meant c))
  unfolding edit_bits
  edit_inserted k x q e = e ∙ ap (λ (z : Edit). with_bits d p (edit_bits (edit_meant z))) (sym q)

  pub edit_updated : (i x r : ℕ) → c ≡ Update i x → bits 44 r ≡ bits 2 1 ++ bits 10 i ++ bits 32 x
      → d' ≡ with_number d p 44 r
      → d' ≡ with_bits d p (edit_bits (edit_meant c))
  unfolding edit_bits
  edit_updated i x r q b e =
      e ∙ number_is d p 44 r (omega arith) (omega (arith, size_update c i x q)) ∙ ap (with_bits d p) b
      ∙ ap (λ (z : Edit). with_bits d p (edit_bits (edit_meant z))) (sym q)

  pub edit_kept : (a b r : ℕ) → c ≡ KeepChunk a b → bits 22 r ≡ bits 2 2 ++ bits 10 a ++ bits 10 b
      → d' ≡ with_number d p 22 r
      → d' ≡ with_bits d p (edit_bits (edit_meant c))
  unfolding edit_bits
  edit_kept a b r q w e =
      e ∙ number_is d p 22 r (omega arith) (omega (arith, size-keep c a b q)) ∙ ap (with_bits d p) w
      ∙ ap (λ (z : Edit). with_bits d p (edit_bits (edit_meant z))) (sym q)
