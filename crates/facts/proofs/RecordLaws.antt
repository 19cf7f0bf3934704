-- Laws of the edit record: what is written is read back, and what is read is what was written (format's `specs/Edit.antt`).
-- In order: the record's length; its bits; an edit as its kind and its fields; reading what was written; writing what
-- was read.
-- Not here: the entries that edits make (`EditLaws`).
-- Assumes nothing.
use mathlib.Core.Bool.{Bool, cond, false, true, ◌||◌}
use mathlib.Core.List.{◌++◌, List, [], append_assoc, ◌∷◌}
use mathlib.Core.Option.{Option, none-ne-some, some-injective, none, some}
use mathlib.Core.Path.{ap, ap₂, refl, subst, sym, ◌∙◌, ◌≡◌}
use Prim.Native.Nat.{◌*◌, ◌+◌, ◌-◌, ◌<◌, ◌^◌, suc, zero, ℕ, ◌≤◌}
use native.Mathlib.Omega.{arith}
use borrow.Author.Tests.{eqb-false, eqb-true, le-ltb, lt-ltb, ltb-false, ltb-true, ne_eqb}
use lib.Dec.{eqb, ltb}
use lib.ListN.{drop, length, length-append, length-drop, length-replicate, replicate, take, take-append-drop}
use lib.Seq.{drop_at, length-take-le, take_at}
use Rattle.format.specs.Bits.{AllBelow, bits, bits_of, bytes_for, pack, value}
use Rattle.format.specs.Edit.{AllWellFormed, Edit, WellFormed, and_then, edit_bits, edit_of, edits_bits, field_bits, padding, read_edits, read_record, record_of}
use Rattle.format.specs.Edit.Edit.{Insert, Keep, Update}
use Rattle.facts.proofs.AnswerLaws.{and_left, and_right, or_left, or_right}
use Rattle.facts.proofs.BitsLaws.{AllBelow-pack, AllBelow-append, AllBelow-bits, AllBelow-bits_of, AllBelow-drop, AllBelow-take, bits-value, bits_of-pack, bytes_for_exact, bytes_for-holds, bytes_for_slack, fill_short, length-bits, length-bits_of, length-pack, pack-bits_of, pack_zeros, value-lt, value_of_bits, value-zero, value_zeros}

-- ---- the record's length

abbrev pub edit_size : Edit → ℕ
edit_size (Insert k p) = 290
edit_size (Update i p) = 44
edit_size (Keep s e) = 22

unfoldable pub edits_size : List Edit → ℕ
edits_size [] = 0
edits_size (e ∷ es) = edit_size e + edits_size es

pub length_three : (x y z : List ℕ) → length (x ++ y ++ z) ≡ length x + length y + length z
length_three x y z = simp length-append

pub length-edit_bits : (e : Edit) → WellFormed e → length (edit_bits e) ≡ edit_size e
unfolding edit_bits
length-edit_bits (Insert k p) w = omega (arith, length_three (bits 2 0) k (bits 32 p), length-bits 2 0, length-bits 32 p, w.0.size)
length-edit_bits (Update i p) w =
    omega (arith, length_three (bits 2 1) (bits 10 i) (bits 32 p), length-bits 2 1, length-bits 10 i, length-bits 32 p)
length-edit_bits (Keep s e) w =
    omega (arith, length_three (bits 2 2) (bits 10 s) (bits 10 e), length-bits 2 2, length-bits 10 s, length-bits 10 e)

pub length-edits_bits : (es : List Edit) → AllWellFormed es → length (edits_bits es) ≡ edits_size es
unfolding edits_bits edits_size
length-edits_bits [] w = refl
length-edits_bits (e ∷ es) w =
    length-append (edit_bits e) (edits_bits es) ∙ ap₂ ◌+◌ (length-edit_bits e w.0) (length-edits_bits es w.1)

pub edits_bits-append : (es fs : List Edit) → edits_bits (es ++ fs) ≡ edits_bits es ++ edits_bits fs
unfolding edits_bits
edits_bits-append [] fs = refl
edits_bits-append (e ∷ es) fs =
    ap (λ (l : List ℕ). edit_bits e ++ l) (edits_bits-append es fs) ∙ sym (append_assoc (edit_bits e) (edits_bits es) (edits_bits fs))

-- the bits of a record before its padding
abbrev pub headed : List Edit → List ℕ
headed es = bits 10 (length es) ++ edits_bits es

length_headed : (es : List Edit) → length (headed es) ≡ 10 + length (edits_bits es)
length_headed es =
    length-append (bits 10 (length es)) (edits_bits es) ∙ ap (λ (n : ℕ). n + length (edits_bits es)) (length-bits 10 (length es))

pub record_of-pack : (es : List Edit) → record_of es ≡ pack (bytes_for (length (headed es))) (headed es)
unfolding record_of
record_of-pack es = refl

pub length-record_of : (es : List Edit) → AllWellFormed es → length (record_of es) ≡ bytes_for (10 + edits_size es)
length-record_of es w =
    ap length (record_of-pack es) ∙ length-pack (bytes_for (length (headed es))) (headed es)
    ∙ ap bytes_for (length_headed es ∙ ap (λ (n : ℕ). 10 + n) (length-edits_bits es w))

-- ---- every bit is 0 or 1

pub AllBelow-edit_bits : (e : Edit) → WellFormed e → AllBelow 2 (edit_bits e)
unfolding edit_bits
AllBelow-edit_bits (Insert k p) w =
    AllBelow-append 2 (bits 2 0 ++ k) (bits 32 p) (AllBelow-append 2 (bits 2 0) k (AllBelow-bits 2 0) w.0.bits) (AllBelow-bits 32 p)
AllBelow-edit_bits (Update i p) w =
    AllBelow-append 2 (bits 2 1 ++ bits 10 i) (bits 32 p) (AllBelow-append 2 (bits 2 1) (bits 10 i) (AllBelow-bits 2 1) (AllBelow-bits 10 i))
    (AllBelow-bits 32 p)
AllBelow-edit_bits (Keep s e) w =
    AllBelow-append 2 (bits 2 2 ++ bits 10 s) (bits 10 e) (AllBelow-append 2 (bits 2 2) (bits 10 s) (AllBelow-bits 2 2) (AllBelow-bits 10 s))
    (AllBelow-bits 10 e)

AllBelow-edits_bits : (es : List Edit) → AllWellFormed es → AllBelow 2 (edits_bits es)
unfolding edits_bits AllBelow
AllBelow-edits_bits [] w = tt
AllBelow-edits_bits (e ∷ es) w = AllBelow-append 2 (edit_bits e) (edits_bits es) (AllBelow-edit_bits e w.0) (AllBelow-edits_bits es w.1)

AllBelow_headed : (es : List Edit) → AllWellFormed es → AllBelow 2 (headed es)
AllBelow_headed es w = AllBelow-append 2 (bits 10 (length es)) (edits_bits es) (AllBelow-bits 10 (length es)) (AllBelow-edits_bits es w)

pub AllBelow-record_of : (es : List Edit) → AllWellFormed es → AllBelow 256 (record_of es)
AllBelow-record_of es w =
    subst (AllBelow 256) (sym (record_of-pack es)) (AllBelow-pack (bytes_for (length (headed es))) (headed es) (AllBelow_headed es w))

-- ---- an edit as its kind and its fields

abbrev pub kind : Edit → ℕ
kind (Insert k p) = 0
kind (Update i p) = 1
kind (Keep s e) = 2

abbrev pub fields : Edit → List ℕ
fields (Insert k p) = k ++ bits 32 p
fields (Update i p) = bits 10 i ++ bits 32 p
fields (Keep s e) = bits 10 s ++ bits 10 e

pub edit_bits_kind : (e : Edit) → edit_bits e ≡ bits 2 (kind e) ++ fields e
unfolding edit_bits
edit_bits_kind (Insert k p) = append_assoc (bits 2 0) k (bits 32 p)
edit_bits_kind (Update i p) = append_assoc (bits 2 1) (bits 10 i) (bits 32 p)
edit_bits_kind (Keep s e) = append_assoc (bits 2 2) (bits 10 s) (bits 10 e)

pub kind_lt : (e : Edit) → kind e < 3
kind_lt (Insert k p) = omega arith
kind_lt (Update i p) = omega arith
kind_lt (Keep s e) = omega arith

pub length_fields : (e : Edit) → WellFormed e → length (fields e) ≡ field_bits (kind e)
unfolding field_bits
length_fields (Insert k p) w = length-append k (bits 32 p) ∙ omega (arith, w.0.size, length-bits 32 p)
length_fields (Update i p) w = length-append (bits 10 i) (bits 32 p) ∙ omega (arith, length-bits 10 i, length-bits 32 p)
length_fields (Keep s e) w = length-append (bits 10 s) (bits 10 e) ∙ omega (arith, length-bits 10 s, length-bits 10 e)

pub edit_of-fields : (e : Edit) → WellFormed e → edit_of (kind e) (fields e) ≡ e
unfolding edit_of
edit_of-fields (Insert k p) w =
    ap₂ Insert (take_at k (bits 32 p) 256 w.0.size)
    (ap value (drop_at k (bits 32 p) 256 w.0.size) ∙ value_of_bits 32 p w.1)
edit_of-fields (Update i p) w =
    ap₂ Update (ap value (take_at (bits 10 i) (bits 32 p) 10 (length-bits 10 i)) ∙ value_of_bits 10 i w.0)
    (ap value (drop_at (bits 10 i) (bits 32 p) 10 (length-bits 10 i)) ∙ value_of_bits 32 p w.1)
edit_of-fields (Keep s e) w =
    ap₂ Keep (ap value (take_at (bits 10 s) (bits 10 e) 10 (length-bits 10 s)) ∙ value_of_bits 10 s w.0)
    (ap value (drop_at (bits 10 s) (bits 10 e) 10 (length-bits 10 s)) ∙ value_of_bits 10 e w.1)

-- ---- reading what was written

-- reading n edits and one more of bits bs, which begin with kind k, where f follows
abbrev pub step : ℕ → List ℕ → ℕ → List ℕ → Option (List Edit)
step n bs k f =
    cond (ltb (length bs) 2 || eqb k 3 || ltb (length f) (field_bits k)) none (and_then (edit_of k (take (field_bits k) f)) (read_edits n (drop (field_bits k) f)))

pub read_edits-suc : (n : ℕ) (bs : List ℕ) → read_edits (suc n) bs ≡ step n bs (value (take 2 bs)) (drop 2 bs)
unfolding read_edits
read_edits-suc n bs = refl

pub read_edits_more : (n k : ℕ) (f rest : List ℕ) → k < 3 → length f ≡ field_bits k
    → read_edits (suc n) ((bits 2 k ++ f) ++ rest) ≡ and_then (edit_of k f) (read_edits n rest)
read_edits_more n k f rest h e =
    let bs : List ℕ = (bits 2 k ++ f) ++ rest in
    let q : bs ≡ bits 2 k ++ (f ++ rest) = append_assoc (bits 2 k) f rest in
    let v : value (take 2 bs) ≡ k =
    ap (λ (l : List ℕ). value (take 2 l)) q ∙ ap value (take_at (bits 2 k) (f ++ rest) 2 (length-bits 2 k))
    ∙ value_of_bits 2 k (omega arith) in
    let d : drop 2 bs ≡ f ++ rest = ap (drop 2) q ∙ drop_at (bits 2 k) (f ++ rest) 2 (length-bits 2 k) in
    let l : 2 ≤ length bs = omega (arith, ap length q, length-append (bits 2 k) (f ++ rest), length-bits 2 k) in
    let m : field_bits k ≤ length (f ++ rest) = omega (arith, length-append f rest) in
    let t : k ≡ 3 → ⊥ = λ (z : k ≡ 3). omega arith in
    read_edits-suc n bs ∙ ap₂ (step n bs) v d
    ∙ rw (le-ltb (length bs) 2 l, ne_eqb k 3 t, le-ltb (length (f ++ rest)) (field_bits k) m, take_at f rest (field_bits k) e, drop_at f rest (field_bits k) e)

pub read_edits-zero : (bs : List ℕ) → read_edits 0 bs ≡ cond (padding bs) (some []) none
unfolding read_edits
read_edits-zero bs = refl

pub and_then-some : (e : Edit) (es : List Edit) → and_then e (some es) ≡ some (e ∷ es)
unfolding and_then
and_then-some e es = refl

pub read_edits-edits_bits : (es : List Edit) (pad : List ℕ) → AllWellFormed es → padding pad ≡ true
    → read_edits (length es) (edits_bits es ++ pad) ≡ some es
unfolding edits_bits
read_edits-edits_bits [] pad w p = read_edits-zero pad ∙ rw p
read_edits-edits_bits (e ∷ es) pad w p =
    let q : (edit_bits e ++ edits_bits es) ++ pad ≡ (bits 2 (kind e) ++ fields e) ++ (edits_bits es ++ pad) =
    append_assoc (edit_bits e) (edits_bits es) pad ∙ ap (λ (l : List ℕ). l ++ (edits_bits es ++ pad)) (edit_bits_kind e) in
    ap (read_edits (suc (length es))) q
    ∙ read_edits_more (length es) (kind e) (fields e) (edits_bits es ++ pad) (kind_lt e) (length_fields e w.0)
    ∙ ap₂ and_then (edit_of-fields e w.0) (read_edits-edits_bits es pad w.1 p) ∙ and_then-some e es

padding_zeros : (n : ℕ) → n < 8 → padding (replicate n 0) ≡ true
unfolding padding
padding_zeros n h = rw (length-replicate, lt-ltb n 8 h, value_zeros n)

-- reading the count and the edits out of bits
abbrev pub read_bits : List ℕ → Option (List Edit)
read_bits bs = cond (ltb (length bs) 10) none (read_edits (value (take 10 bs)) (drop 10 bs))

pub read_record-bits : (r : List ℕ) → read_record r ≡ read_bits (bits_of r)
unfolding read_record
read_record-bits r = refl

read_bits_headed : (es : List Edit) (pad : List ℕ) → AllWellFormed es → length es ≤ 1023 → padding pad ≡ true
    → read_bits (headed es ++ pad) ≡ some es
read_bits_headed es pad w h p =
    let c : List ℕ = bits 10 (length es) in
    let rest : List ℕ = edits_bits es ++ pad in
    let q : headed es ++ pad ≡ c ++ rest = append_assoc c (edits_bits es) pad in
    let l : 10 ≤ length (c ++ rest) = omega (arith, length-append c rest, length-bits 10 (length es)) in
    let v : value (take 10 (c ++ rest)) ≡ length es =
    ap value (take_at c rest 10 (length-bits 10 (length es))) ∙ value_of_bits 10 (length es) (omega arith) in
    let d : drop 10 (c ++ rest) ≡ rest = drop_at c rest 10 (length-bits 10 (length es)) in
    ap read_bits q ∙ rw (le-ltb (length (c ++ rest)) 10 l) (ap₂ read_edits v d ∙ read_edits-edits_bits es pad w p)

-- the record of edits is read back as those edits
pub read_record-record_of : (es : List Edit) → AllWellFormed es → length es ≤ 1023 → read_record (record_of es) ≡ some es
read_record-record_of es w h =
    let n : ℕ = length (headed es) in
    read_record-bits (record_of es) ∙ ap (λ (r : List ℕ). read_bits (bits_of r)) (record_of-pack es)
    ∙ ap read_bits (bits_of-pack (bytes_for n) (headed es) (AllBelow_headed es w)
    ∙ fill_short (8 * bytes_for n) (headed es) (bytes_for-holds n))
    ∙ read_bits_headed es (replicate (8 * bytes_for n - n) 0) w h (padding_zeros (8 * bytes_for n - n) (bytes_for_slack n))

-- ---- writing what was read

-- two numbers side by side, out of a + b bits
module _ (a b : ℕ) (f : List ℕ) (l : length f ≡ a + b) (h : AllBelow 2 f) where
  length_front : length (take a f) ≡ a
  length_front = length-take-le a f (omega arith)

  length_back : length (drop a f) ≡ b
  length_back = omega (arith, length-drop a f)

  front_lt : value (take a f) < 2 ^ a
  front_lt = subst (λ (w : ℕ). value (take a f) < 2 ^ w) length_front (value-lt (take a f) (AllBelow-take 2 a f h))

  back_lt : value (drop a f) < 2 ^ b
  back_lt = subst (λ (w : ℕ). value (drop a f) < 2 ^ w) length_back (value-lt (drop a f) (AllBelow-drop 2 a f h))

  bits_front : bits a (value (take a f)) ≡ take a f
  bits_front = subst (λ (w : ℕ). bits w (value (take a f)) ≡ take a f) length_front (bits-value (take a f) (AllBelow-take 2 a f h))

  bits_back : bits b (value (drop a f)) ≡ drop a f
  bits_back = subst (λ (w : ℕ). bits w (value (drop a f)) ≡ drop a f) length_back (bits-value (drop a f) (AllBelow-drop 2 a f h))

  bits_both : bits a (value (take a f)) ++ bits b (value (drop a f)) ≡ f
  bits_both = ap₂ ◌++◌ bits_front bits_back ∙ take-append-drop a f

-- bits that are an edit's
pub record Written (e : Edit) (bs : List ℕ) : Type 0 where
  pub formed : WellFormed e
  pub bits : edit_bits e ≡ bs

pub edit_of_written : (k : ℕ) (f : List ℕ) → k < 3 → length f ≡ field_bits k → AllBelow 2 f → Written (edit_of k f) (bits 2 k ++ f)
unfolding edit_of field_bits edit_bits
edit_of_written zero f h l b = record {
  formed = (record { size = length_front 256 32 f l b; bits = AllBelow-take 2 256 f b }, back_lt 256 32 f l b);
  bits =
      append_assoc (bits 2 0) (take 256 f) (bits 32 (value (drop 256 f)))
      ∙ ap (λ (x : List ℕ). bits 2 0 ++ x) (ap (λ (x : List ℕ). take 256 f ++ x) (bits_back 256 32 f l b) ∙ take-append-drop 256 f);
}
edit_of_written (suc zero) f h l b = record {
  formed = (front_lt 10 32 f l b, back_lt 10 32 f l b);
  bits =
      append_assoc (bits 2 1) (bits 10 (value (take 10 f))) (bits 32 (value (drop 10 f)))
      ∙ ap (λ (x : List ℕ). bits 2 1 ++ x) (bits_both 10 32 f l b);
}
edit_of_written (suc (suc zero)) f h l b = record {
  formed = (front_lt 10 10 f l b, back_lt 10 10 f l b);
  bits =
      append_assoc (bits 2 2) (bits 10 (value (take 10 f))) (bits 10 (value (drop 10 f)))
      ∙ ap (λ (x : List ℕ). bits 2 2 ++ x) (bits_both 10 10 f l b);
}
edit_of_written (suc (suc (suc k))) f h l b = absurd (omega arith)

-- bits that are n edits and padding
pub record ReadFrom (bs : List ℕ) (n : ℕ) (es : List Edit) : Type 0 where
  pub counted : length es ≡ n
  pub formed : AllWellFormed es
  pub pad : List ℕ
  pub padded : padding pad ≡ true
  pub written : bs ≡ edits_bits es ++ pad

ReadFrom-nil : (bs : List ℕ) → padding bs ≡ true → ReadFrom bs 0 []
unfolding edits_bits
ReadFrom-nil bs p = record { counted = refl; formed = tt; pad = bs; padded = p; written = refl }

ReadFrom-cons : (n k : ℕ) (bs f rest : List ℕ) (es : List Edit) → bs ≡ (bits 2 k ++ f) ++ rest → k < 3 → length f ≡ field_bits k
    → AllBelow 2 f → ReadFrom rest n es → ReadFrom bs (suc n) (edit_of k f ∷ es)
unfolding edits_bits
ReadFrom-cons n k bs f rest es q h l b r =
    let w : Written (edit_of k f) (bits 2 k ++ f) = edit_of_written k f h l b in
    record {
      counted = ap suc r.counted;
      formed = (w.formed, r.formed);
      pad = r.pad;
      padded = r.padded;
      written = q ∙ ap₂ ◌++◌ (sym w.bits) r.written ∙ sym (append_assoc (edit_bits (edit_of k f)) (edits_bits es) r.pad);
    }

module _ (n : ℕ) (bs : List ℕ) (b : AllBelow 2 bs) (es : List Edit) where
  two_more : 2 ≤ length bs → bits 2 (value (take 2 bs)) ≡ take 2 bs
  two_more h =
      subst (λ (w : ℕ). bits w (value (take 2 bs)) ≡ take 2 bs) (length-take-le 2 bs h)
      (bits-value (take 2 bs) (AllBelow-take 2 2 bs b))

  read_edits-cons : (k w : ℕ) → value (take 2 bs) ≡ k → field_bits k ≡ w → 2 ≤ length bs → (k ≡ 3 → ⊥) → w ≤ length (drop 2 bs)
      → (o : Option (List Edit)) → read_edits n (drop w (drop 2 bs)) ≡ o → and_then (edit_of k (take w (drop 2 bs))) o ≡ some es
      → ((es' : List Edit) → read_edits n (drop w (drop 2 bs)) ≡ some es' → ReadFrom (drop w (drop 2 bs)) n es')
      → ReadFrom bs (suc n) es
  unfolding and_then
  read_edits-cons k w ek ew h t m none q e ih = absurd (none-ne-some es e)
  read_edits-cons k w ek ew h t m (some es') q e ih =
      let f : List ℕ = take w (drop 2 bs) in
      let rest : List ℕ = drop w (drop 2 bs) in
      let small-kind : value (take 2 bs) < 4 =
      subst (λ (l : ℕ). value (take 2 bs) < 2 ^ l) (length-take-le 2 bs h) (value-lt (take 2 bs) (AllBelow-take 2 2 bs b)) in
      let whole : bs ≡ (bits 2 k ++ f) ++ rest =
      sym (take-append-drop 2 bs) ∙ ap₂ ◌++◌ (sym (two_more h) ∙ ap (bits 2) ek) (sym (take-append-drop w (drop 2 bs))) ∙ sym (append_assoc (bits 2 k) f rest) in
      subst (ReadFrom bs (suc n)) (some-injective (edit_of k f ∷ es') es e)
      (ReadFrom-cons n k bs f rest es' whole (omega arith) (length-take-le w (drop 2 bs) m
      ∙ sym ew) (AllBelow-take 2 w (drop 2 bs) (AllBelow-drop 2 2 bs b)) (ih es' q))

  read_edits-step : (k : ℕ) → value (take 2 bs) ≡ k → (t : Bool)
      → (ltb (length bs) 2 || eqb k 3 || ltb (length (drop 2 bs)) (field_bits k)) ≡ t
      → cond t none (and_then (edit_of k (take (field_bits k) (drop 2 bs))) (read_edits n (drop (field_bits k) (drop 2 bs)))) ≡ some es
      → ((es' : List Edit) → read_edits n (drop (field_bits k) (drop 2 bs)) ≡ some es'
      → ReadFrom (drop (field_bits k) (drop 2 bs)) n es') → ReadFrom bs (suc n) es
  read_edits-step k ek true q e ih = absurd (none-ne-some es e)
  read_edits-step k ek false q e ih =
      let short : Bool = ltb (length bs) 2 in
      let three : Bool = eqb k 3 in
      let fields-short : Bool = ltb (length (drop 2 bs)) (field_bits k) in
      let q' : (short || three) ≡ false = or_left (short || three) fields-short q in
      read_edits-cons k (field_bits k) ek refl (ltb-false (length bs) 2 (or_left short three q')) (eqb-false k 3 (or_right short three q'))
      (ltb-false (length (drop 2 bs)) (field_bits k) (or_right (short || three) fields-short q))
      (read_edits n (drop (field_bits k) (drop 2 bs))) refl e ih

read_edits-last : (bs : List ℕ) (es : List Edit) (t : Bool) → padding bs ≡ t → cond t (some []) none ≡ some es → ReadFrom bs 0 es
read_edits-last bs es true p e = subst (ReadFrom bs 0) (some-injective [] es e) (ReadFrom-nil bs p)
read_edits-last bs es false p e = absurd (none-ne-some es e)

-- bits that are read as n edits are those edits' and padding
pub read_edits_written : (n : ℕ) (bs : List ℕ) (es : List Edit) → AllBelow 2 bs → read_edits n bs ≡ some es → ReadFrom bs n es
read_edits_written zero bs es b e = read_edits-last bs es (padding bs) refl (sym (read_edits-zero bs) ∙ e)
read_edits_written (suc n) bs es b e =
    let k : ℕ = value (take 2 bs) in
    let rest : List ℕ = drop (field_bits k) (drop 2 bs) in
    read_edits-step n bs b es k refl (ltb (length bs) 2 || eqb k 3 || ltb (length (drop 2 bs)) (field_bits k)) refl (sym (read_edits-suc n bs) ∙ e)
    (λ (es' : List Edit) (q : read_edits n rest ≡ some es'). read_edits_written n rest es' (AllBelow-drop 2 (field_bits k) (drop 2 bs) (AllBelow-drop 2 2 bs b)) q)

-- padding is fewer than eight zeros
pub padding_short : (bs : List ℕ) → padding bs ≡ true → length bs < 8
unfolding padding
padding_short bs p = ltb-true (length bs) 8 (and_left (ltb (length bs) 8) (eqb (value bs) 0) p)

padding-zero : (bs : List ℕ) → AllBelow 2 bs → padding bs ≡ true → bs ≡ replicate (length bs) 0
unfolding padding
padding-zero bs b p = value-zero bs b (eqb-true (value bs) 0 (and_right (ltb (length bs) 8) (eqb (value bs) 0) p))

-- what an accepted record is
pub record AcceptedRecord (r : List ℕ) (es : List Edit) : Type 0 where
  pub formed : AllWellFormed es
  pub count : length es ≤ 1023
  pub bytes : record_of es ≡ r

record_of-bits : (r : List ℕ) (es : List Edit) (pad : List ℕ) → AllWellFormed es → AllBelow 256 r → bits_of r ≡ headed es ++ pad
    → padding pad ≡ true → record_of es ≡ r
record_of-bits r es pad w b q p =
    let zeros : AllBelow 2 pad =
    subst (AllBelow 2) (ap (drop (length (headed es))) q ∙ drop_at (headed es) pad (length (headed es)) refl)
    (AllBelow-drop 2 (length (headed es)) (bits_of r) (AllBelow-bits_of r)) in
    let l : 8 * length r ≡ length (headed es) + length pad = sym (length-bits_of r) ∙ ap length q ∙ length-append (headed es) pad in
    let k : bytes_for (length (headed es)) ≡ length r =
    bytes_for_exact (length (headed es)) (length pad) (length r) l (padding_short pad p) in
    record_of-pack es ∙ ap (λ (n : ℕ). pack n (headed es)) k ∙ sym (pack_zeros (length r) (length pad) (headed es) (AllBelow_headed es w))
    ∙ ap (λ (l : List ℕ). pack (length r) (headed es ++ l)) (sym (padding-zero pad zeros p)) ∙ ap (pack (length r)) (sym q)
    ∙ pack-bits_of r b

read_bits_accepted : (r : List ℕ) (es : List Edit) → AllBelow 256 r → (t : Bool) → ltb (length (bits_of r)) 10 ≡ t
    → cond t none (read_edits (value (take 10 (bits_of r))) (drop 10 (bits_of r))) ≡ some es → AcceptedRecord r es
read_bits_accepted r es b true q e = absurd (none-ne-some es e)
read_bits_accepted r es b false q e =
    let bs : List ℕ = bits_of r in
    let h : 10 ≤ length bs = ltb-false (length bs) 10 q in
    let n : ℕ = value (take 10 bs) in
    let front : AllBelow 2 (take 10 bs) = AllBelow-take 2 10 bs (AllBelow-bits_of r) in
    let count : n < 1024 = subst (λ (l : ℕ). n < 2 ^ l) (length-take-le 10 bs h) (value-lt (take 10 bs) front) in
    let ten : bits 10 n ≡ take 10 bs =
    subst (λ (l : ℕ). bits l n ≡ take 10 bs) (length-take-le 10 bs h) (bits-value (take 10 bs) front) in
    let found : ReadFrom (drop 10 bs) n es = read_edits_written n (drop 10 bs) es (AllBelow-drop 2 10 bs (AllBelow-bits_of r)) e in
    let whole : bs ≡ headed es ++ found.pad =
    sym (take-append-drop 10 bs) ∙ ap₂ ◌++◌ (sym ten ∙ ap (bits 10) (sym found.counted)) found.written
    ∙ sym (append_assoc (bits 10 (length es)) (edits_bits es) found.pad) in
    record { formed = found.formed; count = omega (arith, found.counted); bytes = record_of-bits r es found.pad found.formed b whole found.padded }

-- an accepted record is the record of its edits, byte for byte, and they are well-formed
pub read_record-accepted : (r : List ℕ) (es : List Edit) → AllBelow 256 r → read_record r ≡ some es → AcceptedRecord r es
read_record-accepted r es b e = read_bits_accepted r es b (ltb (length (bits_of r)) 10) refl (sym (read_record-bits r) ∙ e)
