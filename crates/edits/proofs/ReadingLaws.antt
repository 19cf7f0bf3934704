-- Laws of reading an edit record edit by edit (`specs/Record.antt`).
-- In order: one edit of bits (`span_at`, `edit_at`); a record that is well-formed, edit by edit (`Forming`); a field of
-- a window, and an edit's fields out of windows (`HeadOf`); how long an edit is; padding; positions inside the base
-- (`inside_head`); the edits that are still ahead (`Ahead`), and whether one of them is outside (`Placing`).
-- Not here: the record's refusals in their order (`CheckLaws`); what records mean (facts' `RecordLaws`).
-- Assumes nothing.
use mathlib.Core.Bool.{Bool, true, false, cond, not, ◌||◌, false≢true}
use mathlib.Core.List.{List, [], ◌∷◌, ◌++◌}
use mathlib.Core.Option.{Option, none, some}
use mathlib.Core.Path.{◌≡◌, refl, sym, ap, ap₂, subst, ◌∙◌}
use Prim.Native.Nat.{ℕ, zero, suc, ◌+◌, ◌-◌, ◌*◌, ◌/◌, ◌%◌, ◌^◌, ◌≤◌, ◌<◌}
use native.Mathlib.Nat.{add-zero, zero-mul, suc-mul, add-mul, mul_assoc, mod-eq_of_lt}
use native.Mathlib.Omega.{arith}
use borrow.Author.Tests.{
  ltb-true,
  ltb-false,
  eqb-true,
  eqb-false,
  lt-ltb,
  le-ltb,
  eq-eqb,
  ne_eqb,
  le-leb,
  lt-leb,
  not-true,
  not-false,
}
use lib.Dec.{eqb, ltb, leb}
use mir.Syntax.{w64}
use mir.Val.{Fits}
use lib.Pow.{pow-add, pow_pos}
use lib.ListN.{length, take, drop, replicate, length-drop, length-append, length-replicate}
use lib.Seq.{drop-drop}
use Rattle.format.specs.Bits.{bits, bits_of, value, fill}
use Rattle.format.specs.Build.{edits_of}
use Rattle.format.specs.Edit.{
  Edit,
  edit_bits,
  field_bits,
  edit_of,
  padding,
  and_then,
  read_edits,
  read_record,
  outside,
  any_outside,
}
use Rattle.format.specs.Edit.Edit.{Insert, Update, Keep}
use Rattle.facts.proofs.BitsLaws.{length-bits, length-bits_of, AllBelow-bits_of, AllBelow-drop, AllBelow-fill, value-bits, value-lt, value_of_bits, value_zeros, length-fill, fill-take, fill-add, fill_short, take-fill}
use Rattle.facts.proofs.RecordLaws.{length_three, padding_short, kind, step, read_edits-suc, read_edits-zero, read_record-bits}
use Rattle.words.proofs.NumberLaws.{drop_bits, take-bits}
use Rattle.words.proofs.WindowLaws.{drop-fill}
use Rattle.keys.specs.declared.Key.{Key}
use Rattle.keys.specs.Keys.{key_bits}
use Rattle.keys.proofs.KeysLaws.{length-key_bits}
use Rattle.edits.specs.declared.edit.Edit.{Edit as CodeEdit}
use Rattle.edits.specs.declared.edit.Edit.TheVariants.{
  Insert as CodeInsert,
  Update as CodeUpdate,
  KeepChunk as CodeKeepChunk,
}
use Rattle.edits.specs.declared.record.Head.{Head}
use Rattle.edits.specs.declared.record.Kind.{Kind}
use Rattle.edits.specs.declared.record.Kind.TheVariants.{Insert as KindInsert, Update as KindUpdate, KeepChunk as KindKeepChunk, Malformed}
use Rattle.edits.specs.Record.{edit_meant, formed_in, count_of, kind_at, edit_at, span_at, HeadOf, inside_head, kind_number}

-- ---- a kind and its number

module _ (k : Kind) where
  pub is_insert : k ≡ KindInsert → kind_number k ≡ 0
  is_insert e = ap kind_number e

  pub is_update : k ≡ KindUpdate → kind_number k ≡ 1
  is_update e = ap kind_number e

  pub is_malformed : k ≡ Malformed → kind_number k ≡ 3
  is_malformed e = ap kind_number e

pub no_insert : (k : Kind) → (k ≡ KindInsert → ⊥) → kind_number k ≡ 0 → ⊥
no_insert KindInsert n e = n refl
no_insert KindUpdate n e = omega arith
no_insert KindKeepChunk n e = omega arith
no_insert Malformed n e = omega arith

pub no_update : (k : Kind) → (k ≡ KindUpdate → ⊥) → kind_number k ≡ 1 → ⊥
no_update KindInsert n e = omega arith
no_update KindUpdate n e = n refl
no_update KindKeepChunk n e = omega arith
no_update Malformed n e = omega arith

pub well_formed : (k : Kind) → (k ≡ Malformed → ⊥) → kind_number k ≡ 3 → ⊥
well_formed KindInsert n e = omega arith
well_formed KindUpdate n e = omega arith
well_formed KindKeepChunk n e = omega arith
well_formed Malformed n e = n refl

pub ruleset kinds = (is_insert, is_update, is_malformed, no_insert, no_update, well_formed)

-- ---- one edit

field_bits_most : (k : ℕ) → field_bits k ≤ 288
unfolding field_bits
field_bits_most k = go (eqb k 0) (eqb k 1) refl refl
  where
    go : (s t : Bool) → eqb k 0 ≡ s → eqb k 1 ≡ t → cond (eqb k 0) 288 (cond (eqb k 1) 42 20) ≤ 288
    go true t e f = rw e (omega arith)
    go false true e f = rw (e, f) (omega arith)
    go false false e f = rw (e, f) (omega arith)

module _ (d : List ℕ) where
  span_short : length d < 2 → span_at d ≡ 0
  unfolding span_at
  span_short h = rw (lt-ltb (length d) 2 h)

  span_three : kind_at d ≡ 3 → 2 ≤ length d → span_at d ≡ 0
  unfolding span_at
  span_three e h = rw (le-ltb (length d) 2 h, eq-eqb (kind_at d) 3 e)

  span_lacks : length d < 2 + field_bits (kind_at d) → (kind_at d ≡ 3 → ⊥) → 2 ≤ length d → span_at d ≡ 0
  unfolding span_at
  span_lacks l e h = rw (le-ltb (length d) 2 h, ne_eqb (kind_at d) 3 e, lt-ltb (length d) (2 + field_bits (kind_at d)) l)

  span-whole : 2 + field_bits (kind_at d) ≤ length d → (kind_at d ≡ 3 → ⊥) → 2 ≤ length d
      → span_at d ≡ 2 + field_bits (kind_at d)
  unfolding span_at
  span-whole l e h = rw (le-ltb (length d) 2 h, ne_eqb (kind_at d) 3 e, le-ltb (length d) (2 + field_bits (kind_at d)) l)

-- reading one more edit of bits d
module _ (n : ℕ) (d : List ℕ) where
  read_kind : 2 ≤ length d → read_edits (suc n) d ≡ step n d (kind_at d) (drop 2 d)
  unfolding kind_at
  read_kind h = read_edits-suc n d ∙ ap (λ (k : ℕ). step n d k (drop 2 d)) (ap value (sym (fill-take 2 d h)))

  read_whole : 2 + field_bits (kind_at d) ≤ length d → (kind_at d ≡ 3 → ⊥) → 2 ≤ length d
      → step n d (kind_at d) (drop 2 d) ≡ and_then (edit_at d) (read_edits n (drop (2 + field_bits (kind_at d)) d))
  unfolding edit_at
  read_whole l e h =
      let w : ℕ = field_bits (kind_at d) in
      let m : w ≤ length (drop 2 d) = omega (arith, length-drop 2 d) in
      rw (le-ltb (length d) 2 h, ne_eqb (kind_at d) 3 e, le-ltb (length (drop 2 d)) (field_bits (kind_at d)) m)
      (ap₂ (λ (f : List ℕ) (o : Option (List Edit)). and_then (edit_of (kind_at d) f) o) (sym (fill-take w (drop 2 d) m))
      (ap (read_edits n) (drop-drop w 2 d)))

  read-span : read_edits (suc n) d ≡ cond (eqb (span_at d) 0) none (and_then (edit_at d) (read_edits n (drop (span_at d) d)))
  read-span = go (ltb (length d) 2) (eqb (kind_at d) 3) (ltb (length d) (2 + field_bits (kind_at d))) refl refl refl
    where
      go : (s t u : Bool) → ltb (length d) 2 ≡ s → eqb (kind_at d) 3 ≡ t → ltb (length d) (2 + field_bits (kind_at d)) ≡ u
          → read_edits (suc n) d ≡ cond (eqb (span_at d) 0) none (and_then (edit_at d) (read_edits n (drop (span_at d) d)))
      go true t u es et eu = rw (span_short d (ltb-true (length d) 2 es)) (read_edits-suc n d ∙ rw es)
      go false true u es et eu =
          let h : 2 ≤ length d = ltb-false (length d) 2 es in
          rw (span_three d (eqb-true (kind_at d) 3 et) h) (read_kind h ∙ rw (es, et))
      go false false true es et eu =
          let h : 2 ≤ length d = ltb-false (length d) 2 es in
          let l : length d < 2 + field_bits (kind_at d) = ltb-true (length d) (2 + field_bits (kind_at d)) eu in
          let m : length (drop 2 d) < field_bits (kind_at d) = omega (arith, length-drop 2 d) in
          rw (span_lacks d l (eqb-false (kind_at d) 3 et) h)
          (read_kind h ∙ rw (es, et, lt-ltb (length (drop 2 d)) (field_bits (kind_at d)) m))
      go false false false es et eu =
          let h : 2 ≤ length d = ltb-false (length d) 2 es in
          let l : 2 + field_bits (kind_at d) ≤ length d = ltb-false (length d) (2 + field_bits (kind_at d)) eu in
          let k : kind_at d ≡ 3 → ⊥ = eqb-false (kind_at d) 3 et in
          let z : 2 + field_bits (kind_at d) ≡ 0 → ⊥ = λ q. omega arith in
          rw (span-whole d l k h, ne_eqb (2 + field_bits (kind_at d)) 0 z) (read_kind h ∙ read_whole l k h)

-- ---- whether a record is well-formed

formed_in-none : formed_in none ≡ false
unfolding formed_in
formed_in-none = refl

formed_in-and_then : (e : Edit) (o : Option (List Edit)) → formed_in (and_then e o) ≡ formed_in o
unfolding formed_in and_then
formed_in-and_then e none = refl
formed_in-and_then e (some es) = refl

span_none : (n : ℕ) (d : List ℕ) → span_at d ≡ 0 → formed_in (read_edits (suc n) d) ≡ false
span_none n d e = ap formed_in (read-span n d) ∙ rw e formed_in-none

span-some : (n : ℕ) (d : List ℕ) → (span_at d ≡ 0 → ⊥)
    → formed_in (read_edits (suc n) d) ≡ formed_in (read_edits n (drop (span_at d) d))
span-some n d e = ap formed_in (read-span n d) ∙ rw (ne_eqb (span_at d) 0 e) (formed_in-and_then (edit_at d) _)

span_at_most : (d : List ℕ) → span_at d ≤ 290
unfolding span_at
span_at_most d = go (ltb (length d) 2 || eqb (kind_at d) 3 || ltb (length d) (2 + field_bits (kind_at d))) refl
  where
    go : (t : Bool) → (ltb (length d) 2 || eqb (kind_at d) 3 || ltb (length d) (2 + field_bits (kind_at d))) ≡ t
        → cond (ltb (length d) 2 || eqb (kind_at d) 3 || ltb (length d) (2 + field_bits (kind_at d))) 0
        (2 + field_bits (kind_at d)) ≤ 290
    go true e = rw e (omega arith)
    go false e = rw e (omega (arith, field_bits_most (kind_at d)))

formed_in-zero : (d : List ℕ) → formed_in (read_edits 0 d) ≡ padding d
unfolding formed_in
formed_in-zero d = ap formed_in (read_edits-zero d) ∙ go (padding d)
  where
    go : (t : Bool) → formed_in (cond t (some []) none) ≡ t
    go true = refl
    go false = refl

-- n edits and padding have no more bits than this
read_edits-length : (n : ℕ) (d : List ℕ) → formed_in (read_edits n d) ≡ true → length d < 290 * n + 8
read_edits-length zero d e = omega (arith, padding_short d (sym (formed_in-zero d) ∙ e))
read_edits-length (suc n) d e = go (eqb (span_at d) 0) refl (read_edits-length n (drop (span_at d) d))
  where
    go : (t : Bool) → eqb (span_at d) 0 ≡ t
        → (formed_in (read_edits n (drop (span_at d) d)) ≡ true → length (drop (span_at d) d) < 290 * n + 8)
        → length d < 290 * suc n + 8
    go true q ih = absurd (false≢true (sym (span_none n d (eqb-true (span_at d) 0 q)) ∙ e))
    go false q ih =
        let z : span_at d ≡ 0 → ⊥ = eqb-false (span_at d) 0 q in
        omega (arith, ih (sym (span-some n d z) ∙ e), length-drop (span_at d) d, span_at_most d)

count_of-lt : (r : List ℕ) → count_of r < 1024
unfolding count_of
count_of-lt r =
    subst (λ (w : ℕ). value (fill 10 (bits_of r)) < 2 ^ w) (length-fill 10 (bits_of r))
    (value-lt (fill 10 (bits_of r)) (AllBelow-fill 2 10 (bits_of r) (omega arith) (AllBelow-bits_of r)))

pub record_short : (r : List ℕ) → length r < 2 → false ≡ formed_in (read_record r)
record_short r h =
    let l : length (bits_of r) < 10 = omega (arith, length-bits_of r) in
    sym (ap formed_in (read_record-bits r) ∙ rw (lt-ltb (length (bits_of r)) 10 l) formed_in-none)

record_edits : (r : List ℕ) → 2 ≤ length r → read_record r ≡ read_edits (count_of r) (drop 10 (bits_of r))
unfolding count_of
record_edits r h =
    let l : 10 ≤ length (bits_of r) = omega (arith, length-bits_of r) in
    read_record-bits r
    ∙ rw (le-ltb (length (bits_of r)) 10 l)
    (ap (λ (k : List ℕ). read_edits (value k) (drop 10 (bits_of r))) (sym (fill-take 10 (bits_of r) l)))

pub record_long : (r : List ℕ) → 37085 < length r → false ≡ formed_in (read_record r)
record_long r h = go (formed_in (read_record r)) refl
  where
    go : (t : Bool) → formed_in (read_record r) ≡ t → false ≡ formed_in (read_record r)
    go false e = sym e
    go true e =
        let l : 2 ≤ length r = omega arith in
        let f : formed_in (read_edits (count_of r) (drop 10 (bits_of r))) ≡ true =
        ap formed_in (sym (record_edits r l)) ∙ e in
        absurd (omega (
          arith,
          read_edits-length (count_of r) (drop 10 (bits_of r)) f,
          length-drop 10 (bits_of r),
          length-bits_of r,
          count_of-lt r,
        ))

-- i of n edits are read, and the rest decides
pub Forming : List ℕ → ℕ → ℕ → ℕ → Type 0
Forming r n i p = formed_in (read_record r) ≡ formed_in (read_edits (n - i) (drop p (bits_of r)))

pub forming_start : (r : List ℕ) (n : ℕ) → 2 ≤ length r → n ≡ count_of r → Forming r n 0 10
unfolding Forming
forming_start r n h e =
    let q : count_of r ≡ n - 0 = omega arith in
    ap formed_in (record_edits r h) ∙ ap (λ (k : ℕ). formed_in (read_edits k (drop 10 (bits_of r)))) q

module _ (r : List ℕ) (n i p : ℕ) (f : Forming r n i p) (h : i < n) where
  one_more : n - i ≡ suc (n - (i + 1))
  one_more = omega arith

  pub forming_bad : (0 < span_at (drop p (bits_of r)) → ⊥) → false ≡ formed_in (read_record r)
  unfolding Forming
  forming_bad z =
      sym (f ∙ ap (λ (k : ℕ). formed_in (read_edits k (drop p (bits_of r)))) one_more
      ∙ span_none (n - (i + 1)) (drop p (bits_of r)) (omega (arith, z)))

  pub forming_next : (w : ℕ) → (0 < span_at (drop p (bits_of r))) × (w ≡ span_at (drop p (bits_of r)))
      → Forming r n (i + 1) (p + w)
  unfolding Forming
  forming_next w z =
      let e : w ≡ span_at (drop p (bits_of r)) = z.1 in
      let s : span_at (drop p (bits_of r)) ≡ 0 → ⊥ = λ q. omega (arith, z.0) in
      f ∙ ap (λ (k : ℕ). formed_in (read_edits k (drop p (bits_of r)))) one_more
      ∙ span-some (n - (i + 1)) (drop p (bits_of r)) s
      ∙ ap (λ (k : ℕ). formed_in (read_edits (n - (i + 1)) (drop k (drop p (bits_of r))))) (sym e)
      ∙ ap (λ (l : List ℕ). formed_in (read_edits (n - (i + 1)) l)) (drop-drop w p (bits_of r))

pub forming_end : (r : List ℕ) (n i p : ℕ) (b : Bool) → Forming r n i p → n ≤ i → b ≡ padding (drop p (bits_of r))
    → b ≡ formed_in (read_record r)
unfolding Forming
forming_end r n i p b f h e =
    let z : n - i ≡ 0 = omega arith in
    e ∙ sym (f ∙ ap (λ (k : ℕ). formed_in (read_edits k (drop p (bits_of r)))) z ∙ formed_in-zero (drop p (bits_of r)))

-- ---- a field of a window

-- the w bits behind the first j
field : (x w j : ℕ) (d : List ℕ) → bits 64 x ≡ fill 64 d → j + w ≤ 64
    → value (fill w (drop j d)) ≡ x / 2 ^ (64 - (j + w)) % 2 ^ w
field x w j d e h =
    let k : ℕ = 64 - (j + w) in
    let f : (j + w) + (64 - (j + w)) ≡ 64 = omega arith in
    let front : fill (j + w) d ≡ bits (j + w) (x / 2 ^ (64 - (j + w))) =
    sym (take-fill (j + w) 64 d h) ∙ ap (take (j + w)) (sym e) ∙ ap (λ (n : ℕ). take (j + w) (bits n x)) (sym f)
    ∙ take-bits (j + w) (64 - (j + w)) x in
    ap value (sym (drop-fill j w d) ∙ ap (drop j) front ∙ drop_bits j w (x / 2 ^ (64 - (j + w))))
    ∙ value-bits w (x / 2 ^ (64 - (j + w)))

-- ---- the fields of one edit

module _ (d : List ℕ) where
  edit_at_insert : kind_at d ≡ 0 → edit_at d ≡ Insert (fill 256 (drop 2 d)) (value (fill 32 (drop 258 d)))
  unfolding edit_at edit_of field_bits
  edit_at_insert e =
      rw e (ap₂ Insert (take-fill 256 288 (drop 2 d) (omega arith))
      (ap value (drop-fill 256 32 (drop 2 d) ∙ ap (fill 32) (drop-drop 256 2 d))))

  edit_at_update : kind_at d ≡ 1 → edit_at d ≡ Update (value (fill 10 (drop 2 d))) (value (fill 32 (drop 12 d)))
  unfolding edit_at edit_of field_bits
  edit_at_update e =
      rw e (ap₂ Update (ap value (take-fill 10 42 (drop 2 d) (omega arith)))
      (ap value (drop-fill 10 32 (drop 2 d) ∙ ap (fill 32) (drop-drop 10 2 d))))

  edit_at-keep : (kind_at d ≡ 0 → ⊥) → (kind_at d ≡ 1 → ⊥)
      → edit_at d ≡ Keep (value (fill 10 (drop 2 d))) (value (fill 10 (drop 12 d)))
  unfolding edit_at edit_of field_bits
  edit_at-keep e f =
      rw (ne_eqb (kind_at d) 0 e, ne_eqb (kind_at d) 1 f)
      (ap₂ Keep (ap value (take-fill 10 20 (drop 2 d) (omega arith)))
      (ap value (drop-fill 10 10 (drop 2 d) ∙ ap (fill 10) (drop-drop 10 2 d))))

module _ (s : List ℕ) (p : ℕ) where
  at_zero : (x : ℕ) → bits 64 x ≡ fill 64 (drop (p + 0) (bits_of s)) → bits 64 x ≡ fill 64 (drop p (bits_of s))
  at_zero x e = e ∙ ap (λ (k : ℕ). fill 64 (drop k (bits_of s))) (add-zero p)

  pub head_is : (x : ℕ) → bits 64 x ≡ fill 64 (drop (p + 0) (bits_of s)) → Fits w64 x
      → (k : Kind) → kind_number k ≡ x / 2 ^ 62
      → HeadOf (drop p (bits_of s)) (record {
        kind = k;
        place = x / 2 ^ 52 % 1024;
        end = x / 2 ^ 42 % 1024;
        pointer = x / 2 ^ 20 % 2 ^ 32;
      })
  unfolding kind_at
  head_is x e h k ek =
      let d : List ℕ = drop p (bits_of s) in
      let q : bits 64 x ≡ fill 64 d = at_zero x e in
      record {
        kind = omega (arith, ek, field x 2 0 d q (omega arith), h.fits);
        place = sym (field x 10 2 d q (omega arith));
        end = sym (field x 10 12 d q (omega arith));
        pointer = sym (field x 32 12 d q (omega arith));
      }

  pub inserted : (h : Head) (k : Key) (x : ℕ) → HeadOf (drop p (bits_of s)) h → kind_number h.kind ≡ 0
      → key_bits k ≡ fill 256 (drop (p + 2) (bits_of s)) → bits 64 x ≡ fill 64 (drop (p + 258) (bits_of s)) → Fits w64 x
      → Insert (key_bits k) (x / 2 ^ 32) ≡ edit_at (drop p (bits_of s))
  inserted h k x o z ek ex f =
      let d : List ℕ = drop p (bits_of s) in
      let v : value (fill 32 (drop (p + 258) (bits_of s))) ≡ x / 2 ^ 32 % 2 ^ 32 =
      field x 32 0 (drop (p + 258) (bits_of s)) ex (omega arith) in
      sym (edit_at_insert d (sym o.kind ∙ z)
      ∙ ap₂ Insert (ap (fill 256) (drop-drop 2 p (bits_of s)) ∙ sym ek)
      (ap (λ (l : List ℕ). value (fill 32 l)) (drop-drop 258 p (bits_of s)) ∙ v ∙ mod-eq_of_lt (omega (arith, f.fits))))

  pub updated : (h : Head) → HeadOf (drop p (bits_of s)) h → kind_number h.kind ≡ 1
      → Update h.place h.pointer ≡ edit_at (drop p (bits_of s))
  updated h o z =
      sym (edit_at_update (drop p (bits_of s)) (sym o.kind ∙ z) ∙ ap₂ Update (sym o.place) (sym o.pointer))

  pub kept : (h : Head) → HeadOf (drop p (bits_of s)) h → (kind_number h.kind ≡ 0 → ⊥) → (kind_number h.kind ≡ 1 → ⊥)
      → Keep h.place h.end ≡ edit_at (drop p (bits_of s))
  kept h o z y =
      sym (edit_at-keep (drop p (bits_of s)) (λ e. z (o.kind ∙ e)) (λ e. y (o.kind ∙ e))
      ∙ ap₂ Keep (sym o.place) (sym o.end))

  tenth : (j : ℕ) → value (fill 10 (drop j (drop p (bits_of s)))) < 1024
  tenth j =
      let d : List ℕ = drop j (drop p (bits_of s)) in
      subst (λ (w : ℕ). value (fill 10 d) < 2 ^ w) (length-fill 10 d)
      (value-lt (fill 10 d)
      (AllBelow-fill 2 10 d (omega arith)
      (AllBelow-drop 2 j (drop p (bits_of s)) (AllBelow-drop 2 p (bits_of s) (AllBelow-bits_of s)))))

  pub place_lt : (h : Head) → HeadOf (drop p (bits_of s)) h → h.place < 1024
  place_lt h o = omega (arith, o.place, tenth 2)

  pub end_lt : (h : Head) → HeadOf (drop p (bits_of s)) h → h.end < 1024
  end_lt h o = omega (arith, o.end, tenth 12)

  -- the key's words
  pub key-words : (a b c d : ℕ) → bits 64 a ≡ fill 64 (drop (p + 2) (bits_of s))
      → bits 64 b ≡ fill 64 (drop (p + 66) (bits_of s))
      → bits 64 c ≡ fill 64 (drop (p + 130) (bits_of s)) → bits 64 d ≡ fill 64 (drop (p + 194) (bits_of s))
      → key_bits (record { a = a; b = b; c = c; d = d }) ≡ fill 256 (drop (p + 2) (bits_of s))
  unfolding key_bits
  key-words a b c d ea eb ec ed =
      let x : List ℕ = drop (p + 2) (bits_of s) in
      ap₂ ◌++◌ (ap₂ ◌++◌ (ap₂ ◌++◌ ea (behind 66 64 b (omega arith) eb) ∙ sym (fill-add 64 64 x))
      (behind 130 128 c (omega arith) ec) ∙ sym (fill-add 128 64 x)) (behind 194 192 d (omega arith) ed)
      ∙ sym (fill-add 192 64 x)
    where
      behind : (j k y : ℕ) → p + j ≡ (p + 2) + k → bits 64 y ≡ fill 64 (drop (p + j) (bits_of s))
          → bits 64 y ≡ fill 64 (drop k (drop (p + 2) (bits_of s)))
      behind j k y e q =
          q ∙ ap (fill 64) (ap (λ (m : ℕ). drop m (bits_of s)) e ∙ sym (drop-drop k (p + 2) (bits_of s)))

pub count_is : (s : List ℕ) (x : ℕ) → bits 64 x ≡ fill 64 (drop 0 (bits_of s)) → Fits w64 x → x / 2 ^ 54 ≡ count_of s
unfolding count_of
count_is s x e h = omega (arith, field x 10 0 (bits_of s) e (omega arith), h.fits)

pub count-lt : (x : ℕ) → Fits w64 x → x / 2 ^ 54 < 1024
count-lt x h = omega (arith, h.fits)

-- ---- how long an edit is

module _ (k : ℕ) where
  pub field_insert : k ≡ 0 → 288 ≡ field_bits k
  unfolding field_bits
  field_insert e = rw e

  pub field_update : k ≡ 1 → 42 ≡ field_bits k
  unfolding field_bits
  field_update e = rw e

  pub field-keep : (k ≡ 0 → ⊥) → (k ≡ 1 → ⊥) → 20 ≡ field_bits k
  unfolding field_bits
  field-keep e f = rw (ne_eqb k 0 e, ne_eqb k 1 f)

-- the kind of the edit that is read
pub field-size : (d : List ℕ) → field_bits (kind (edit_at d)) ≡ field_bits (kind_at d)
field-size d = go (eqb (kind_at d) 0) (eqb (kind_at d) 1) refl refl
  where
    go : (s t : Bool) → eqb (kind_at d) 0 ≡ s → eqb (kind_at d) 1 ≡ t → field_bits (kind (edit_at d)) ≡ field_bits (kind_at d)
    go true t q r =
        let z : kind_at d ≡ 0 = eqb-true (kind_at d) 0 q in
        ap (λ (e : Edit). field_bits (kind e)) (edit_at_insert d z) ∙ sym (ap field_bits z)
    go false true q r =
        let z : kind_at d ≡ 1 = eqb-true (kind_at d) 1 r in
        ap (λ (e : Edit). field_bits (kind e)) (edit_at_update d z) ∙ sym (ap field_bits z)
    go false false q r =
        ap (λ (e : Edit). field_bits (kind e)) (edit_at-keep d (eqb-false (kind_at d) 0 q) (eqb-false (kind_at d) 1 r))
        ∙ sym (field-keep 2 (λ z. omega arith) (λ z. omega arith))
        ∙ field-keep (kind_at d) (eqb-false (kind_at d) 0 q) (eqb-false (kind_at d) 1 r)

-- its kind and its fields are all its bits
pub size_insert : (c : CodeEdit) (k : Key) (p : ℕ) → c ≡ CodeInsert k p → 290 ≡ length (edit_bits (edit_meant c))
unfolding edit_bits
size_insert c k p q =
    let e : length (bits 2 0 ++ key_bits k ++ bits 32 p) ≡ 290 =
    length_three (bits 2 0) (key_bits k) (bits 32 p)
    ∙ omega (arith, length-bits 2 0, length-key_bits k, length-bits 32 p) in
    sym (ap (λ (x : CodeEdit). length (edit_bits (edit_meant x))) q ∙ e)

pub size_update : (c : CodeEdit) (i p : ℕ) → c ≡ CodeUpdate i p → 44 ≡ length (edit_bits (edit_meant c))
unfolding edit_bits
size_update c i p q = sym (ap (λ (x : CodeEdit). length (edit_bits (edit_meant x))) q)

pub size-keep : (c : CodeEdit) (s e : ℕ) → c ≡ CodeKeepChunk s e → 22 ≡ length (edit_bits (edit_meant c))
unfolding edit_bits
size-keep c s e q = sym (ap (λ (x : CodeEdit). length (edit_bits (edit_meant x))) q)

pub size-fields : (c : CodeEdit) → length (edit_bits (edit_meant c)) ≡ 2 + field_bits (kind (edit_meant c))
unfolding field_bits
size-fields (CodeInsert k p) = sym (size_insert (CodeInsert k p) k p refl)
size-fields (CodeUpdate i p) = sym (size_update (CodeUpdate i p) i p refl)
size-fields (CodeKeepChunk s e) = sym (size-keep (CodeKeepChunk s e) s e refl)

module _ (s : List ℕ) (p : ℕ) where
  left : length (drop p (bits_of s)) ≡ 8 * length s - p
  left = omega (arith, length-drop p (bits_of s), length-bits_of s)

  pub short_is : 8 * length s - p < 2 → 0 < span_at (drop p (bits_of s)) → ⊥
  short_is l z = omega (arith, span_short (drop p (bits_of s)) (omega (arith, left)))

  module _ (h : Head) (o : HeadOf (drop p (bits_of s)) h) (two : 2 ≤ 8 * length s - p) where
    pub three_is : kind_number h.kind ≡ 3 → 0 < span_at (drop p (bits_of s)) → ⊥
    three_is e z = omega (arith, span_three (drop p (bits_of s)) (sym o.kind ∙ e) (omega (arith, left)))

    module _ (three : kind_number h.kind ≡ 3 → ⊥) (f : ℕ) (ef : f ≡ field_bits (kind_number h.kind)) where
      f_is : f ≡ field_bits (kind_at (drop p (bits_of s)))
      f_is = ef ∙ ap field_bits o.kind

      pub lacks_is : 8 * length s - p < 2 + f → 0 < span_at (drop p (bits_of s)) → ⊥
      lacks_is l z =
          omega (
            arith,
            span_lacks (drop p (bits_of s)) (omega (arith, left, f_is)) (λ e. three (o.kind ∙ e)) (omega (arith, left)),
          )

      pub whole_is : 2 + f ≤ 8 * length s - p
          → (0 < span_at (drop p (bits_of s))) × (2 + f ≡ span_at (drop p (bits_of s)))
      whole_is l =
          let e : span_at (drop p (bits_of s)) ≡ 2 + field_bits (kind_at (drop p (bits_of s))) =
          span-whole (drop p (bits_of s)) (omega (arith, left, f_is)) (λ e. three (o.kind ∙ e)) (omega (arith, left)) in
          (omega (arith, f_is), omega (arith, f_is))

-- ---- padding

value-append_zeros : (xs : List ℕ) (k : ℕ) → value (xs ++ replicate k 0) ≡ value xs * 2 ^ k
unfolding value
value-append_zeros [] k = value_zeros k ∙ sym (zero-mul (2 ^ k))
value-append_zeros (b ∷ xs) k =
    let l : length (xs ++ replicate k 0) ≡ length xs + k =
    length-append xs (replicate k 0) ∙ ap (λ (n : ℕ). length xs + n) (length-replicate k 0) in
    ap₂ (λ (n v : ℕ). b * 2 ^ n + v) l (value-append_zeros xs k)
    ∙ ap (λ (n : ℕ). b * n + value xs * 2 ^ k) (pow-add 2 (length xs) k)
    ∙ ap (λ (n : ℕ). n + value xs * 2 ^ k) (sym (mul_assoc b (2 ^ length xs) (2 ^ k)))
    ∙ sym (add-mul (b * 2 ^ length xs) (value xs) (2 ^ k))

pub pad_long : (s : List ℕ) (p : ℕ) → 8 ≤ 8 * length s - p → false ≡ padding (drop p (bits_of s))
unfolding padding
pad_long s p h =
    let l : 8 ≤ length (drop p (bits_of s)) = omega (arith, left s p) in
    rw (le-ltb (length (drop p (bits_of s))) 8 l)

times_zero : (x v m : ℕ) → 0 < m → x ≡ v * m → eqb x 0 ≡ eqb v 0
times_zero x zero m h e = eq-eqb x 0 (e ∙ zero-mul m)
times_zero x (suc v) m h e = ne_eqb x 0 (λ z. omega (arith, suc-mul v m)) ∙ sym (ne_eqb (suc v) 0 (λ z. omega arith))

pub pad_is : (s : List ℕ) (p x : ℕ) → 8 * length s - p < 8 → bits 64 x ≡ fill 64 (drop (p + 0) (bits_of s)) → Fits w64 x
    → eqb x 0 ≡ padding (drop p (bits_of s))
unfolding padding
pad_is s p x h e f =
    let d : List ℕ = drop p (bits_of s) in
    let l : length d < 8 = omega (arith, left s p) in
    let m : length d ≤ 64 = omega arith in
    let v : x ≡ value d * 2 ^ (64 - length d) =
    sym (value_of_bits 64 x f.fits) ∙ ap value (at_zero s p x e ∙ fill_short 64 d m)
    ∙ value-append_zeros d (64 - length d) in
    rw (lt-ltb (length (drop p (bits_of s))) 8 l)
    (times_zero x (value d) (2 ^ (64 - length d)) (pow_pos (64 - length d)) v)

-- ---- whether an edit's positions are inside

module _ (n : ℕ) (h : Head) where
  pub inside_insert : kind_number h.kind ≡ 0 → true ≡ inside_head n h
  unfolding inside_head
  inside_insert e = rw (eq-eqb (kind_number h.kind) 0 e)

  pub inside_update : (kind_number h.kind ≡ 0 → ⊥) → kind_number h.kind ≡ 1 → ltb h.place n ≡ inside_head n h
  unfolding inside_head
  inside_update z e = rw (ne_eqb (kind_number h.kind) 0 z, eq-eqb (kind_number h.kind) 1 e)

  pub inside-keep : (kind_number h.kind ≡ 0 → ⊥) → (kind_number h.kind ≡ 1 → ⊥) → h.place < h.end → leb h.end n ≡ inside_head n h
  unfolding inside_head
  inside-keep z y l = rw (ne_eqb (kind_number h.kind) 0 z, ne_eqb (kind_number h.kind) 1 y, lt-ltb h.place h.end l)

  pub inside_empty : (kind_number h.kind ≡ 0 → ⊥) → (kind_number h.kind ≡ 1 → ⊥) → h.end ≤ h.place → ltb h.place h.end ≡ inside_head n h
  unfolding inside_head
  inside_empty z y l = rw (ne_eqb (kind_number h.kind) 0 z, ne_eqb (kind_number h.kind) 1 y, le-ltb h.place h.end l)

not-not : (t : Bool) → not (not t) ≡ t
not-not true = refl
not-not false = refl

not-leb : (a b : ℕ) → ltb b a ≡ not (leb a b)
not-leb a b = go (ltb b a) refl
  where
    go : (t : Bool) → ltb b a ≡ t → ltb b a ≡ not (leb a b)
    go true e = e ∙ ap not (sym (lt-leb a b (ltb-true b a e)))
    go false e = e ∙ ap not (sym (le-leb a b (ltb-false b a e)))

keep-inside : (n s e : ℕ) → cond (ltb s e) (leb e n) false ≡ not (leb e s || ltb n e)
keep-inside n s e = go (ltb s e) refl
  where
    go : (t : Bool) → ltb s e ≡ t → cond (ltb s e) (leb e n) false ≡ not (leb e s || ltb n e)
    go true q = rw (q, lt-leb e s (ltb-true s e q), not-leb e n) (sym (not-not (leb e n)))
    go false q = rw (q, le-leb e s (ltb-false s e q))

inside_head-outside : (n : ℕ) (d : List ℕ) (h : Head) → HeadOf d h → inside_head n h ≡ not (outside n (edit_at d))
unfolding inside_head outside
inside_head-outside n d h o = go (eqb (kind_number h.kind) 0) (eqb (kind_number h.kind) 1) refl refl
  where
    go : (s t : Bool) → eqb (kind_number h.kind) 0 ≡ s → eqb (kind_number h.kind) 1 ≡ t → inside_head n h ≡ not (outside n (edit_at d))
    go true t e f =
        sym (inside_insert n h (eqb-true (kind_number h.kind) 0 e))
        ∙ ap (λ (x : Edit). not (outside n x)) (sym (edit_at_insert d (sym o.kind ∙ eqb-true (kind_number h.kind) 0 e)))
    go false true e f =
        sym (inside_update n h (eqb-false (kind_number h.kind) 0 e) (eqb-true (kind_number h.kind) 1 f)) ∙ not-leb n h.place
        ∙ ap (λ (x : ℕ). not (leb n x)) o.place
        ∙ ap (λ (x : Edit). not (outside n x)) (sym (edit_at_update d (sym o.kind ∙ eqb-true (kind_number h.kind) 1 f)))
    go false false e f =
        rw (e, f) (keep-inside n h.place h.end ∙ ap₂ (λ (x y : ℕ). not (leb y x || ltb n y)) o.place o.end
        ∙ ap (λ (x : Edit). not (outside n x))
        (sym (edit_at-keep d (λ q. eqb-false (kind_number h.kind) 0 e (o.kind ∙ q)) (λ q. eqb-false (kind_number h.kind) 1 f (o.kind ∙ q)))))

-- ---- the edits still ahead

-- the first of n + 1 edits that are read out of d, and the others
pub record Uncons (n : ℕ) (d : List ℕ) : Type 0 where
  pub is : edits_of (read_edits (suc n) d) ≡ edit_at d ∷ edits_of (read_edits n (drop (2 + field_bits (kind_at d)) d))
  pub formed : formed_in (read_edits n (drop (2 + field_bits (kind_at d)) d)) ≡ true

span_at-size : (d : List ℕ) → (span_at d ≡ 0 → ⊥) → span_at d ≡ 2 + field_bits (kind_at d)
unfolding span_at
span_at-size d z = go (ltb (length d) 2 || eqb (kind_at d) 3 || ltb (length d) (2 + field_bits (kind_at d))) refl
  where
    go : (t : Bool) → (ltb (length d) 2 || eqb (kind_at d) 3 || ltb (length d) (2 + field_bits (kind_at d))) ≡ t
        → cond (ltb (length d) 2 || eqb (kind_at d) 3 || ltb (length d) (2 + field_bits (kind_at d))) 0
        (2 + field_bits (kind_at d))
        ≡ 2 + field_bits (kind_at d)
    go true e = absurd (z (rw e))
    go false e = rw e

edits_of-and_then : (e : Edit) (o : Option (List Edit)) → formed_in o ≡ true → edits_of (and_then e o) ≡ e ∷ edits_of o
unfolding formed_in and_then edits_of
edits_of-and_then e none f = absurd (false≢true f)
edits_of-and_then e (some es) f = refl

uncons : (n : ℕ) (d : List ℕ) → formed_in (read_edits (suc n) d) ≡ true → Uncons n d
uncons n d f = go (eqb (span_at d) 0) refl
  where
    go : (t : Bool) → eqb (span_at d) 0 ≡ t → Uncons n d
    go true q = absurd (false≢true (sym (span_none n d (eqb-true (span_at d) 0 q)) ∙ f))
    go false q =
        let z : span_at d ≡ 0 → ⊥ = eqb-false (span_at d) 0 q in
        let s : span_at d ≡ 2 + field_bits (kind_at d) = span_at-size d z in
        let g : formed_in (read_edits n (drop (2 + field_bits (kind_at d)) d)) ≡ true =
        ap (λ (k : ℕ). formed_in (read_edits n (drop k d))) (sym s) ∙ sym (span-some n d z) ∙ f in
        record {
          is =
              ap edits_of (read-span n d ∙ rw q (ap (λ (k : ℕ). and_then (edit_at d) (read_edits n (drop k d))) s))
              ∙ edits_of-and_then (edit_at d) (read_edits n (drop (2 + field_bits (kind_at d)) d)) g;
          formed = g;
        }

-- the edits of a well-formed record s from the i-th of k on, which stand from bit p on
unfoldable pub ahead : List ℕ → ℕ → ℕ → ℕ → List Edit
ahead s k i p = edits_of (read_edits (k - i) (drop p (bits_of s)))

-- they are well-formed
pub record Ahead (s : List ℕ) (k i p : ℕ) : Type 0 where
  pub formed : formed_in (read_edits (k - i) (drop p (bits_of s))) ≡ true

record_two : (s : List ℕ) → formed_in (read_record s) ≡ true → 2 ≤ length s
record_two s f = go (ltb (length s) 2) refl
  where
    go : (t : Bool) → ltb (length s) 2 ≡ t → 2 ≤ length s
    go true q = absurd (false≢true (record_short s (ltb-true (length s) 2 q) ∙ f))
    go false q = ltb-false (length s) 2 q

module _ (s : List ℕ) (k : ℕ) (f : formed_in (read_record s) ≡ true) (e : k ≡ count_of s) where
  whole-record : read_record s ≡ read_edits (k - 0) (drop 10 (bits_of s))
  whole-record =
      let q : count_of s ≡ k - 0 = omega arith in
      record_edits s (record_two s f) ∙ ap (λ (j : ℕ). read_edits j (drop 10 (bits_of s))) q

  pub ahead_start : Ahead s k 0 10
  ahead_start = record { formed = ap formed_in (sym whole-record) ∙ f }

  pub ahead_all : edits_of (read_record s) ≡ ahead s k 0 10
  unfolding ahead
  ahead_all = ap edits_of whole-record

module _ (s : List ℕ) (k i p : ℕ) (a : Ahead s k i p) (l : i < k) where
  fewer : k - i ≡ suc (k - (i + 1))
  fewer = omega arith

  uncons_ahead : Uncons (k - (i + 1)) (drop p (bits_of s))
  uncons_ahead =
      uncons (k - (i + 1)) (drop p (bits_of s))
      (ap (λ (j : ℕ). formed_in (read_edits j (drop p (bits_of s)))) (sym fewer) ∙ a.formed)

  module _ (w : ℕ) (e : w ≡ 2 + field_bits (kind_at (drop p (bits_of s)))) where
    next_bits : drop (2 + field_bits (kind_at (drop p (bits_of s)))) (drop p (bits_of s)) ≡ drop (p + w) (bits_of s)
    next_bits = ap (λ (j : ℕ). drop j (drop p (bits_of s))) (sym e) ∙ drop-drop w p (bits_of s)

    pub ahead_next : Ahead s k (i + 1) (p + w)
    ahead_next = record {
      formed = ap (λ (d : List ℕ). formed_in (read_edits (k - (i + 1)) d)) (sym next_bits) ∙ uncons_ahead.formed;
    }

    pub ahead_cons : ahead s k i p ≡ edit_at (drop p (bits_of s)) ∷ ahead s k (i + 1) (p + w)
    unfolding ahead
    ahead_cons =
        ap (λ (j : ℕ). edits_of (read_edits j (drop p (bits_of s)))) fewer ∙ uncons_ahead.is
        ∙ ap (λ (d : List ℕ). edit_at (drop p (bits_of s)) ∷ edits_of (read_edits (k - (i + 1)) d)) next_bits

pub ahead_none : (s : List ℕ) (k i p : ℕ) → k ≤ i → ahead s k i p ≡ []
unfolding ahead edits_of
ahead_none s k i p h =
    let z : k - i ≡ 0 = omega arith in
    ap (λ (j : ℕ). edits_of (read_edits j (drop p (bits_of s)))) z ∙ ap edits_of (read_edits-zero (drop p (bits_of s)))
    ∙ go (padding (drop p (bits_of s)))
  where
    go : (t : Bool) → edits_of (cond t (some []) none) ≡ []
    go true = refl
    go false = refl

length-read : (n : ℕ) (d : List ℕ) → formed_in (read_edits n d) ≡ true → length (edits_of (read_edits n d)) ≡ n
unfolding edits_of
length-read zero d f = ap (λ (o : Option (List Edit)). length (edits_of o)) (read_edits-zero d) ∙ go (padding d)
  where
    go : (t : Bool) → length (edits_of (cond t (some []) none)) ≡ 0
    go true = refl
    go false = refl
length-read (suc n) d f =
    ap length (uncons n d f).is ∙ ap suc (length-read n (drop (2 + field_bits (kind_at d)) d) (uncons n d f).formed)

-- a well-formed record has as many edits as it says
pub length-record : (s : List ℕ) → formed_in (read_record s) ≡ true → length (edits_of (read_record s)) ≡ count_of s
length-record s f =
    let e : read_record s ≡ read_edits (count_of s) (drop 10 (bits_of s)) = record_edits s (record_two s f) in
    ap (λ (o : Option (List Edit)). length (edits_of o)) e
    ∙ length-read (count_of s) (drop 10 (bits_of s)) (ap formed_in (sym e) ∙ f)

-- i of k edits are inside, and the rest decides
pub record Placing (s : List ℕ) (n k i p : ℕ) : Type 0 where
  pub read : Ahead s k i p
  pub same : any_outside n (edits_of (read_record s)) ≡ any_outside n (ahead s k i p)

pub placing_start : (s : List ℕ) (n k : ℕ) → formed_in (read_record s) ≡ true → k ≡ count_of s → Placing s n k 0 10
placing_start s n k f e = record { read = ahead_start s k f e; same = ap (any_outside n) (ahead_all s k f e) }

module _ (s : List ℕ) (n k i p : ℕ) (f : Placing s n k i p) (l : i < k) (h : Head) (o : HeadOf (drop p (bits_of s)) h)
    (b : Bool)
    (eb : b ≡ inside_head n h) where
  is_inside : b ≡ not (outside n (edit_at (drop p (bits_of s))))
  is_inside = eb ∙ inside_head-outside n (drop p (bits_of s)) h o

  one_edit : (w : ℕ) → w ≡ 2 + field_bits (kind_at (drop p (bits_of s)))
      → any_outside n (edits_of (read_record s))
      ≡ (outside n (edit_at (drop p (bits_of s))) || any_outside n (ahead s k (i + 1) (p + w)))
  unfolding any_outside
  one_edit w e = f.same ∙ ap (any_outside n) (ahead_cons s k i p f.read l w e)

  pub placing_bad : not b ≡ true → false ≡ not (any_outside n (edits_of (read_record s)))
  placing_bad z =
      let t : outside n (edit_at (drop p (bits_of s))) ≡ true =
      not-false (outside n (edit_at (drop p (bits_of s)))) (sym is_inside ∙ not-true b z) in
      sym (ap not (one_edit (2 + field_bits (kind_at (drop p (bits_of s)))) refl) ∙ rw t)

  pub placing_next : not b ≡ false → (w : ℕ) → w ≡ field_bits (kind_number h.kind) → Placing s n k (i + 1) (p + (2 + w))
  placing_next z w ew =
      let t : outside n (edit_at (drop p (bits_of s))) ≡ false =
      not-true (outside n (edit_at (drop p (bits_of s)))) (sym is_inside ∙ not-false b z) in
      let q : 2 + w ≡ 2 + field_bits (kind_at (drop p (bits_of s))) =
      ap (λ (x : ℕ). 2 + x) (ew ∙ ap field_bits o.kind) in
      record { read = ahead_next s k i p f.read l (2 + w) q; same = one_edit (2 + w) q ∙ rw t }

pub placing_end : (s : List ℕ) (n k i p : ℕ) → Placing s n k i p → k ≤ i
    → true ≡ not (any_outside n (edits_of (read_record s)))
unfolding any_outside
placing_end s n k i p f h = sym (ap not (f.same ∙ ap (any_outside n) (ahead_none s k i p h)))
