-- Laws of rows of a table (`specs/Rows.antt`).
-- In order: `each`; a row stored (`with_row`), what is then read in it and what in others; the entries of n rows
-- (`rows`); rows stored one behind the other (`with_rows`).
-- Assumes nothing.
use mathlib.Core.List.{List, [], ◌∷◌, ◌++◌}
use mathlib.Core.Path.{◌≡◌, refl, sym, ap, ap₂, subst, ◌∙◌}
use Prim.Native.Nat.{ℕ, zero, suc, ◌+◌, ◌^◌, ◌≤◌, ◌<◌}
use native.Mathlib.Nat.{add-zero}
use native.Mathlib.Omega.{arith}
use lib.ListN.{length, get_or, take, drop, set, length-drop}
use lib.Seq.{take-add, take_all, length-take-le, set_out}
use Rattle.std.proofs.lemmas.List.{take-append-drop, take-set, drop-set, length-set, get_or-set_same, get_or-set_other}
use Rattle.format.specs.Bits.{bits, value}
use Rattle.format.specs.Key.{IsKey}
use Rattle.format.specs.Normal.{keys}
use Rattle.format.specs.Page.{Entry, each}
use Rattle.facts.proofs.BitsLaws.{bits-value, AllBelow-take, AllBelow-drop}
use Rattle.facts.proofs.EntryLaws.{length-each, get_or-each, each_at, entry_same, AreKeys, AreKeys-each}
use Rattle.keys.specs.Keys.{key_bits}
use Rattle.keys.proofs.KeysLaws.{IsKey-key_bits, word_a, word_b, word_c, word_d}
use Rattle.rows.specs.declared.table.Row.{Row}
use Rattle.rows.specs.Rows.{zero_row, row_key, row_pointer, row_source, row_entry, rows, row_of, with_row, with_rows}

-- ---- each

module _ {ℓ} {X : Type ℓ} where
  pub each_snoc : (n : ℕ) (f : ℕ → X) → each (suc n) f ≡ each n f ++ (f n ∷ [])
  unfolding each
  each_snoc zero f = refl
  each_snoc (suc n) f = ap (λ (l : List X). f 0 ∷ l) (each_snoc n (λ i. f (suc i)))

-- ---- a row stored

-- a key is its four words
key_bits-row_of : (e : Entry) (s : ℕ) → IsKey e.key → key_bits (row_of e s).key ≡ e.key
unfolding key_bits row_of
key_bits-row_of e s y =
    ap₂ (λ (u v : List ℕ). u ++ v)
    (ap₂ (λ (u v : List ℕ). u ++ v) (ap₂ (λ (u v : List ℕ). u ++ v) (part 0 (omega arith)) (part 64 (omega arith)))
    (part 128 (omega arith))) (part 192 (omega arith))
    ∙ sym (sym (take_all 256 e.key (omega (arith, y.size))) ∙ take-add 192 64 e.key
    ∙ ap (λ (l : List ℕ). l ++ take 64 (drop 192 e.key)) (take-add 128 64 e.key
    ∙ ap (λ (l : List ℕ). l ++ take 64 (drop 128 e.key)) (take-add 64 64 e.key)))
  where
    part : (n : ℕ) → n + 64 ≤ 256 → bits 64 (value (take 64 (drop n e.key))) ≡ take 64 (drop n e.key)
    part n h =
        let l : length (take 64 (drop n e.key)) ≡ 64 =
        length-take-le 64 (drop n e.key) (omega (arith, length-drop n e.key, y.size)) in
        ap (λ (w : ℕ). bits w (value (take 64 (drop n e.key)))) (sym l)
        ∙ bits-value (take 64 (drop n e.key)) (AllBelow-take 2 64 (drop n e.key) (AllBelow-drop 2 n e.key y.bits))

-- and a row in place of row i is its entry and its position there
pub set_row_in : (t : List Row) (i : ℕ) (r : Row) → r.key.a < 2 ^ 64 → r.key.b < 2 ^ 64 → r.key.c < 2 ^ 64
    → r.key.d < 2 ^ 64 → set t i r ≡ with_row t i (record { key = key_bits r.key; pointer = r.pointer }) r.source
unfolding with_row row_of
set_row_in t i r a b c d = rw (word_a r.key a, word_b r.key b, word_c r.key c, word_d r.key d)

pub set_row_out : (t : List Row) (i : ℕ) (e : Entry) (s : ℕ) → length t ≤ i → t ≡ with_row t i e s
unfolding with_row
set_row_out t i e s h = sym (set_out t i (row_of e s) h)

module _ (t : List Row) (i : ℕ) (e : Entry) (s : ℕ) where
  pub with_row_in : i < length t → with_row t i e s ≡ take i t ++ row_of e s ∷ drop (i + 1) t
  unfolding with_row
  with_row_in h =
      sym (take-append-drop i (set t i (row_of e s)))
      ∙ ap₂ (λ (u v : List Row). u ++ v) (take-set t i (row_of e s)) (drop-set t i (row_of e s) h)

  pub with_row_out : length t ≤ i → with_row t i e s ≡ t
  with_row_out h = sym (set_row_out t i e s h)

  pub length-with_row : length (with_row t i e s) ≡ length t
  unfolding with_row
  length-with_row = length-set t i (row_of e s)

  with_row_at : i < length t → get_or (with_row t i e s) i zero_row ≡ row_of e s
  unfolding with_row
  with_row_at h = get_or-set_same t i (row_of e s) zero_row h

  pub row_key_same : IsKey e.key → i < length t → row_key (with_row t i e s) i ≡ e.key
  unfolding row_key
  row_key_same y h = ap (λ (r : Row). key_bits r.key) (with_row_at h) ∙ key_bits-row_of e s y

  pub row_pointer_same : i < length t → row_pointer (with_row t i e s) i ≡ e.pointer
  unfolding row_pointer row_of
  row_pointer_same h = ap (λ (r : Row). r.pointer) (with_row_at h)

  pub row_source_same : i < length t → row_source (with_row t i e s) i ≡ s
  unfolding row_source row_of
  row_source_same h = ap (λ (r : Row). r.source) (with_row_at h)

  pub row_entry_same : IsKey e.key → i < length t → row_entry (with_row t i e s) i ≡ e
  unfolding row_entry
  row_entry_same y h = entry_same (row_entry (with_row t i e s) i) e (row_key_same y h) (row_pointer_same h)

  module _ (j : ℕ) (n : j ≡ i → ⊥) where
    with_row_past : get_or (with_row t i e s) j zero_row ≡ get_or t j zero_row
    unfolding with_row
    with_row_past = get_or-set_other t i j (row_of e s) zero_row n

    pub row_key_other : row_key (with_row t i e s) j ≡ row_key t j
    unfolding row_key
    row_key_other = ap (λ (r : Row). key_bits r.key) with_row_past

    pub row_pointer_other : row_pointer (with_row t i e s) j ≡ row_pointer t j
    unfolding row_pointer
    row_pointer_other = ap (λ (r : Row). r.pointer) with_row_past

    pub row_source_other : row_source (with_row t i e s) j ≡ row_source t j
    unfolding row_source
    row_source_other = ap (λ (r : Row). r.source) with_row_past

    pub row_entry_other : row_entry (with_row t i e s) j ≡ row_entry t j
    unfolding row_entry
    row_entry_other = entry_same (row_entry (with_row t i e s) j) (row_entry t j) row_key_other row_pointer_other

-- ---- the entries of n rows

pub IsKey-row_key : (t : List Row) (i : ℕ) → IsKey (row_key t i)
unfolding row_key
IsKey-row_key t i = IsKey-key_bits (get_or t i zero_row).key

pub AreKeys-rows : (n : ℕ) (t : List Row) → AreKeys (keys (rows n t))
unfolding rows row_entry
AreKeys-rows n t = AreKeys-each n (row_entry t) (IsKey-row_key t)

pub length-rows : (n : ℕ) (t : List Row) → length (rows n t) ≡ n
unfolding rows
length-rows n t = length-each n (row_entry t)

pub rows_at : (n : ℕ) (t : List Row) (i : ℕ) (d : Entry) → i < n → get_or (rows n t) i d ≡ row_entry t i
unfolding rows
rows_at n t i d h = get_or-each n (row_entry t) i d h

-- ---- rows stored one behind the other

pub length-with_rows : (t : List Row) (i : ℕ) (es : List Entry) → length (with_rows t i es) ≡ length t
unfolding with_rows
length-with_rows t i [] = refl
length-with_rows t i (e ∷ es) = length-with_rows (with_row t i e i) (suc i) es ∙ length-with_row t i e i

-- one more
pub with_rows_snoc : (t : List Row) (i : ℕ) (es : List Entry) (e : Entry)
    → with_rows t i (es ++ (e ∷ [])) ≡ with_row (with_rows t i es) (i + length es) e (i + length es)
unfolding with_rows
with_rows_snoc t i [] e = ap (λ (n : ℕ). with_row t n e n) (sym (add-zero i))
with_rows_snoc t i (x ∷ es) e =
    let q : suc i + length es ≡ i + suc (length es) = omega arith in
    with_rows_snoc (with_row t i x i) (suc i) es e
    ∙ ap (λ (n : ℕ). with_row (with_rows (with_row t i x i) (suc i) es) n e n) q

-- rows before the first of them are as they were
pub row_entry_before : (t : List Row) (i : ℕ) (es : List Entry) (j : ℕ) → j < i
    → row_entry (with_rows t i es) j ≡ row_entry t j
unfolding with_rows
row_entry_before t i [] j h = refl
row_entry_before t i (e ∷ es) j h =
    row_entry_before (with_row t i e i) (suc i) es j (omega arith) ∙ row_entry_other t i e i j (λ q. omega arith)

pub row_source_before : (t : List Row) (i : ℕ) (es : List Entry) (j : ℕ) → j < i
    → row_source (with_rows t i es) j ≡ row_source t j
unfolding with_rows
row_source_before t i [] j h = refl
row_source_before t i (e ∷ es) j h =
    row_source_before (with_row t i e i) (suc i) es j (omega arith) ∙ row_source_other t i e i j (λ q. omega arith)

-- each entry is in its row, where the table has it
pub row_entry-with_rows : (t : List Row) (i : ℕ) (es : List Entry) (d : Entry) (j : ℕ) → AreKeys (keys es) → j < length es
    → i + j < length t → row_entry (with_rows t i es) (i + j) ≡ get_or es j d
unfolding with_rows AreKeys keys
row_entry-with_rows t i [] d j y h r = absurd (omega arith)
row_entry-with_rows t i (e ∷ es) d zero y h r =
    let q : i + 0 ≡ i = omega arith in
    ap (row_entry (with_rows (with_row t i e i) (suc i) es)) q
    ∙ row_entry_before (with_row t i e i) (suc i) es i (omega arith) ∙ row_entry_same t i e i y.0 (omega arith)
row_entry-with_rows t i (e ∷ es) d (suc j) y h r =
    let q : i + suc j ≡ suc i + j = omega arith in
    ap (row_entry (with_rows (with_row t i e i) (suc i) es)) q
    ∙ row_entry-with_rows (with_row t i e i) (suc i) es d j y.1 (omega arith)
    (subst (λ (n : ℕ). suc i + j < n) (sym (length-with_row t i e i)) (omega arith))

-- so a table with room for all holds them
pub rows-with_rows : (t : List Row) (es : List Entry) → AreKeys (keys es) → length es ≤ length t
    → rows (length es) (with_rows t 0 es) ≡ es
unfolding rows
rows-with_rows t es y r =
    each_at es (row_entry (with_rows t 0 es)) (length es) nobody refl
    (λ j h. ap (row_entry (with_rows t 0 es)) (sym (zero_plus j)) ∙ row_entry-with_rows t 0 es nobody j y h (omega arith))
  where
    nobody : Entry
    nobody = record { key = []; pointer = 0 }

    zero_plus : (j : ℕ) → 0 + j ≡ j
    zero_plus j = omega arith
