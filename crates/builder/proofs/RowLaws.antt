-- Laws of the bits that a page stores of a table's rows: one row's, all rows', and rows with the same bits.
-- Assumes nothing.
use mathlib.Core.List.{List, ◌∷◌, ◌++◌}
use mathlib.Core.Path.{◌≡◌, refl, sym, ap, ap₂, ◌∙◌}
use Prim.Native.Nat.{ℕ, zero, suc, ◌-◌, ◌+◌, ◌≤◌, ◌<◌}
use native.Mathlib.Omega.{arith}
use native.Mathlib.Decide.{dec_le}
use lib.ListN.{length, take, drop}
use Rattle.format.specs.Key.{separator_length}
use Rattle.format.specs.Normal.{stored_bits, first_key}
use Rattle.rows.specs.declared.table.Row.{Row}
use Rattle.rows.specs.Rows.{row_key}
use Rattle.parts.specs.Parts.{left_out, row_keys}
use Rattle.parts.proofs.RowLaws.{left_out_in, left_out_past, length-row_keys, row_keys-cons}
use Rattle.builder.specs.Writes.{own_bits, rows_bits, row_bits}

bits_plain : (q : ℕ) (k : List ℕ) (ks : List (List ℕ))
    → stored_bits 0 q (k ∷ ks) ≡ take (separator_length k - 0) (drop 0 k) ++ stored_bits 0 q ks
unfolding stored_bits
bits_plain q k ks =
    let e : separator_length k ≡ separator_length k - 0 = omega arith in
    ap (λ (n : ℕ). take n k ++ stored_bits 0 q ks) e

bits_short : (j q : ℕ) (k : List ℕ) (ks : List (List ℕ))
    → stored_bits (suc j) q (k ∷ ks) ≡ take (separator_length k - q) (drop q k) ++ stored_bits j q ks
unfolding stored_bits
bits_short j q k ks = refl

-- the bits stored of row i, and those of the keys behind it
stored_bits_row : (t : List Row) (m q i : ℕ) (ks : List (List ℕ))
    → stored_bits (m - i) q (row_key t i ∷ ks) ≡ own_bits t m q i ++ stored_bits (m - suc i) q ks
unfolding own_bits
stored_bits_row t m q i ks = go (dec_le m i)
  where
    go : Dec (m ≤ i)
        → stored_bits (m - i) q (row_key t i ∷ ks)
        ≡ take (separator_length (row_key t i) - left_out m q i) (drop (left_out m q i) (row_key t i))
        ++ stored_bits (m - suc i) q ks
    go (yes p) =
        let a : m - i ≡ 0 = omega arith in
        let b : m - suc i ≡ 0 = omega arith in
        rw (a, b, ← left_out_past m q i p) (bits_plain q (row_key t i) ks)
    go (no p) =
        let g : i < m = omega arith in
        let a : m - i ≡ suc (m - suc i) = omega arith in
        rw (a, ← left_out_in m q i g) (bits_short (m - suc i) q (row_key t i) ks)

-- the bits of k rows from i on are those stored of their keys
rows_bits_own : (t : List Row) (n m q k i : ℕ) → i + k ≡ n
    → rows_bits (own_bits t m q) k i ≡ stored_bits (m - i) q (drop i (row_keys n t))
unfolding rows_bits stored_bits
rows_bits_own t n m q zero i e =
    let l : length (row_keys n t) ≤ i = omega (arith, length-row_keys n t) in
    sym (ap (stored_bits (m - i) q) (lib.ListN.drop_of_length-le (row_keys n t) l))
rows_bits_own t n m q (suc k) i e =
    let h : i < n = omega arith in
    ap (λ (x : List ℕ). own_bits t m q i ++ x) (rows_bits_own t n m q k (suc i) (omega arith))
    ∙ sym (ap (stored_bits (m - i) q) (row_keys-cons n t i h) ∙ stored_bits_row t m q i (drop (suc i) (row_keys n t)))

-- so the bits of a page of n rows are those of the page under the choice
pub row_bits_own : (t : List Row) (n m q : ℕ) → 0 < n
    → row_bits (own_bits t m q) n t q ≡ take q (first_key (row_keys n t)) ++ stored_bits m q (row_keys n t)
unfolding row_bits first_key
row_bits_own t n m q h =
    let z : m - 0 ≡ m = omega arith in
    ap₂ (λ (k b : List ℕ). take q k ++ b) (sym (ap first_key (row_keys-cons n t 0 h)))
    (rows_bits_own t n m q n 0 (omega arith) ∙ ap (λ (x : ℕ). stored_bits x q (row_keys n t)) z)

-- one row by itself
pub rows_bits_next : (f : ℕ → List ℕ) (n i : ℕ) → i < n → rows_bits f (n - i) i ≡ f i ++ rows_bits f (n - suc i) (suc i)
unfolding rows_bits
rows_bits_next f n i h =
    let a : n - i ≡ suc (n - suc i) = omega arith in
    ap (λ (k : ℕ). rows_bits f k i) a

-- rows with the same bits
pub rows_bits_same : (f g : ℕ → List ℕ) (k i n : ℕ) → i + k ≤ n → ((j : ℕ) → j < n → f j ≡ g j)
    → rows_bits f k i ≡ rows_bits g k i
unfolding rows_bits
rows_bits_same f g zero i n h e = refl
rows_bits_same f g (suc k) i n h e = ap₂ ◌++◌ (e i (omega arith)) (rows_bits_same f g k (suc i) n (omega arith) e)
