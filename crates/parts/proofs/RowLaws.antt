-- Laws of a table's rows.
-- In order: what an entry leaves out; how many keys and pointers, and which is the i-th; how many bits a page
-- stores of each.
-- Assumes nothing.
use mathlib.Core.List.{List, [], ◌∷◌}
use mathlib.Core.Path.{◌≡◌, ap, ◌∙◌}
use Prim.Native.Nat.{ℕ, suc, ◌-◌, ◌≤◌, ◌<◌}
use native.Mathlib.Omega.{arith}
use native.Mathlib.Decide.{dec_le}
use borrow.Author.Tests.{lt-ltb, le-ltb}
use lib.ListN.{length, get_or, drop}
use lib.Seq.{drop-cons}
use Rattle.format.specs.Key.{separator_length}
use Rattle.format.specs.Page.{Entry}
use Rattle.format.specs.Normal.{pointers, stored_lengths}
use Rattle.facts.proofs.EntryLaws.{length-keys, length-pointers, keys_at, pointers_at}
use Rattle.facts.proofs.StoredLaws.{length-stored_lengths, stored_lengths-compressed, stored_lengths_plain}
use Rattle.rows.specs.declared.table.Row.{Row}
use Rattle.rows.specs.Rows.{row_key, row_pointer, row_entry, rows}
use Rattle.rows.proofs.RowsLaws.{length-rows, rows_at}
use Rattle.parts.specs.Parts.{left_out, row_keys, row_lengths}

-- ---- what an entry leaves out

pub left_out_in : (m q i : ℕ) → i < m → q ≡ left_out m q i
unfolding left_out
left_out_in m q i h = rw (lt-ltb i m h)

pub left_out_past : (m q i : ℕ) → m ≤ i → 0 ≡ left_out m q i
unfolding left_out
left_out_past m q i h = rw (le-ltb i m h)

-- ---- keys and pointers

module _ (n : ℕ) (t : List Row) where
  pub length-row_keys : length (row_keys n t) ≡ n
  unfolding row_keys
  length-row_keys = length-keys (rows n t) ∙ length-rows n t

  pub row_keys_at : (i : ℕ) → i < n → get_or (row_keys n t) i [] ≡ row_key t i
  unfolding row_keys row_entry
  row_keys_at i h =
      let l : i < length (rows n t) = omega (arith, length-rows n t) in
      keys_at (rows n t) i (row_entry t i) l ∙ ap (λ (e : Entry). e.key) (rows_at n t i (row_entry t i) h)

  pub length_row_pointers : length (pointers (rows n t)) ≡ n
  length_row_pointers = length-pointers (rows n t) ∙ length-rows n t

  pub row_pointers_at : (i : ℕ) → i < n → get_or (pointers (rows n t)) i 0 ≡ row_pointer t i
  unfolding row_entry
  row_pointers_at i h =
      let l : i < length (rows n t) = omega (arith, length-rows n t) in
      pointers_at (rows n t) i (row_entry t i) l ∙ ap (λ (e : Entry). e.pointer) (rows_at n t i (row_entry t i) h)

  pub row_keys-cons : (i : ℕ) → i < n → drop i (row_keys n t) ≡ row_key t i ∷ drop (suc i) (row_keys n t)
  row_keys-cons i h =
      drop-cons (row_keys n t) i [] (omega (arith, length-row_keys))
      ∙ ap (λ (k : List ℕ). k ∷ drop (suc i) (row_keys n t)) (row_keys_at i h)

  -- ---- stored lengths

  module _ (m q : ℕ) where
    pub length-row_lengths : length (row_lengths n t m q) ≡ n
    unfolding row_lengths
    length-row_lengths = length-stored_lengths m q (row_keys n t) ∙ length-row_keys

    pub row_lengths_at : (i : ℕ) → i < n → get_or (row_lengths n t m q) i 0 ≡ separator_length (row_key t i) - left_out m q i
    unfolding row_lengths
    row_lengths_at i h = go (dec_le m i)
      where
        l : i < length (row_keys n t)
        l = omega (arith, length-row_keys)

        go : Dec (m ≤ i) → get_or (stored_lengths m q (row_keys n t)) i 0 ≡ separator_length (row_key t i) - left_out m q i
        go (yes p) =
            let z : separator_length (row_key t i) ≡ separator_length (row_key t i) - 0 = omega arith in
            stored_lengths_plain m q (row_keys n t) i p l ∙ ap separator_length (row_keys_at i h) ∙ z
            ∙ ap (λ (x : ℕ). separator_length (row_key t i) - x) (left_out_past m q i p)
        go (no p) =
            let g : i < m = omega arith in
            stored_lengths-compressed m q (row_keys n t) i g l
            ∙ ap (λ (k : List ℕ). separator_length k - q) (row_keys_at i h)
            ∙ ap (λ (x : ℕ). separator_length (row_key t i) - x) (left_out_in m q i g)
