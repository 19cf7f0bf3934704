-- Laws of the walk over two tables' entries (`specs/Walk.antt`).
-- In order: rows from a place on; rows that are passed over; after one entry of the base.
-- Not here: what is written (`WrittenLaws`); that the edits are those of an undo (`WalkLaws`).
-- Assumes nothing.
use mathlib.Core.Bool.{true, false, cond}
use mathlib.Core.List.{List, ◌∷◌}
use mathlib.Core.Path.{◌≡◌, sym, ap, ◌∙◌}
use Prim.Native.Nat.{ℕ, suc, ◌+◌, ◌≤◌, ◌<◌}
use native.Mathlib.Omega.{arith}
use borrow.Author.Tests.{eq-eqb, ne_eqb}
use lib.Dec.{eqb}
use lib.ListN.{drop, drop_of_length-le, get_or, length}
use lib.Seq.{drop-cons}
use Rattle.format.specs.Key.{below}
use Rattle.format.specs.Page.{Entry}
use Rattle.format.specs.Edit.{no_entry}
use Rattle.format.specs.Edit.Edit.{Insert, Update}
use Rattle.keys.specs.declared.Key.{Key}
use Rattle.keys.specs.Keys.{key_bits}
use Rattle.rows.specs.declared.table.Row.{Row}
use Rattle.rows.specs.Rows.{zero_row, row_entry, row_key, row_pointer, rows}
use Rattle.rows.proofs.RowsLaws.{length-rows, rows_at}
use Rattle.undo.specs.declared.Walk.{Walk}
use Rattle.undo.specs.Walk.{kept, met, othered, skipped, stepped, walking}

-- ---- rows

pub drop-rows : (k : ℕ) (t : List Row) (j : ℕ) → j < k → drop j (rows k t) ≡ row_entry t j ∷ drop (suc j) (rows k t)
drop-rows k t j h =
    let l : j < length (rows k t) = omega (arith, length-rows k t) in
    drop-cons (rows k t) j no_entry l ∙ ap (λ (e : Entry). e ∷ drop (suc j) (rows k t)) (rows_at k t j no_entry h)

-- ---- rows that are passed over

-- from `at` up to j rows are passed over
abbrev pub Passed : List Row → ℕ → ℕ → List ℕ → ℕ → Type 0
Passed t k at key j = skipped key at (drop at (rows k t)) ≡ skipped key j (drop j (rows k t))

module _ (t : List Row) (k at j : ℕ) (key : List ℕ) (s : Passed t k at key j) where
  module _ (h : j < k) where
    here : skipped key at (drop at (rows k t)) ≡ cond (below (row_key t j) key) (skipped key (suc j) (drop (suc j) (rows k t))) j
    unfolding skipped row_entry
    here = s ∙ ap (skipped key j) (drop-rows k t j h)

    pub passed_stop : below (row_key t j) key ≡ false → j ≡ skipped key at (drop at (rows k t))
    passed_stop b = sym (here ∙ rw b)

    pub passed_more : below (row_key t j) key ≡ true → Passed t k at key (j + 1)
    passed_more b =
        let z : suc j ≡ j + 1 = omega arith in
        here ∙ rw b (ap (λ (i : ℕ). skipped key i (drop i (rows k t))) z)

  pub passed_all : k ≤ j → j ≡ skipped key at (drop at (rows k t))
  unfolding skipped
  passed_all h =
      let l : length (rows k t) ≤ j = omega (arith, length-rows k t) in
      sym (s ∙ ap (skipped key j) (drop_of_length-le (rows k t) l))

pub ruleset passing = (passed_stop, passed_more, passed_all)

-- ---- one entry of the base

module _ (w : Walk) (d : List ℕ) (base : List Row) (i : ℕ) (new : List Row) (k : ℕ) (b : Row) (j : ℕ) (r : Walk) (d' : List ℕ)
    (eb : b ≡ get_or base i zero_row) (ej : j ≡ skipped (key_bits b.key) w.at (drop w.at (rows k new))) where
  entry_is : Entry
  entry_is = record { key = key_bits b.key; pointer = b.pointer }

  same_entry : entry_is ≡ row_entry base i
  unfolding entry_is row_entry row_key row_pointer
  same_entry = ap (λ (x : Row). record { key = key_bits x.key; pointer = x.pointer }) eb

  -- what the entry meets decides
  by_meeting : walking r d' ≡ met (walking w d) entry_is j (drop j (rows k new))
      → walking r d' ≡ stepped (walking w d) (row_entry base i) (rows k new)
  unfolding stepped walking entry_is
  by_meeting e =
      e ∙ ap (λ (x : ℕ). met (walking w d) entry_is x (drop x (rows k new))) ej
      ∙ ap (λ (b : Entry). stepped (walking w d) b (rows k new)) same_entry

  pub stepped_end : k ≤ j → walking r d' ≡ othered (walking w d) j (Insert (key_bits b.key) b.pointer)
      → walking r d' ≡ stepped (walking w d) (row_entry base i) (rows k new)
  unfolding met entry_is
  stepped_end h e =
      let l : length (rows k new) ≤ j = omega (arith, length-rows k new) in
      by_meeting (e ∙ sym (ap (met (walking w d) entry_is j) (drop_of_length-le (rows k new) l)))

  module _ (o : Key) (h : j < k) (eo : key_bits o ≡ row_key new j) where
    head_is : drop j (rows k new) ≡ record { key = key_bits o; pointer = row_pointer new j } ∷ drop (suc j) (rows k new)
    unfolding row_entry
    head_is =
        drop-rows k new j h
        ∙ ap (λ (x : List ℕ). record { key = x; pointer = row_pointer new j } ∷ drop (suc j) (rows k new)) (sym eo)

    pub stepped_before : below (key_bits b.key) (key_bits o) ≡ true
        → walking r d' ≡ othered (walking w d) j (Insert (key_bits b.key) b.pointer)
        → walking r d' ≡ stepped (walking w d) (row_entry base i) (rows k new)
    unfolding met entry_is
    stepped_before t e = by_meeting (e ∙ sym (ap (met (walking w d) entry_is j) head_is ∙ rw t))

    module _ (f : below (key_bits b.key) (key_bits o) ≡ false) (x : ℕ) (ex : x ≡ row_pointer new j) where
      pub stepped_kept : x ≡ b.pointer → walking r d' ≡ kept (walking w d) j
          → walking r d' ≡ stepped (walking w d) (row_entry base i) (rows k new)
      unfolding met entry_is
      stepped_kept s e =
          let g : eqb (row_pointer new j) b.pointer ≡ true = eq-eqb (row_pointer new j) b.pointer (sym ex ∙ s) in
          by_meeting (e ∙ sym (ap (met (walking w d) entry_is j) head_is ∙ rw (f, g)))

      pub stepped_updated : (x ≡ b.pointer → ⊥) → walking r d' ≡ othered (walking w d) (j + 1) (Update j b.pointer)
          → walking r d' ≡ stepped (walking w d) (row_entry base i) (rows k new)
      unfolding met entry_is
      stepped_updated n e =
          let g : eqb (row_pointer new j) b.pointer ≡ false =
          ne_eqb (row_pointer new j) b.pointer (λ (z : row_pointer new j ≡ b.pointer). n (ex ∙ z)) in
          by_meeting (e ∙ sym (ap (met (walking w d) entry_is j) head_is ∙ rw (f, g)))

pub ruleset stepping = (stepped_end, stepped_before, stepped_kept, stepped_updated)
