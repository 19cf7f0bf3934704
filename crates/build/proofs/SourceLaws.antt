-- Laws of where new entries come from: one whose source is a position of the base has the key of the entry there.
-- In order: `AllSourced`; the entries of one edit, of all edits; by position, in a table.
-- Assumes nothing.
use mathlib.Core.Bool.{false}
use mathlib.Core.List.{List, [], ◌∷◌, ◌++◌}
use mathlib.Core.Path.{◌≡◌, refl, sym, ap, subst, ◌∙◌}
use Prim.Native.Nat.{ℕ, zero, suc, ◌+◌, ◌-◌, ◌≤◌, ◌<◌}
use native.Mathlib.Nat.{not-suc-le-zero}
use native.Mathlib.Omega.{arith}
use lib.ListN.{length, take, drop, get_or}
use lib.Seq.{drop-cons}
use Rattle.format.specs.Edit.{Edit, any_outside, apply, made, no_entry, outside}
use Rattle.format.specs.Edit.Edit.{Insert, Update, Keep}
use Rattle.format.specs.Page.{Entry, each}
use Rattle.facts.proofs.EditLaws.{any_outside_head, any_outside_tail, outside-keep}
use Rattle.facts.proofs.EntryLaws.{get_or-each, length-each}
use Rattle.rows.specs.Rows.{row_entry, row_key, row_source, rows}
use Rattle.rows.specs.declared.table.Row.{Row}
use Rattle.rows.proofs.RowsLaws.{length-rows, rows_at}
use Rattle.apply.specs.Apply.{sources, sources_of, up_from}
use Rattle.apply.proofs.ApplyLaws.{length-sources_of}

-- each of the entries whose source is a position of b has the key there
abbrev AllSourced : List Entry → List Entry → List ℕ → Type 0
AllSourced b [] ss = Unit {0}
AllSourced b (x ∷ xs) [] = Unit {0}
AllSourced b (x ∷ xs) (s ∷ ss) = (s < length b → x.key ≡ (get_or b s no_entry).key) × AllSourced b xs ss

module _ (b : List Entry) where
  sourced_append : (xs ys : List Entry) (ss us : List ℕ) → length xs ≡ length ss → AllSourced b xs ss
      → AllSourced b ys us
      → AllSourced b (xs ++ ys) (ss ++ us)
  sourced_append [] ys [] us e h g = g
  sourced_append [] ys (s ∷ ss) us e h g = absurd (omega arith)
  sourced_append (x ∷ xs) ys [] us e h g = absurd (omega arith)
  sourced_append (x ∷ xs) ys (s ∷ ss) us e h g = (h.0, sourced_append xs ys ss us (omega arith) h.1 g)

  sourced_run : (n s : ℕ) → s + n ≤ length b → AllSourced b (take n (drop s b)) (up_from s n)
  unfolding up_from
  sourced_run zero s h = tt
  sourced_run (suc n) s h =
      subst (λ (l : List Entry). AllSourced b (take (suc n) l) (s ∷ up_from (suc s) n))
      (sym (drop-cons b s no_entry (omega arith)))
      (λ l. refl, sourced_run n (suc s) (omega arith))

  -- ---- the entries of edits

  sourced_made : (e : Edit) → length b ≤ 1023 → outside (length b) e ≡ false → AllSourced b (made b e) (sources_of e)
  unfolding made sources_of
  sourced_made (Insert k p) few o = (λ l. absurd (omega arith), tt)
  sourced_made (Update i p) few o = (λ l. refl, tt)
  sourced_made (Keep s e) few o = sourced_run (e - s) s (omega (arith, outside-keep (length b) s e o))

  sourced_apply : (es : List Edit) → length b ≤ 1023 → any_outside (length b) es ≡ false
      → AllSourced b (apply b es) (sources es)
  unfolding apply sources
  sourced_apply [] few o = tt
  sourced_apply (e ∷ es) few o =
      sourced_append (made b e) (apply b es) (sources_of e) (sources es)
      (length-sources_of b e (any_outside_head (length b) e es o))
      (sourced_made e few (any_outside_head (length b) e es o))
      (sourced_apply es few (any_outside_tail (length b) e es o))

  -- ---- by position

  sourced_at : (xs : List Entry) (ss : List ℕ) (i : ℕ) → AllSourced b xs ss → i < length xs → i < length ss
      → get_or ss i 0 < length b
      → (get_or xs i no_entry).key ≡ (get_or b (get_or ss i 0) no_entry).key
  sourced_at [] ss i h l k s = absurd (not-suc-le-zero l)
  sourced_at (x ∷ xs) [] i h l k s = absurd (not-suc-le-zero k)
  sourced_at (x ∷ xs) (r ∷ ss) zero h l k s = h.0 s
  sourced_at (x ∷ xs) (r ∷ ss) (suc i) h l k s = sourced_at xs ss i h.1 (omega arith) (omega arith) s

  -- of rows that hold the new entries and their sources
  pub sourced_rows : (es : List Edit) (t : List Row) (n : ℕ) → length b ≤ 1023 → any_outside (length b) es ≡ false
      → rows n t ≡ apply b es
      → each n (row_source t) ≡ sources es
      → (i : ℕ) → i < n → row_source t i < length b
      → row_key t i ≡ (get_or b (row_source t i) no_entry).key
  unfolding row_entry
  sourced_rows es t n few o er es' i l s =
      let k : AllSourced b (rows n t) (each n (row_source t)) =
      subst (λ (x : List Entry). AllSourced b x (each n (row_source t))) (sym er)
      (subst (AllSourced b (apply b es)) (sym es') (sourced_apply es few o)) in
      let g : get_or (each n (row_source t)) i 0 ≡ row_source t i = get_or-each n (row_source t) i 0 l in
      ap (λ (x : Entry). x.key) (sym (rows_at n t i no_entry l))
      ∙ sourced_at (rows n t) (each n (row_source t)) i k (omega (arith, length-rows n t)) (omega (arith, length-each n (row_source t)))
      (subst (λ (j : ℕ). j < length b) (sym g) s)
      ∙ ap (λ (j : ℕ). (get_or b j no_entry).key) g
