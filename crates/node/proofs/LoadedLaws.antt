-- Laws of what a page that was loaded tells (`specs/Reader.antt`).
-- In order: rows that are filled one behind the other; the table after a page was loaded.
-- Assumes nothing.
use mathlib.Core.Bool.{Bool, true, false, cond, ◌||◌}
use mathlib.Core.List.{List}
use mathlib.Core.Path.{◌≡◌, refl, sym, ap, ap₂, subst, ◌∙◌}
use Prim.Native.Nat.{ℕ, ◌+◌, ◌≤◌, ◌<◌}
use native.Mathlib.Numerals.{add-one}
use native.Mathlib.Omega.{arith}
use borrow.Author.Tests.{ne_eqb}
use lib.Dec.{eqb}
use lib.ListN.{length}
use Rattle.format.specs.Answer.{Answer}
use Rattle.format.specs.Normal.{keys}
use Rattle.format.specs.Page.{Entry, Header, check_page, count, each, entries, entry_of, page_refusal}
use Rattle.facts.proofs.AnswerLaws.{or-false}
use Rattle.facts.proofs.EntryLaws.{AreKeys, AreKeys-each, length-each}
use Rattle.facts.proofs.PageLaws.{key_of-key, length-entries}
use Rattle.rows.specs.Rows.{rows, with_row, with_rows}
use Rattle.rows.specs.declared.table.Row.{Row}
use Rattle.shape.proofs.CheckedLaws.{checked_accepted, checked_refused}
use Rattle.rows.proofs.RowsLaws.{each_snoc, length-with_rows, rows-with_rows, with_rows_snoc}
use Rattle.node.specs.Reader.{loaded}

-- ---- rows that are filled one behind the other

-- t is t₀ with f 0, f 1, .. f (i - 1) in its rows
pub record Filled (f : ℕ → Entry) (t₀ : List Row) (i : ℕ) (t : List Row) : Type 0 where
  pub held : t ≡ with_rows t₀ 0 (each i f)

pub filled_none : (f : ℕ → Entry) (t : List Row) → Filled f t 0 t
unfolding with_rows each
filled_none f t = record { held = refl }

pub filled_more : (f : ℕ → Entry) (t₀ t u : List Row) (i : ℕ) (e : Entry) → Filled f t₀ i t → e ≡ f i
    → u ≡ with_row t i e i
    → Filled f t₀ (i + 1) u
filled_more f t₀ t u i e h ee eu =
    let n : i ≡ 0 + length (each i f) = omega (arith, length-each i f) in
    record {
      held =
          eu ∙ ap₂ (λ (v : List Row) (y : Entry). with_row v i y i) h.held ee
          ∙ ap (λ (j : ℕ). with_row (with_rows t₀ 0 (each i f)) j (f i) j) n
          ∙ sym (with_rows_snoc t₀ 0 (each i f) (f i))
          ∙ ap (with_rows t₀ 0) (sym (ap (λ (j : ℕ). each j f) (add-one i) ∙ each_snoc i f));
    }

pub filled_length : (f : ℕ → Entry) (t₀ t : List Row) (i : ℕ) → Filled f t₀ i t → length t ≡ length t₀
filled_length f t₀ t i h = ap length h.held ∙ length-with_rows t₀ 0 (each i f)

pub filled_all : (f : ℕ → Entry) (t₀ t : List Row) (n i : ℕ) → Filled f t₀ i t → i ≤ n → n ≤ i
    → t ≡ with_rows t₀ 0 (each n f)
filled_all f t₀ t n i h l l' =
    let e : i ≡ n = omega arith in
    h.held ∙ ap (λ (j : ℕ). with_rows t₀ 0 (each j f)) e

-- ---- the table after a page was loaded

pub AreKeys-entries : (p : List ℕ) → AreKeys (keys (entries p))
unfolding entries entry_of
AreKeys-entries p = AreKeys-each (count p) (entry_of p) (key_of-key p)

module _ (p : List ℕ) (t : List Row) where
  pub loaded-refused : (r : ℕ) → Answer.Refused r ≡ check_page p → (r ≡ 8 → ⊥) → loaded p t ≡ t
  unfolding loaded
  loaded-refused r e h =
      let q : (page_refusal p ≡ r) × (0 < r) = checked_refused p r e in
      let x : page_refusal p ≡ 0 → ⊥ = λ z. omega (arith, q.0, q.1, z) in
      let y : page_refusal p ≡ 8 → ⊥ = λ z. h (sym q.0 ∙ z) in
      ap (λ (b : Bool). cond b (with_rows t 0 (entries p)) t)
      (or-false (eqb (page_refusal p) 0) (eqb (page_refusal p) 8) (ne_eqb (page_refusal p) 0 x) (ne_eqb (page_refusal p) 8 y))

  pub loaded-unordered : Answer.Refused 8 ≡ check_page p → loaded p t ≡ with_rows t 0 (entries p)
  unfolding loaded
  loaded-unordered e =
      ap (λ (n : ℕ). cond (eqb n 0 || eqb n 8) (with_rows t 0 (entries p)) t) (checked_refused p 8 e).0

  pub loaded-accepted : (h : Header) → Answer.Value h ≡ check_page p → loaded p t ≡ with_rows t 0 (entries p)
  unfolding loaded
  loaded-accepted h e =
      ap (λ (n : ℕ). cond (eqb n 0 || eqb n 8) (with_rows t 0 (entries p)) t) (checked_accepted p h e)

  pub length-loaded : length (loaded p t) ≡ length t
  unfolding loaded
  length-loaded = go (eqb (page_refusal p) 0 || eqb (page_refusal p) 8)
    where
      go : (b : Bool) → length (cond b (with_rows t 0 (entries p)) t) ≡ length t
      go true = length-with_rows t 0 (entries p)
      go false = refl

  -- a table with a row for each entry holds the page's entries
  module _ (h : Header) (e : Answer.Value h ≡ check_page p) (room : count p ≤ length t) where
    pub loaded-rows : rows (count p) (loaded p t) ≡ entries p
    loaded-rows =
        ap₂ rows (sym (length-entries p)) (loaded-accepted h e)
        ∙ rows-with_rows t (entries p) (AreKeys-entries p)
        (subst (λ (n : ℕ). n ≤ length t) (sym (length-entries p)) room)
