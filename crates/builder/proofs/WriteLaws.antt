-- Laws of what the page writer answers.
-- In order: whether a page can hold the rows, from the tests; the answer; the page of the rows' own bits; with a base;
-- the laws that callers cite.
-- Assumes nothing.
use mathlib.Core.Bool.{Bool, true, false, ◌&&◌, cond, not}
use mathlib.Core.List.{List, ◌++◌}
use mathlib.Core.Path.{◌≡◌, refl, sym, ap, ap₂, subst, ◌∙◌}
use Prim.Native.Nat.{ℕ, ◌*◌, ◌-◌, ◌≤◌, ◌<◌}
use native.Mathlib.Omega.{arith}
use native.Mathlib.Decide.{dec_le}
use borrow.Author.Tests.{eq-eqb, ne_eqb, lt-ltb, le-ltb, le-leb, lt-leb, ltb-true, leb-true, leb-false, not-true, not-false}
use lib.Dec.{eqb, ltb, leb}
use Rattle.std.proofs.Math.Bool.{and_assoc, and-false}
use lib.ListN.{length, take}
use Rattle.format.specs.Bits.{le, pack}
use Rattle.format.specs.Page.{Entry, body_bytes}
use Rattle.format.specs.Normal.{choice, fits, keys, normal_page, page_under, pointers, running}
use Rattle.format.specs.Normal.{stored_lengths, sum, words}
use Rattle.facts.proofs.ChoiceLaws.{choice_permitted, fits-true, permitted_shared}
use Rattle.facts.proofs.EntryLaws.{length-keys}
use Rattle.facts.proofs.StoredLaws.{shared_by_all_bound}
use Rattle.rows.specs.declared.table.Row.{Row}
use Rattle.rows.specs.Rows.{rows}
use Rattle.rows.proofs.RowsLaws.{length-rows}
use Rattle.parts.proofs.PartLaws.{stored_sum_in}
use Rattle.parts.specs.Parts.{stored_sum, row_keys, row_lengths, header_bytes}
use Rattle.builder.specs.Writes.{own_bits, row_bits, laid_out, fitting, writable, Wrote}
use Rattle.builder.specs.Over.{usable, over_bits, page_over}
use Rattle.builder.proofs.RowLaws.{row_bits_own, rows_bits_same}
use Rattle.builder.proofs.OverLaws.{all_four, over_bits-none}

-- ---- whether a page can hold the rows

module _ (t : List Row) (n m q : ℕ) where
  pub no_row : n < 1 → fitting t n m q ≡ false
  unfolding fitting
  no_row h = rw (le-ltb 0 n (omega arith))

  pub no_prefix : 1 ≤ n → 256 < q → fitting t n m q ≡ false
  unfolding fitting
  no_prefix g h = rw (lt-ltb 0 n (omega arith), lt-leb q 256 h)

  no_room : 1 ≤ n → q ≤ 256 → 4086 < body_bytes n q (sum (row_lengths n t m q)) → fitting t n m q ≡ false
  unfolding fitting
  no_room g h l =
      let b : ℕ = body_bytes n q (sum (row_lengths n t m q)) in
      rw (lt-ltb 0 n (omega arith), le-leb q 256 h, lt-leb b 4086 l)

  pub many : 1 ≤ n → q ≤ 256 → 681 < n → fitting t n m q ≡ false
  unfolding body_bytes
  many g h l = no_room g h (omega arith)

  pub fitted : 1 ≤ n → q ≤ 256 → body_bytes n q (sum (row_lengths n t m q)) ≤ 4086 → fitting t n m q ≡ true
  unfolding fitting
  fitted g h l =
      let b : ℕ = body_bytes n q (sum (row_lengths n t m q)) in
      rw (lt-ltb 0 n (omega arith), le-leb q 256 h, le-leb b 4086 l)

  -- what the test of the body tells, of the sum that the code has
  module _ (s : ℕ) (r : Bool) (es : s ≡ stored_sum t n m q) (er : r ≡ leb (body_bytes n q s) 4086) where
    body_is : n ≤ 681 → r ≡ leb (body_bytes n q (sum (row_lengths n t m q))) 4086
    body_is k = er ∙ ap (λ (x : ℕ). leb (body_bytes n q x) 4086) (es ∙ stored_sum_in t n m q k)

    pub long : 1 ≤ n → q ≤ 256 → not r ≡ true → fitting t n m q ≡ false
    long g h f = go (dec_le n 681)
      where
        b : ℕ
        b = body_bytes n q (sum (row_lengths n t m q))

        go : Dec (n ≤ 681) → fitting t n m q ≡ false
        go (yes k) = no_room g h (leb-false b 4086 (sym (body_is k) ∙ not-true r f))
        go (no k) = many g h (omega arith)

    pub few : not r ≡ false → n ≤ 681
    unfolding body_bytes
    few f = omega (arith, leb-true (body_bytes n q s) 4086 (sym er ∙ not-false r f))

    pub room : not r ≡ false → body_bytes n q (sum (row_lengths n t m q)) ≤ 4086
    room f = leb-true (body_bytes n q (sum (row_lengths n t m q))) 4086 (sym (body_is (few f)) ∙ not-false r f)

-- ---- the answer

module _ (out : List ℕ) (t : List Row) (n m q : ℕ) (page : List ℕ) where
  unchanged : writable out t n m q ≡ false → Wrote out t n m q page false out
  unchanged e = record { answer = sym e; written = sym (ap (λ (b : Bool). cond b page out) e) }

  is_writable : writable out t n m q ≡ (eqb (length out) 4096 && fitting t n m q)
  unfolding writable fitting
  is_writable =
      let b : Bool = leb (body_bytes n q (sum (row_lengths n t m q))) 4086 in
      ap (λ (x : Bool). x && b) (and_assoc (eqb (length out) 4096) (ltb 0 n) (leb q 256))
      ∙ and_assoc (eqb (length out) 4096) (ltb 0 n && leb q 256) b

  pub no_page : (length out ≡ 4096 → ⊥) → Wrote out t n m q page false out
  no_page h = unchanged (is_writable ∙ ap (λ (b : Bool). b && fitting t n m q) (ne_eqb (length out) 4096 h))

  pub no_rows : fitting t n m q ≡ false → Wrote out t n m q page false out
  no_rows f = unchanged (is_writable ∙ ap (λ (b : Bool). eqb (length out) 4096 && b) f ∙ and-false (eqb (length out) 4096))

  writable_room : length out ≡ 4096 → 1 ≤ n → q ≤ 256 → body_bytes n q (sum (row_lengths n t m q)) ≤ 4086
      → writable out t n m q ≡ true
  writable_room e g h l = is_writable ∙ ap₂ ◌&&◌ (eq-eqb (length out) 4096 e) (fitted t n m q g h l)

  pub done : (after : List ℕ) → length out ≡ 4096 → 1 ≤ n → q ≤ 256
      → body_bytes n q (sum (row_lengths n t m q)) ≤ 4086
      → after ≡ page
      → Wrote out t n m q page true after
  done after e g h l ea =
      let w : writable out t n m q ≡ true = writable_room e g h l in
      record { answer = sym w; written = ea ∙ sym (ap (λ (b : Bool). cond b page out) w) }

-- where it can be written there is a row
writable_row : (out : List ℕ) (t : List Row) (n m q : ℕ) → writable out t n m q ≡ true → 1 ≤ n
unfolding writable
writable_row out t n m q e =
    ltb-true 0 n (all_four (eqb (length out) 4096) (ltb 0 n) (leb q 256)
    (leb (body_bytes n q (sum (row_lengths n t m q))) 4086) e).1

-- ---- the page of the rows' own bits

pub laid_out_same : (number : ℕ) (t : List Row) (n m q : ℕ) (f g : ℕ → List ℕ) → ((i : ℕ) → i < n → f i ≡ g i)
    → laid_out number t n m q f ≡ laid_out number t n m q g
unfolding laid_out row_bits
laid_out_same number t n m q f g e = rw (rows_bits_same f g n 0 n (omega arith) e)

pub laid_out_own : (number : ℕ) (t : List Row) (n m q : ℕ) → 1 ≤ n
    → laid_out number t n m q (own_bits t m q) ≡ page_under number (rows n t) m q
unfolding laid_out header_bytes page_under row_lengths row_keys
laid_out_own number t n m q h =
    let ks : List (List ℕ) = keys (rows n t) in
    ap₂ (λ (x : ℕ) (b : List ℕ). le 4 number ++ le 2 x ++ le 2 m ++ le 2 q ++ words 2 (running 0 (stored_lengths m q ks))
    ++ pack (4086 - 6 * x) b ++ words 4 (pointers (rows n t)))
    (sym (length-rows n t)) (row_bits_own t n m q h)

-- a call that is to write one page writes any other that is the same where it can be written
pub wrote_same : (out : List ℕ) (t : List Row) (n m q : ℕ) (page page' : List ℕ) (r : Bool) (after : List ℕ)
    → Wrote out t n m q page r after
    → (1 ≤ n → page ≡ page')
    → Wrote out t n m q page' r after
wrote_same out t n m q page page' r after w e =
    record { answer = w.answer; written = w.written ∙ go (writable out t n m q) refl }
  where
    go : (b : Bool) → writable out t n m q ≡ b → cond b page out ≡ cond b page' out
    go true p = e (writable_row out t n m q p)
    go false p = refl

-- no base: each row has its own bits
pub wrote_none : (out base : List ℕ) (t : List Row) (number bn n m q : ℕ) (r : Bool) (after : List ℕ)
    → Wrote out t n m q (laid_out number t n m q (over_bits base bn 0 t m q)) r after
    → Wrote out t n m q (page_under number (rows n t) m q) r after
wrote_none out base t number bn n m q r after w =
    wrote_same out t n m q (laid_out number t n m q (over_bits base bn 0 t m q)) (page_under number (rows n t) m q)
    r after w
    (λ h. laid_out_same number t n m q (over_bits base bn 0 t m q) (own_bits t m q) (λ i g. over_bits-none base bn t m q i)
    ∙ laid_out_own number t n m q h)

-- ---- with a base

-- its tests: another prefix, a base that is too long, one of too many entries, and the last
module _ (base : List ℕ) (bn bm bq q : ℕ) where
  pub other_prefix : (bq ≡ q → ⊥) → usable base bn bm bq q ≡ false
  unfolding usable
  other_prefix h = rw (ne_eqb bq q h)

  pub long_base : bq ≡ q → 4096 < length base → usable base bn bm bq q ≡ false
  unfolding usable
  long_base e l = rw (eq-eqb bq q e, lt-leb (length base) 4096 l)

  pub many_entries : bq ≡ q → length base ≤ 4096 → 681 < bn → usable base bn bm bq q ≡ false
  unfolding usable
  many_entries e l h = rw (eq-eqb bq q e, le-leb (length base) 4096 l, lt-leb bn 681 h)

  pub many_compressed : bq ≡ q → length base ≤ 4096 → bn ≤ 681 → 681 < bm → usable base bn bm bq q ≡ false
  unfolding usable
  many_compressed e l h k = rw (eq-eqb bq q e, le-leb (length base) 4096 l, le-leb bn 681 h, lt-leb bm 681 k)

  pub helps : bq ≡ q → length base ≤ 4096 → bn ≤ 681 → bm ≤ 681 → usable base bn bm bq q ≡ true
  unfolding usable
  helps e l h k = rw (eq-eqb bq q e, le-leb (length base) 4096 l, le-leb bn 681 h, le-leb bm 681 k)

module _ (out base : List ℕ) (t : List Row) (number bn bm bq n m q : ℕ) (r : Bool) (after : List ℕ) where
  pub wrote_over : usable base bn bm bq q ≡ true
      → Wrote out t n m q (laid_out number t n m q (over_bits base bn bm t m q)) r after
      → Wrote out t n m q (page_over number base bn bm bq t n m q) r after
  unfolding page_over
  wrote_over h w = subst (λ (p : List ℕ). Wrote out t n m q p r after) (rw h) w

  pub wrote_alone : usable base bn bm bq q ≡ false → Wrote out t n m q (page_under number (rows n t) m q) r after
      → Wrote out t n m q (page_over number base bn bm bq t n m q) r after
  unfolding page_over
  wrote_alone h w = subst (λ (p : List ℕ). Wrote out t n m q p r after) (rw h) w

-- ---- for callers

-- The page of rows that fit, under the normal page's choice, can be written ..
pub writable_normal : (out : List ℕ) (t : List Row) (n m q : ℕ) → length out ≡ 4096 → 1 ≤ n → fits (rows n t) ≡ true
    → m ≡ (choice (keys (rows n t))).m
    → q ≡ (choice (keys (rows n t))).q
    → writable out t n m q ≡ true
unfolding row_lengths row_keys
writable_normal out t n m q l h f em eq =
    let es : List Entry = rows n t in
    let ks : List (List ℕ) = keys es in
    let c : ℕ = (choice ks).m in
    let p : ℕ = (choice ks).q in
    let le : 1 ≤ length es = omega (arith, length-rows n t) in
    let b : body_bytes (length es) p (sum (stored_lengths c p ks)) ≤ 4086 = fits-true es le f in
    let r : body_bytes n q (sum (stored_lengths m q ks)) ≤ 4086 =
    subst (λ (x : ℕ). x ≤ 4086)
    (ap (λ (x : ℕ). body_bytes x p (sum (stored_lengths c p ks))) (length-rows n t)
    ∙ ap₂ (λ (x y : ℕ). body_bytes n y (sum (stored_lengths x y ks))) (sym em) (sym eq)) b in
    let bound : q ≤ 256 =
    omega (
      arith,
      permitted_shared ks c p (choice_permitted ks (omega (arith, length-keys es))),
      shared_by_all_bound (take c ks),
    ) in
    writable_room out t n m q out l h bound r

-- .. and is the normal page: so `write_page` answers true and leaves it
pub wrote_normal : (out : List ℕ) (t : List Row) (number n m q : ℕ) (r : Bool) (after : List ℕ) → length out ≡ 4096 → 1 ≤ n
    → fits (rows n t) ≡ true
    → m ≡ (choice (keys (rows n t))).m
    → q ≡ (choice (keys (rows n t))).q
    → Wrote out t n m q (page_under number (rows n t) m q) r after
    → (r ≡ true) × (after ≡ normal_page number (rows n t))
unfolding normal_page
wrote_normal out t number n m q r after l h f em eq w =
    let ok : writable out t n m q ≡ true = writable_normal out t n m q l h f em eq in (
      w.answer ∙ ok,
      w.written ∙ ap (λ (b : Bool). cond b (page_under number (rows n t) m q) out) ok
          ∙ ap₂ (λ (x y : ℕ). page_under number (rows n t) x y) em eq,
    )
