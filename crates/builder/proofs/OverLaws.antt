-- Laws of rows that a base page has.
-- In order: `kept`; `base_bits`; runs of kept rows, and what they add to the bits; no base; a base that is what it is
-- said to be.
-- Assumes nothing.
use mathlib.Core.Bool.{Bool, true, false, ◌&&◌, not, false≢true}
use mathlib.Core.List.{List, [], ◌++◌, append_assoc}
use mathlib.Core.Path.{◌≡◌, refl, sym, ap, ap₂, subst, ◌∙◌}
use Prim.Native.Nat.{ℕ, suc, ◌+◌, ◌-◌, ◌*◌, ◌≤◌, ◌<◌}
use native.Mathlib.Omega.{arith}
use borrow.Author.Tests.{eq-eqb, ne_eqb, lt-ltb, le-ltb, eqb-true, ltb-true, leb-true, not-false}
use lib.Dec.{eqb, ltb, leb}
use lib.ListN.{length, take, drop, length-drop}
use lib.Seq.{paste, take-add, drop-drop}
use Rattle.std.specs.Prelude.{⊤, Result}
use Rattle.format.specs.Bits.{bits_of}
use Rattle.format.specs.Key.{separator_length}
use Rattle.format.specs.Page.{end_of, start_of}
use Rattle.format.specs.Normal.{sum}
use Rattle.facts.proofs.BitsLaws.{length-bits_of}
use Rattle.facts.proofs.PageLaws.{start_of-suc}
use Rattle.facts.proofs.StoredLaws.{sum-take-suc, sum-take-le}
use Rattle.format.specs.declared.refusal.Refusal.{Refusal}
use Rattle.bit_copy.specs.Calls.{Copied}
use Rattle.parts.proofs.BitLaws.{copied}
use Rattle.rows.specs.declared.table.Row.{Row}
use Rattle.rows.specs.Rows.{row_key, row_source}
use Rattle.parts.specs.Parts.{left_out, row_lengths}
use Rattle.builder.specs.Writes.{own_bits, rows_bits, Pushed}
use Rattle.builder.specs.Over.{kept, base_bits, over_bits, Run}
use Rattle.parts.proofs.RowLaws.{left_out_in, length-row_lengths, row_lengths_at}
use Rattle.builder.proofs.RowLaws.{rows_bits_next}
use Rattle.builder.proofs.PushLaws.{pushed_bits, pushed_more}

-- ---- kept rows

-- four tests that hold, each by itself
pub all_four : (a b c d : Bool) → (a && b && c && d) ≡ true → (a ≡ true) × (b ≡ true) × (c ≡ true) × (d ≡ true)
all_four true true true true e = (refl, refl, refl, refl)
all_four true true true false e = absurd (false≢true e)
all_four true true false d e = absurd (false≢true e)
all_four true false c d e = absurd (false≢true e)
all_four false b c d e = absurd (false≢true e)

module _ (base : List ℕ) (bn bm : ℕ) (t : List Row) (m q i : ℕ) where
  -- what a kept row is
  module _ (k : kept base bn bm t m q i ≡ true) where
    tests : (ltb i m ≡ true) × (ltb (row_source t i) bm ≡ true)
        × (eqb (end_of base (row_source t i)) (start_of base (row_source t i) + (separator_length (row_key t i) - q)) ≡ true)
        × (leb (8 * (10 + 2 * bn) + (q + end_of base (row_source t i))) (8 * length base) ≡ true)
    unfolding kept
    tests =
        all_four (ltb i m) (ltb (row_source t i) bm)
        (eqb (end_of base (row_source t i)) (start_of base (row_source t i) + (separator_length (row_key t i) - q)))
        (leb (8 * (10 + 2 * bn) + (q + end_of base (row_source t i))) (8 * length base)) k

    pub kept-compressed : i < m
    kept-compressed = ltb-true i m tests.0

    pub kept_source : row_source t i < bm
    kept_source = ltb-true (row_source t i) bm tests.1

    pub kept-end : end_of base (row_source t i) ≡ start_of base (row_source t i) + (separator_length (row_key t i) - q)
    kept-end =
        eqb-true (end_of base (row_source t i)) (start_of base (row_source t i) + (separator_length (row_key t i) - q))
        tests.2

    pub kept-inside : 8 * (10 + 2 * bn) + (q + end_of base (row_source t i)) ≤ 8 * length base
    kept-inside = leb-true (8 * (10 + 2 * bn) + (q + end_of base (row_source t i))) (8 * length base) tests.3

    pub over_bits-kept : over_bits base bn bm t m q i
        ≡ base_bits base bn q (start_of base (row_source t i)) (separator_length (row_key t i) - q)
    unfolding over_bits
    over_bits-kept = rw k

  pub over_bits_own : kept base bn bm t m q i ≡ false → over_bits base bn bm t m q i ≡ own_bits t m q i
  unfolding over_bits
  over_bits_own k = rw k

  -- the tests of `is_kept`, in its order
  pub kept_plain : m ≤ i → false ≡ kept base bn bm t m q i
  unfolding kept
  kept_plain h = rw (le-ltb i m h)

  pub kept_no_source : (s : ℕ) → i < m → s ≡ row_source t i → bm ≤ s → false ≡ kept base bn bm t m q i
  unfolding kept
  kept_no_source s h e l = rw (lt-ltb i m h, le-ltb (row_source t i) bm (subst (λ (x : ℕ). bm ≤ x) e l))

  module _ (s end a x y : ℕ) (k : List ℕ) (h : i < m) (e : s ≡ row_source t i) (l : s < bm) (ee : end ≡ end_of base s)
      (ea : a ≡ start_of base s) (ex : x ≡ y - q) (ey : y ≡ separator_length k) (ek : k ≡ row_key t i) where
    is_end : end ≡ end_of base (row_source t i)
    is_end = ee ∙ ap (end_of base) e

    is_sum : a + x ≡ start_of base (row_source t i) + (separator_length (row_key t i) - q)
    is_sum = ap₂ ◌+◌ (ea ∙ ap (start_of base) e) (ex ∙ ap (λ (z : ℕ). z - q) (ey ∙ ap separator_length ek))

    below_bm : row_source t i < bm
    below_bm = subst (λ (z : ℕ). z < bm) e l

    pub kept_other_length : (end ≡ a + x → ⊥) → false ≡ kept base bn bm t m q i
    unfolding kept
    kept_other_length ne =
        rw (
          lt-ltb i m h,
          lt-ltb (row_source t i) bm below_bm,
          ne_eqb (end_of base (row_source t i)) (start_of base (row_source t i) + (separator_length (row_key t i) - q))
              (λ z. ne (is_end ∙ z ∙ sym is_sum)),
        )

    pub kept-last : end ≡ a + x → leb (8 * (10 + 2 * bn) + (q + end)) (8 * length base) ≡ kept base bn bm t m q i
    unfolding kept
    kept-last z =
        rw (
          lt-ltb i m h,
          lt-ltb (row_source t i) bm below_bm,
          eq-eqb (end_of base (row_source t i)) (start_of base (row_source t i) + (separator_length (row_key t i) - q))
              (sym is_end ∙ z ∙ is_sum),
          ← is_end,
        )

-- ---- runs

-- so many bits, and those behind them
BaseBits-add : (base : List ℕ) (bn q a x y : ℕ)
    → base_bits base bn q a (x + y) ≡ base_bits base bn q a x ++ base_bits base bn q (a + x) y
unfolding base_bits
BaseBits-add base bn q a x y =
    let d : ℕ = 8 * (10 + 2 * bn) + (q + a) in
    let e : d + x ≡ 8 * (10 + 2 * bn) + (q + (a + x)) = omega arith in
    take-add x y (drop d (bits_of base))
    ∙ ap (λ (l : List ℕ). take x (drop d (bits_of base)) ++ take y l)
    (drop-drop x d (bits_of base) ∙ ap (λ (z : ℕ). drop z (bits_of base)) e)

BaseBits-none : (base : List ℕ) (bn q a : ℕ) → base_bits base bn q a 0 ≡ []
unfolding base_bits
BaseBits-none base bn q a = refl

module _ (base : List ℕ) (bn bm : ℕ) (t : List Row) (n m q i j : ℕ) where
  -- no row yet, before one that is kept
  run_start : i < n → j ≡ row_source t i → kept base bn bm t m q i ≡ true → Run base bn bm t n m q i j i
  run_start h ej k =
      let z : i - i ≡ 0 = omega arith in
      let y : j + (i - i) ≡ j = omega arith in
      let sj : start_of base j ≡ start_of base (row_source t i) = ap (start_of base) ej in
      let n0 : start_of base j - start_of base j ≡ 0 = omega arith in
      record {
        from = omega arith;
        most = omega arith;
        few = omega (arith, kept_source base bn bm t m q i k);
        rising = rw y (omega arith);
        inside = rw y (omega (arith, kept-inside base bn bm t m q i k, kept-end base bn bm t m q i k));
        ends = rw y (omega arith);
        stored =
            rw (y, n0)
            (sym (ap (λ (l : List ℕ). l ++ rows_bits (over_bits base bn bm t m q) (n - i) i)
            (BaseBits-none base bn q (start_of base j))));
      }

  -- one row more
  run_next : (e : ℕ) → Run base bn bm t n m q i j e → e < n → j + (e - i) ≡ row_source t e
      → kept base bn bm t m q e ≡ true
      → Run base bn bm t n m q i j (e + 1)
  run_next e r h es k =
      let f : ℕ → List ℕ = over_bits base bn bm t m q in
      let s : ℕ = row_source t e in
      let a : ℕ = start_of base j in
      let len : ℕ = separator_length (row_key t e) - q in
      let s1 : j + ((e + 1) - i) ≡ suc s = omega (arith, r.from) in
      let next : start_of base (j + ((e + 1) - i)) ≡ end_of base s = ap (start_of base) s1 ∙ start_of-suc base s in
      let here : start_of base (j + (e - i)) ≡ start_of base s = ap (start_of base) es in
      let end : end_of base s ≡ start_of base s + len = kept-end base bn bm t m q e k in
      let e1 : e + 1 ≡ suc e = omega arith in
      let ls : List ℕ = row_lengths n t m q in
      let le : e < length ls = omega (arith, length-row_lengths n t m q) in
      let g : sum (take (suc e) ls) ≡ sum (take e ls) + len =
      sum-take-suc e ls le
      ∙ ap (λ (x : ℕ). sum (take e ls) + x) (row_lengths_at n t m q e h
      ∙ ap (λ (x : ℕ). separator_length (row_key t e) - x)
      (sym (left_out_in m q e (kept-compressed base bn bm t m q e k)))) in
      let x : ℕ = start_of base (j + (e - i)) - a in
      let w : start_of base (j + ((e + 1) - i)) - a ≡ x + len = omega (arith, r.rising) in
      let ax : a + x ≡ start_of base s = omega (arith, r.rising) in
      record {
        from = omega (arith, r.from);
        most = omega arith;
        few = omega (arith, kept_source base bn bm t m q e k);
        rising = omega (arith, r.rising);
        inside = omega (arith, kept-inside base bn bm t m q e k);
        ends = ap (λ (y : ℕ). sum (take y ls)) e1 ∙ g ∙ (omega (arith, r.ends));
        stored =
            r.stored
            ∙ ap (λ (l : List ℕ). base_bits base bn q a x ++ l) (rows_bits_next f n e h
            ∙ ap (λ (l : List ℕ). l ++ rows_bits f (n - suc e) (suc e)) (over_bits-kept base bn bm t m q e k))
            ∙ sym (append_assoc (base_bits base bn q a x) (base_bits base bn q (start_of base s) len)
            (rows_bits f (n - suc e) (suc e)))
            ∙ ap₂ (λ (l : List ℕ) (y : ℕ). l ++ rows_bits f (n - y) y)
            (ap (λ (y : ℕ). base_bits base bn q a x ++ base_bits base bn q y len) (sym ax)
            ∙ sym (BaseBits-add base bn q a x len) ∙ ap (base_bits base bn q a) (sym w)) (sym e1);
      }

  -- the row that the run begins with
  pub run-one : i < n → j ≡ row_source t i → kept base bn bm t m q i ≡ true → Run base bn bm t n m q i j (i + 1)
  run-one h ej k =
      let z : j + (i - i) ≡ row_source t i = omega arith in
      run_next i (run_start h ej k) h z k

  -- and one behind it
  pub run_more : (e s : ℕ) (b : Bool) → Run base bn bm t n m q i j e → e < n → s ≡ row_source t e → s ≡ j + (e - i)
      → b ≡ kept base bn bm t m q e
      → not b ≡ false
      → Run base bn bm t n m q i j (e + 1)
  run_more e s b r h es ej eb tb = run_next e r h (sym ej ∙ es) (sym eb ∙ not-false b tb)

  module _ (e : ℕ) (r : Run base bn bm t n m q i j e) (size : ℕ) (part : List ℕ) (bit : ℕ)
      (s : Pushed (over_bits base bn bm t m q) t n m q size part bit i) where
    next_end : bit + (start_of base (j + (e - i)) - start_of base j) ≡ sum (take e (row_lengths n t m q))
    next_end = omega (arith, s.is_sum, r.ends)

    pub run_to : q + bit + (start_of base (j + (e - i)) - start_of base j) ≤ 8 * length part
    run_to = omega (arith, next_end, sum-take-le e (row_lengths n t m q), s.room, s.len)

    pub run_from : 8 * (10 + 2 * bn) + (q + start_of base j) + (start_of base (j + (e - i)) - start_of base j)
        ≤ 8 * length base
    run_from = omega (arith, r.rising, r.inside)

    -- the run is moved
    pub pushed_run : (part' : List ℕ) (bit' i' : ℕ) → i' ≡ i + (e - i)
        → bit' ≡ bit + (start_of base (j + (e - i)) - start_of base j)
        → bits_of part'
        ≡ paste (bits_of part) (q + bit) (drop (8 * (10 + 2 * bn) + (q + start_of base j)) (bits_of base))
        (start_of base (j + (e - i)) - start_of base j)
        → length part' ≡ length part
        → Pushed (over_bits base bn bm t m q) t n m q size part' bit' i'
    unfolding base_bits
    pushed_run part' bit' i' ei eb ep el =
        let x : ℕ = start_of base (j + (e - i)) - start_of base j in
        let src : List ℕ = drop (8 * (10 + 2 * bn) + (q + start_of base j)) (bits_of base) in
        let lx : x ≤ length src =
        omega (
          arith,
          length-drop (8 * (10 + 2 * bn) + (q + start_of base j)) (bits_of base),
          length-bits_of base,
          run_from,
        ) in
        let z : i' ≡ e = omega (arith, r.from) in
        pushed_bits (over_bits base bn bm t m q) t n m q size part bit i s part' bit' i' e x src r.most z eb
        next_end lx (sym r.stored) ep el

-- ---- what `is_kept` answers

module _ (base : List ℕ) (bn bm : ℕ) (t : List Row) (m q i : ℕ) (b : Bool) (e : b ≡ kept base bn bm t m q i) where
  pub kept-true : b ≡ true → kept base bn bm t m q i ≡ true
  kept-true h = sym e ∙ h

  -- a row that is not kept, from its own key
  pub pushed_own : (n size : ℕ) (part : List ℕ) (bit : ℕ) → Pushed (over_bits base bn bm t m q) t n m q size part bit i
      → b ≡ false
      → (part' : List ℕ) (bit' i' : ℕ) (k : List ℕ) → i < n → k ≡ row_key t i
      → i' ≡ i + 1
      → bit' ≡ bit + (separator_length k - left_out m q i)
      → bits_of part'
      ≡ paste (bits_of part) (q + bit) (drop (left_out m q i) k) (separator_length k - left_out m q i)
      → length part' ≡ length part
      → Pushed (over_bits base bn bm t m q) t n m q size part' bit' i'
  pushed_own n size part bit s f part' bit' i' k h ek =
      pushed_more (over_bits base bn bm t m q) t n m q size part bit i s part' bit' i' k h
      (over_bits_own base bn bm t m q i (sym e ∙ f)) ek

-- ---- a run is moved

module _ (base : List ℕ) (bn q j k h f g x : ℕ) (eh : h ≡ 8 * (10 + 2 * bn)) (ef : f ≡ start_of base j)
    (eg : g ≡ start_of base (j + k)) (ex : x ≡ g - f) where
  moved_length : x ≡ start_of base (j + k) - start_of base j
  moved_length = ex ∙ ap₂ ◌-◌ eg ef

  moved_start : h + (q + f) ≡ 8 * (10 + 2 * bn) + (q + start_of base j)
  moved_start = ap₂ (λ (a b : ℕ). a + (q + b)) eh ef

  pub moved : (d d' : List ℕ) (at : ℕ) (r : Result ⊤ Refusal) → Copied d at base (h + (q + f)) x r d'
      → at + (start_of base (j + k) - start_of base j) ≤ 8 * length d
      → 8 * (10 + 2 * bn) + (q + start_of base j) + (start_of base (j + k) - start_of base j) ≤ 8 * length base
      → bits_of d'
      ≡ paste (bits_of d) at (drop (8 * (10 + 2 * bn) + (q + start_of base j)) (bits_of base))
      (start_of base (j + k) - start_of base j)
  moved d d' at r c hd hb =
      copied d at base (h + (q + f)) x r d' c (omega (arith, moved_length))
      (omega (arith, moved_length))
      ∙ ap₂ (λ (a y : ℕ). paste (bits_of d) at (drop a (bits_of base)) y) moved_start moved_length

-- ---- no base

pub over_bits-none : (base : List ℕ) (bn : ℕ) (t : List Row) (m q i : ℕ) → over_bits base bn 0 t m q i ≡ own_bits t m q i
over_bits-none base bn t m q i = go (kept base bn 0 t m q i) refl
  where
    go : (b : Bool) → kept base bn 0 t m q i ≡ b → over_bits base bn 0 t m q i ≡ own_bits t m q i
    go true k = absurd (omega (arith, kept_source base bn 0 t m q i k))
    go false k = over_bits_own base bn 0 t m q i k
