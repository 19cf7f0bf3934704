-- Laws of the pass that lays items into a table (`specs/Apply.antt`), as the code makes it.
-- In order: one item more (`lay_one`), and one behind the other (`pass`); a run of the base's rows (`Running`); one
-- edit (`items_of`); all edits of a record (`Applying`).
-- Not here: what the pass leaves of items (`ApplyLaws`).
-- Assumes nothing.
use mathlib.Core.Bool.{Bool, true, false, not, false≢true}
use mathlib.Core.List.{List, [], ◌∷◌, ◌++◌}
use mathlib.Core.Path.{◌≡◌, refl, sym, ap, ap₂, subst, ◌∙◌}
use Prim.Native.Nat.{ℕ, suc, ◌+◌, ◌-◌, ◌*◌, ◌≤◌, ◌<◌}
use native.Mathlib.Numerals.{add-one}
use native.Mathlib.Omega.{arith}
use borrow.Author.Tests.{not-true, not-false, eq-eqb, ne_eqb}
use lib.Dec.{eqb}
use lib.ListN.{length, replicate, drop}
use Rattle.format.specs.Bits.{bits_of}
use Rattle.format.specs.Build.{edits_of}
use Rattle.format.specs.Edit.{Edit, edit_bits, field_bits, read_record}
use Rattle.format.specs.Key.{below}
use Rattle.facts.proofs.RecordLaws.{kind}
use Rattle.keys.specs.declared.Key.{Key}
use Rattle.keys.specs.Keys.{key_bits}
use Rattle.std.specs.Prelude.{Option as Maybe, Some, None, IsNone}
use Rattle.rows.specs.Rows.{row_key, row_pointer, row_entry, with_row}
use Rattle.rows.specs.declared.table.Row.{Row}
use Rattle.apply.specs.declared.State.{State}
use Rattle.edits.specs.declared.edit.Edit.{Edit as CodeEdit}
use Rattle.edits.specs.declared.edit.Edit.TheVariants.{Insert, Update, KeepChunk}
use Rattle.edits.specs.Record.{edit_meant, reach_of, formed_in, count_of, kind_at, edit_at}
use Rattle.apply.specs.Apply.{Item, Laying, Left, item_of, laying, starting, follows, lay_one, pass, run, items_of, items_in}
use Rattle.edits.proofs.ReadingLaws.{
  Ahead,
  ahead,
  ahead_start,
  ahead_all,
  ahead_next,
  ahead_cons,
  ahead_none,
  field-size,
  size-fields,
}

-- ---- one item more

pub follows-first : (n : ℕ) (k j : List ℕ) → n ≡ 0 → eqb n 0 ≡ follows n k j
unfolding follows
follows-first n k j e = rw (eq-eqb n 0 e)

pub follows_later : (n : ℕ) (k j : List ℕ) (b : Bool) → (n ≡ 0 → ⊥) → b ≡ below k j → b ≡ follows n k j
unfolding follows
follows_later n k j b e q = rw (ne_eqb n 0 e) q

module _ (l : Laying) (x : Item) where
  pub lay_one_next : l.rising ≡ true → follows l.count l.last x.entry.key ≡ true
      → lay_one l x ≡ record {
        table = with_row l.table l.count x.entry x.source;
        count = l.count + 1;
        rising = true;
        last = x.entry.key;
      }
  unfolding lay_one
  lay_one_next u f = rw (u, f)

  pub lay_one_stop : l.rising ≡ true → follows l.count l.last x.entry.key ≡ false
      → lay_one l x ≡ record { table = l.table; count = l.count; rising = false; last = x.entry.key }
  unfolding lay_one
  lay_one_stop u f = rw (u, f)

  lay_one_fallen : l.rising ≡ false → lay_one l x ≡ l
  unfolding lay_one
  lay_one_fallen u = rw u

-- once an item did not rise, nothing changes
pub pass_fallen : (l : Laying) (xs : List Item) → l.rising ≡ false → pass l xs ≡ l
unfolding pass
pass_fallen l [] u = refl
pass_fallen l (x ∷ xs) u = ap (λ (m : Laying). pass m xs) (lay_one_fallen l x u) ∙ pass_fallen l xs u

pub pass-append : (l : Laying) (xs ys : List Item) → pass l (xs ++ ys) ≡ pass (pass l xs) ys
unfolding pass
pass-append l [] ys = refl
pass-append l (x ∷ xs) ys = pass-append (lay_one l x) xs ys

module _ (t : List Row) (l : State) (r : Row) (f : Bool) (ef : f ≡ follows l.n (key_bits l.last) (key_bits r.key)) where
  fallen : not f ≡ true
      → lay_one (laying t l) (item_of r)
      ≡ record { table = t; count = l.n; rising = false; last = key_bits r.key }
  unfolding laying item_of
  fallen z = lay_one_stop (laying t l) (item_of r) refl (sym ef ∙ not-true f z)

  pub lay_stop : not f ≡ true → Left t None (lay_one (laying t l) (item_of r))
  lay_stop z =
      (sym (ap (λ (m : Laying). m.table) (fallen z)), ap (λ (m : Laying). m.rising) (fallen z))

  pub lay_next : not f ≡ false → (t' : List Row)
      → t' ≡ with_row t l.n (record { key = key_bits r.key; pointer = r.pointer }) r.source
      → laying t' (record { n = l.n + 1; last = r.key }) ≡ lay_one (laying t l) (item_of r)
  unfolding laying item_of
  lay_next z t' e = rw e (sym (lay_one_next (laying t l) (item_of r) refl (sym ef ∙ not-false f z)))

-- a pass that fell goes on as it is
pub left_none : (t : List Row) (r : Maybe State) (x : Laying) → Left t r x → r ≡ None → (xs : List Item)
    → Left t None (pass x xs)
left_none t (Some l) x p z xs = let o : ◌≡◌ {A = ℕ} 0 1 = cc in absurd (omega arith)
left_none t None x p z xs =
    let e : pass x xs ≡ x = pass_fallen x xs p.1 in
    (p.0 ∙ ap (λ (m : Laying). m.table) (sym e), ap (λ (m : Laying). m.rising) e ∙ p.1)

pub left_some : (t : List Row) (r : Maybe State) (x : Laying) → Left t r x → (l : State) → r ≡ Some l → laying t l ≡ x
left_some t (Some k) x p l z =
    let e : k ≡ l = cc in
    ap (laying t) (sym e) ∙ p
left_some t None x p l z = let o : ◌≡◌ {A = ℕ} 0 1 = cc in absurd (omega arith)

-- what `?` hands on
pub left_handed : (t : List Row) (r : Maybe State) (x : Laying) → IsNone r → Left t None x → Left t r x
left_handed t (Some l) x h p = absurd (false≢true (sym h))
left_handed t None x h p = p

-- ---- a run of the base's rows

run-cons : (base : List Row) (e i : ℕ) → i < e
    → run base i (e - i) ≡ record { entry = row_entry base i; source = i } ∷ run base (i + 1) (e - (i + 1))
unfolding run
run-cons base e i h =
    let m : e - i ≡ suc (e - (i + 1)) = omega arith in
    ap (run base i) m
    ∙ ap (λ (x : ℕ). record { entry = row_entry base i; source = i } ∷ run base x (e - (i + 1))) (sym (add-one i))

row_item : (base : List Row) (i : ℕ) (k : Key) (p : ℕ) → key_bits k ≡ row_key base i → p ≡ row_pointer base i
    → item_of (record { key = k; pointer = p; source = i }) ≡ record { entry = row_entry base i; source = i }
unfolding row_entry item_of
row_item base i k p ek ep = rw (ek, ep)

-- the rows from a up to i are laid
pub record Running (base t₀ : List Row) (l₀ : State) (a e i : ℕ) (t : List Row) (l : State) : Type 0 where
  pub from : a ≤ i
  pub to : i - a ≤ e - a
  pub most : l.n ≤ l₀.n + (i - a)
  pub same : pass (laying t₀ l₀) (run base a (e - a)) ≡ pass (laying t l) (run base i (e - i))

pub run_start : (base t : List Row) (l : State) (a e : ℕ) → Running base t l a e a t l
run_start base t l a e = record { from = omega arith; to = omega arith; most = omega arith; same = refl }

module _ (base t₀ : List Row) (l₀ : State) (a e i : ℕ) (t : List Row) (l : State) (g : Running base t₀ l₀ a e i t l)
    (h : i < e)
    (k : Key) (p : ℕ) (t' : List Row) (r : Maybe State) (ek : key_bits k ≡ row_key base i) (ep : p ≡ row_pointer base i)
    (s : Left t' r (lay_one (laying t l) (item_of (record { key = k; pointer = p; source = i })))) where
  run-one : pass (laying t₀ l₀) (run base a (e - a))
      ≡ pass (lay_one (laying t l) (item_of (record { key = k; pointer = p; source = i }))) (run base (i + 1) (e - (i + 1)))
  unfolding pass
  run-one =
      g.same ∙ ap (pass (laying t l)) (run-cons base e i h)
      ∙ ap (λ (x : Item). pass (lay_one (laying t l) x) (run base (i + 1) (e - (i + 1)))) (sym (row_item base i k p ek ep))

  pub run_more : (l' : State) → r ≡ Some l' → l'.n ≤ l.n + 1 → Running base t₀ l₀ a e (i + 1) t' l'
  run_more l' z n = record {
    from = omega (arith, g.from);
    to = omega (arith, g.from);
    most = omega (arith, g.from, g.most);
    same =
        run-one
        ∙ ap (λ (m : Laying). pass m (run base (i + 1) (e - (i + 1)))) (sym (left_some t' r _ s l' z));
  }

  pub run_stop : r ≡ None → (q : Maybe State) → IsNone q → Left t' q (pass (laying t₀ l₀) (run base a (e - a)))
  run_stop z q hq =
      subst (Left t' q) (sym run-one)
      (left_handed t' q _ hq (left_none t' r _ s z (run base (i + 1) (e - (i + 1)))))

module _ (base t₀ : List Row) (l₀ : State) (a e i : ℕ) (t : List Row) (l : State) (g : Running base t₀ l₀ a e i t l)
    (h : e ≤ i) where
  pub run_end : laying t l ≡ pass (laying t₀ l₀) (run base a (e - a))
  unfolding run pass
  run_end =
      let z : e - i ≡ 0 = omega arith in
      sym (g.same ∙ ap (λ (x : ℕ). pass (laying t l) (run base i x)) z)

  pub run-end_most : e ≤ 1024 → l.n ≤ l₀.n + 1024
  run-end_most m = omega (arith, g.most, g.to)

-- ---- one edit

module _ (base t : List Row) (l : State) (c : CodeEdit) (t' : List Row) (r : Maybe State) where
  pub edit_insert : (k : Key) (p : ℕ) → c ≡ Insert k p
      → Left t' r (lay_one (laying t l) (item_of (record { key = k; pointer = p; source = 1024 })))
      → Left t' r (pass (laying t l) (items_of base (edit_meant c)))
  unfolding items_of pass item_of
  edit_insert k p q s = subst (λ (e : CodeEdit). Left t' r (pass (laying t l) (items_of base (edit_meant e)))) (sym q) s

  pub edit_update : (i p : ℕ) (k : Key) → c ≡ Update i p → key_bits k ≡ row_key base i
      → Left t' r (lay_one (laying t l) (item_of (record { key = k; pointer = p; source = i })))
      → Left t' r (pass (laying t l) (items_of base (edit_meant c)))
  unfolding items_of pass item_of
  edit_update i p k q ek s =
      subst (λ (e : CodeEdit). Left t' r (pass (laying t l) (items_of base (edit_meant e)))) (sym q)
      (subst
      (λ (x : List ℕ). Left t' r (lay_one (laying t l) (record { entry = record { key = x; pointer = p }; source = i })))
      ek s)

  pub edit_keep : (a b : ℕ) → c ≡ KeepChunk a b → Left t' r (pass (laying t l) (run base a (b - a)))
      → Left t' r (pass (laying t l) (items_of base (edit_meant c)))
  unfolding items_of
  edit_keep a b q s = subst (λ (e : CodeEdit). Left t' r (pass (laying t l) (items_of base (edit_meant e)))) (sym q) s

-- where a Keep ends
pub keep-reach : (c : CodeEdit) (a b : ℕ) → c ≡ KeepChunk a b → reach_of (edit_meant c) < 1024 → b ≤ 1024
keep-reach c a b q h = omega (arith, ap (λ (e : CodeEdit). reach_of (edit_meant e)) q)

-- ---- all edits of a record

-- the entries of i of k edits are laid
pub record Applying (s : List ℕ) (base t₀ : List Row) (k i p : ℕ) (t : List Row) (l : State) : Type 0 where
  pub read : Ahead s k i p
  pub most : l.n ≤ 1024 * i
  pub same : pass (starting t₀) (items_in base (edits_of (read_record s)))
      ≡ pass (laying t l) (items_in base (ahead s k i p))

pub applying_start : (s : List ℕ) (base t : List Row) (k : ℕ) (z : Key) → formed_in (read_record s) ≡ true
    → k ≡ count_of s → key_bits z ≡ replicate 256 0 → Applying s base t k 0 10 t (record { n = 0; last = z })
unfolding starting laying
applying_start s base t k z f e q = record {
  read = ahead_start s k f e;
  most = omega arith;
  same =
      ap₂ pass (ap (λ (x : List ℕ). record { table = t; count = 0; rising = true; last = x }) (sym q))
      (ap (items_in base) (ahead_all s k f e));
}

module _ (s : List ℕ) (base t₀ : List Row) (k i p : ℕ) (t : List Row) (l : State) (g : Applying s base t₀ k i p t l)
    (h : i < k)
    (c : CodeEdit) (t' : List Row) (r : Maybe State) (ec : edit_meant c ≡ edit_at (drop p (bits_of s)))
    (y : Left t' r (pass (laying t l) (items_of base (edit_meant c)))) where
  apply-one : (w : ℕ) → w ≡ 2 + field_bits (kind_at (drop p (bits_of s)))
      → pass (starting t₀) (items_in base (edits_of (read_record s)))
      ≡ pass (pass (laying t l) (items_of base (edit_meant c))) (items_in base (ahead s k (i + 1) (p + w)))
  unfolding items_in
  apply-one w e =
      g.same ∙ ap (λ (es : List Edit). pass (laying t l) (items_in base es)) (ahead_cons s k i p g.read h w e)
      ∙ ap (λ (x : Edit). pass (laying t l) (items_of base x ++ items_in base (ahead s k (i + 1) (p + w)))) (sym ec)
      ∙ pass-append (laying t l) (items_of base (edit_meant c)) (items_in base (ahead s k (i + 1) (p + w)))

  pub applying_next : (l' : State) → r ≡ Some l' → l'.n ≤ l.n + 1024 → (w : ℕ) → w ≡ length (edit_bits (edit_meant c))
      → Applying s base t₀ k (i + 1) (p + w) t' l'
  applying_next l' z n w ew =
      let e : w ≡ 2 + field_bits (kind_at (drop p (bits_of s))) =
      ew ∙ size-fields c
      ∙ ap (λ (x : ℕ). 2 + x) (ap (λ (x : Edit). field_bits (kind x)) ec ∙ field-size (drop p (bits_of s))) in
      record {
        read = ahead_next s k i p g.read h w e;
        most = omega (arith, g.most);
        same =
            apply-one w e
            ∙ ap (λ (m : Laying). pass m (items_in base (ahead s k (i + 1) (p + w)))) (sym (left_some t' r _ y l' z));
      }

  pub applying_stop : r ≡ None → (q : Maybe State) → IsNone q
      → Left t' q (pass (starting t₀) (items_in base (edits_of (read_record s))))
  applying_stop z q hq =
      let w : ℕ = 2 + field_bits (kind_at (drop p (bits_of s))) in
      subst (Left t' q) (sym (apply-one w refl))
      (left_handed t' q _ hq (left_none t' r _ y z (items_in base (ahead s k (i + 1) (p + w)))))

pub applying_end : (s : List ℕ) (base t₀ : List Row) (k i p : ℕ) (t : List Row) (l : State)
    → Applying s base t₀ k i p t l → k ≤ i → laying t l ≡ pass (starting t₀) (items_in base (edits_of (read_record s)))
unfolding items_in pass
applying_end s base t₀ k i p t l g h =
    sym (g.same ∙ ap (λ (es : List Edit). pass (laying t l) (items_in base es)) (ahead_none s k i p h))
