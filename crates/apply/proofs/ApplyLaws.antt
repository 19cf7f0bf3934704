-- Laws of the new entries as a table holds them, and of `edit_rows`' answer (`specs/Apply.antt`).
-- In order: items (`paired`, `entries_of`), and those of edits inside a base; what a pass over items leaves
-- (`Passed`); items in rows (`laid`); that new keys are keys; the answer and the table by refusal; what an answered
-- count says of the table (`NewRows`).
-- Not here: the pass as the code makes it (`PassLaws`).
-- Assumes nothing.
use mathlib.Core.Bool.{Bool, true, false, cond, not, ◌&&◌, false≢true}
use mathlib.Core.List.{List, [], ◌∷◌, ◌++◌}
use mathlib.Core.Option.{Option, none, some, none-ne-some}
use mathlib.Core.Path.{◌≡◌, refl, sym, ap, ap₂, subst, ◌∙◌}
use Prim.Native.Nat.{ℕ, zero, suc, ◌+◌, ◌-◌, ◌≤◌, ◌<◌, min}
use native.Mathlib.Nat.{add-zero, zero-add}
use native.Mathlib.Numerals.{add-one}
use native.Mathlib.Omega.{arith}
use borrow.Author.Tests.{not-false, ne_eqb}
use lib.Dec.{eqb, ltb}
use lib.ListN.{length, take, drop, get_or, replicate, length-append, length-take, length-drop}
use lib.Seq.{drop-cons, get_or-take, take_all}
use Rattle.format.specs.Answer.{Answer, NoneHolds, refuse, first, unless}
use Rattle.format.specs.Bits.{bits_of, value}
use Rattle.format.specs.Build.{edits_of, malformed}
use Rattle.format.specs.Edit.{
  Edit,
  WellFormed,
  AllWellFormed,
  no_entry,
  made,
  apply,
  outside,
  any_outside,
  ascending,
  ascending_from,
  read_edits,
  read_record,
}
use Rattle.format.specs.Edit.Edit.{Insert, Update, Keep}
use Rattle.format.specs.Key.{IsKey, below}
use Rattle.format.specs.Normal.{keys}
use Rattle.format.specs.Page.{Entry, each}
use Rattle.format.specs.Refusals.{refusal_number, outcome_number}
use Rattle.format.specs.declared.refusal.Refusal.{Refusal}
use Rattle.std.specs.Prelude.{⊤, Option as Maybe, Some, None, Result, Ok, Err}
use Rattle.facts.proofs.AnswerLaws.{and_left, and_right, first-none, first-append, first_stop, NoneHolds-first}
use Rattle.facts.proofs.BitsLaws.{AllBelow-bits_of, AllBelow-drop}
use Rattle.facts.proofs.EditLaws.{outside-keep, outside_update, any_outside_head, any_outside_tail}
use Rattle.facts.proofs.EntryLaws.{Ascending, AreKeys, AreKeys_at, ascending_next, each_at, keys_at, length-keys}
use Rattle.facts.proofs.RecordLaws.{read_edits_written, read_record-bits}
use Rattle.facts.proofs.RefusalLaws.{refusal_number_positive}
use Rattle.rows.specs.Rows.{row_source, row_entry, rows, with_row}
use Rattle.rows.specs.declared.table.Row.{Row}
use Rattle.rows.proofs.RowsLaws.{AreKeys-rows, length-with_row, length-rows, rows_at, row_entry_same, row_entry_other, row_source_same, row_source_other}
use Rattle.apply.specs.declared.State.{State}
use Rattle.edits.specs.Record.{formed_in, read_tests}
use Rattle.apply.specs.Apply.{
  Left,
  up_from,
  sources_of,
  sources,
  Item,
  paired,
  rising_from,
  rising_front,
  laid,
  record_tests,
  new_count,
  new_table,
  run,
  items_of,
  items_in,
  Laying,
  laying,
  starting,
  follows,
  lay_one,
  pass,
}
use Rattle.edits.proofs.CheckLaws.{Accepted, accepted, read_tests-none}
use Rattle.apply.proofs.PassLaws.{follows-first, follows_later, lay_one_next, lay_one_stop, pass_fallen}

-- ---- items

-- their entries
unfoldable pub entries_of : List Item → List Entry
entries_of [] = []
entries_of (x ∷ xs) = x.entry ∷ entries_of xs

-- their sources
unfoldable pub sources_in : List Item → List ℕ
sources_in [] = []
sources_in (x ∷ xs) = x.source ∷ sources_in xs

pub length_entries_of : (xs : List Item) → length (entries_of xs) ≡ length xs
unfolding entries_of
length_entries_of [] = refl
length_entries_of (x ∷ xs) = ap suc (length_entries_of xs)

pub entries_of_paired : (es : List Entry) (ss : List ℕ) → length es ≡ length ss → entries_of (paired es ss) ≡ es
unfolding entries_of paired
entries_of_paired [] ss e = refl
entries_of_paired (x ∷ es) [] e = absurd (omega arith)
entries_of_paired (x ∷ es) (s ∷ ss) e = ap (λ (l : List Entry). x ∷ l) (entries_of_paired es ss (omega arith))

pub sources_in_paired : (es : List Entry) (ss : List ℕ) → length es ≡ length ss → sources_in (paired es ss) ≡ ss
unfolding sources_in paired
sources_in_paired [] [] e = refl
sources_in_paired [] (s ∷ ss) e = absurd (omega arith)
sources_in_paired (x ∷ es) [] e = absurd (omega arith)
sources_in_paired (x ∷ es) (s ∷ ss) e = ap (λ (l : List ℕ). s ∷ l) (sources_in_paired es ss (omega arith))

paired-append : (es fs : List Entry) (ss us : List ℕ) → length es ≡ length ss
    → paired (es ++ fs) (ss ++ us) ≡ paired es ss ++ paired fs us
unfolding paired
paired-append [] fs [] us e = refl
paired-append [] fs (s ∷ ss) us e = absurd (omega arith)
paired-append (x ∷ es) fs [] us e = absurd (omega arith)
paired-append (x ∷ es) fs (s ∷ ss) us e =
    ap (λ (l : List Item). record { entry = x; source = s } ∷ l) (paired-append es fs ss us (omega arith))

-- ---- the items of edits inside a base

length-up_from : (i n : ℕ) → length (up_from i n) ≡ n
unfolding up_from
length-up_from i zero = refl
length-up_from i (suc n) = ap suc (length-up_from (suc i) n)

run-paired : (base : List Row) (n i m : ℕ) → i + m ≤ n
    → run base i m ≡ paired (take m (drop i (rows n base))) (up_from i m)
unfolding run up_from paired
run-paired base n i zero h = refl
run-paired base n i (suc m) h =
    let l : i < length (rows n base) = omega (arith, length-rows n base) in
    let o : i < n = omega arith in
    ap₂ (λ (x : Entry) (xs : List Item). record { entry = x; source = i } ∷ xs) (sym (rows_at n base i no_entry o))
    (run-paired base n (suc i) m (omega arith))
    ∙ ap (λ (es : List Entry). paired (take (suc m) es) (i ∷ up_from (suc i) m))
    (sym (drop-cons (rows n base) i no_entry l))

-- an edit makes an entry for each of its sources
pub length-sources_of : (b : List Entry) (e : Edit) → outside (length b) e ≡ false
    → length (made b e) ≡ length (sources_of e)
unfolding made sources_of
length-sources_of b (Insert k p) o = refl
length-sources_of b (Update i p) o = refl
length-sources_of b (Keep s e) o =
    omega (
      arith,
      outside-keep (length b) s e o,
      length-take (e - s) (drop s b),
      length-drop s b,
      length-up_from s (e - s),
    )

module _ (base : List Row) (n : ℕ) where
  length-made : (e : Edit) → outside n e ≡ false → length (made (rows n base) e) ≡ length (sources_of e)
  length-made e o = length-sources_of (rows n base) e (ap (λ (k : ℕ). outside k e) (length-rows n base) ∙ o)

  items_of-paired : (e : Edit) → outside n e ≡ false → items_of base e ≡ paired (made (rows n base) e) (sources_of e)
  unfolding items_of made sources_of paired row_entry
  items_of-paired (Insert k p) o = refl
  items_of-paired (Update i p) o =
      ap (λ (x : Entry). record { entry = record { key = x.key; pointer = p }; source = i } ∷ [])
      (sym (rows_at n base i no_entry (outside_update n i p o)))
  items_of-paired (Keep s e) o = run-paired base n s (e - s) (omega (arith, outside-keep n s e o))

  pub length-sources : (es : List Edit) → any_outside n es ≡ false
      → length (apply (rows n base) es) ≡ length (sources es)
  unfolding apply sources
  length-sources [] o = refl
  length-sources (e ∷ es) o =
      omega (
        arith,
        length-append (made (rows n base) e) (apply (rows n base) es),
        length-append (sources_of e) (sources es),
        length-made e (any_outside_head n e es o),
        length-sources es (any_outside_tail n e es o),
      )

  items_in-paired : (es : List Edit) → any_outside n es ≡ false
      → items_in base es ≡ paired (apply (rows n base) es) (sources es)
  unfolding items_in apply sources paired
  items_in-paired [] o = refl
  items_in-paired (e ∷ es) o =
      ap₂ ◌++◌ (items_of-paired e (any_outside_head n e es o)) (items_in-paired es (any_outside_tail n e es o))
      ∙ sym (paired-append (made (rows n base) e) (apply (rows n base) es) (sources_of e) (sources es)
      (length-made e (any_outside_head n e es o)))

-- ---- what a pass leaves

-- l is left by a pass over xs from row n of t on, of which front rises, and all do where asc says so
pub record Passed (t : List Row) (n : ℕ) (xs front : List Item) (asc : Bool) (l : Laying) : Type 0 where
  pub table : l.table ≡ laid t n front
  pub rising : l.rising ≡ asc
  pub count : asc ≡ true → l.count ≡ n + length xs

pass_from : (xs : List Item) (l : Laying) → l.rising ≡ true → 0 < l.count
    → Passed l.table l.count xs (rising_from l.last xs) (ascending_from l.last (entries_of xs)) (pass l xs)
unfolding pass rising_from ascending_from entries_of laid
pass_from [] l u z = record { table = refl; rising = u; count = λ a. sym (add-zero l.count) }
pass_from (x ∷ xs) l u z = go (below l.last x.entry.key) refl (pass_from xs)
  where
    go : (b : Bool) → below l.last x.entry.key ≡ b
        → ((m : Laying) → m.rising ≡ true → 0 < m.count
        → Passed m.table m.count xs (rising_from m.last xs) (ascending_from m.last (entries_of xs))
        (pass m xs))
        → Passed l.table l.count (x ∷ xs)
        (cond (below l.last x.entry.key) (x ∷ rising_from x.entry.key xs) [])
        (below l.last x.entry.key && ascending_from x.entry.key (entries_of xs)) (pass (lay_one l x) xs)
    go true e ih =
        let m : Laying = record {
          table = with_row l.table l.count x.entry x.source;
          count = l.count + 1;
          rising = true;
          last = x.entry.key;
        } in
        let h : l.count ≡ 0 → ⊥ = λ q. omega arith in
        let f : follows l.count l.last x.entry.key ≡ true =
        sym (follows_later l.count l.last x.entry.key true h (sym e)) in
        let c : 0 < l.count + 1 = omega arith in
        let r : Passed m.table (l.count + 1) xs (rising_from x.entry.key xs)
        (ascending_from x.entry.key (entries_of xs)) (pass m xs) = ih m refl c in
        subst
        (Passed l.table l.count (x ∷ xs)
        (cond (below l.last x.entry.key) (x ∷ rising_from x.entry.key xs) [])
        (below l.last x.entry.key && ascending_from x.entry.key (entries_of xs)))
        (ap (λ (y : Laying). pass y xs) (sym (lay_one_next l x u f)))
        (rw e
        (record {
          table = r.table ∙ ap (λ (i : ℕ). laid m.table i (rising_from x.entry.key xs)) (add-one l.count);
          rising = r.rising;
          count = λ a. omega (arith, r.count a);
        }))
    go false e ih =
        let h : l.count ≡ 0 → ⊥ = λ q. omega arith in
        let f : follows l.count l.last x.entry.key ≡ false =
        sym (follows_later l.count l.last x.entry.key false h (sym e)) in
        let m : Laying = record { table = l.table; count = l.count; rising = false; last = x.entry.key } in
        let q : pass (lay_one l x) xs ≡ m =
        ap (λ (y : Laying). pass y xs) (lay_one_stop l x u f) ∙ pass_fallen m xs refl in
        subst
        (Passed l.table l.count (x ∷ xs)
        (cond (below l.last x.entry.key) (x ∷ rising_from x.entry.key xs) [])
        (below l.last x.entry.key && ascending_from x.entry.key (entries_of xs))) (sym q)
        (rw e (record { table = refl; rising = refl; count = λ a. absurd (false≢true a) }))

pass_start : (xs : List Item) (t : List Row)
    → Passed t 0 xs (rising_front xs) (ascending (entries_of xs)) (pass (starting t) xs)
unfolding pass rising_front ascending entries_of laid starting
pass_start [] t = record { table = refl; rising = refl; count = λ a. refl }
pass_start (x ∷ xs) t =
    let m : Laying =
    record { table = with_row t 0 x.entry x.source; count = 1; rising = true; last = x.entry.key } in
    let r : Passed m.table 1 xs (rising_from x.entry.key xs) (ascending_from x.entry.key (entries_of xs))
    (pass m xs) =
    pass_from xs m refl (omega arith) in
    rw (lay_one-first t x)
    (record { table = r.table; rising = r.rising; count = λ a. omega (arith, r.count a) })
  where
    lay_one-first : (t : List Row) (x : Item)
        → lay_one (record { table = t; count = 0; rising = true; last = replicate 256 0 }) x
        ≡ record { table = with_row t 0 x.entry x.source; count = 1; rising = true; last = x.entry.key }
    lay_one-first t x =
        lay_one_next (record { table = t; count = 0; rising = true; last = replicate 256 0 }) x refl
        (sym (follows-first 0 (replicate 256 0) x.entry.key refl))

-- ---- items in rows

pub length-laid : (t : List Row) (i : ℕ) (xs : List Item) → length (laid t i xs) ≡ length t
unfolding laid
length-laid t i [] = refl
length-laid t i (x ∷ xs) =
    length-laid (with_row t i x.entry x.source) (suc i) xs ∙ length-with_row t i x.entry x.source

-- rows before the first of them are as they were
row_entry_before : (t : List Row) (i : ℕ) (xs : List Item) (j : ℕ) → j < i → row_entry (laid t i xs) j ≡ row_entry t j
unfolding laid
row_entry_before t i [] j h = refl
row_entry_before t i (x ∷ xs) j h =
    row_entry_before (with_row t i x.entry x.source) (suc i) xs j (omega arith)
    ∙ row_entry_other t i x.entry x.source j (λ q. omega arith)

row_source_before : (t : List Row) (i : ℕ) (xs : List Item) (j : ℕ) → j < i → row_source (laid t i xs) j ≡ row_source t j
unfolding laid
row_source_before t i [] j h = refl
row_source_before t i (x ∷ xs) j h =
    row_source_before (with_row t i x.entry x.source) (suc i) xs j (omega arith)
    ∙ row_source_other t i x.entry x.source j (λ q. omega arith)

-- each item is in its row, where the table has it
row_entry-laid : (t : List Row) (i : ℕ) (xs : List Item) (j : ℕ) → AreKeys (keys (entries_of xs)) → j < length xs
    → i + j < length t
    → row_entry (laid t i xs) (i + j) ≡ get_or (entries_of xs) j no_entry
unfolding laid entries_of AreKeys keys
row_entry-laid t i [] j y h r = absurd (omega arith)
row_entry-laid t i (x ∷ xs) zero y h r =
    let q : i + 0 ≡ i = omega arith in
    ap (row_entry (laid (with_row t i x.entry x.source) (suc i) xs)) q
    ∙ row_entry_before (with_row t i x.entry x.source) (suc i) xs i (omega arith)
    ∙ row_entry_same t i x.entry x.source y.0 (omega arith)
row_entry-laid t i (x ∷ xs) (suc j) y h r =
    let q : i + suc j ≡ suc i + j = omega arith in
    ap (row_entry (laid (with_row t i x.entry x.source) (suc i) xs)) q
    ∙ row_entry-laid (with_row t i x.entry x.source) (suc i) xs j y.1 (omega arith)
    (subst (λ (n : ℕ). suc i + j < n) (sym (length-with_row t i x.entry x.source)) (omega arith))

row_source-laid : (t : List Row) (i : ℕ) (xs : List Item) (j : ℕ) → j < length xs → i + j < length t
    → row_source (laid t i xs) (i + j) ≡ get_or (sources_in xs) j 0
unfolding laid sources_in
row_source-laid t i [] j h r = absurd (omega arith)
row_source-laid t i (x ∷ xs) zero h r =
    let q : i + 0 ≡ i = omega arith in
    ap (row_source (laid (with_row t i x.entry x.source) (suc i) xs)) q
    ∙ row_source_before (with_row t i x.entry x.source) (suc i) xs i (omega arith)
    ∙ row_source_same t i x.entry x.source (omega arith)
row_source-laid t i (x ∷ xs) (suc j) h r =
    let q : i + suc j ≡ suc i + j = omega arith in
    ap (row_source (laid (with_row t i x.entry x.source) (suc i) xs)) q
    ∙ row_source-laid (with_row t i x.entry x.source) (suc i) xs j (omega arith)
    (subst (λ (n : ℕ). suc i + j < n) (sym (length-with_row t i x.entry x.source)) (omega arith))

-- f at each of the first places of a list, up to r of them
each_front {ℓ} : {X : Type ℓ} (xs : List X) (r : ℕ) (f : ℕ → X) (d : X)
    → ((j : ℕ) → j < length xs → j < r → f j ≡ get_or xs j d)
    → each (min (length xs) r) f ≡ take r xs
each_front xs r f d h =
    each_at (take r xs) f (min (length xs) r) d (omega (arith, length-take r xs))
    (λ j l.
    let a : j < r = omega (arith, length-take r xs) in
    let b : j < length xs = omega (arith, length-take r xs) in
    h j b a ∙ sym (get_or-take r xs j d a))

module _ (t : List Row) (xs : List Item) where
  pub rows-laid : AreKeys (keys (entries_of xs))
      → rows (min (length xs) (length t)) (laid t 0 xs) ≡ take (length t) (entries_of xs)
  unfolding rows
  rows-laid y =
      ap (λ (n : ℕ). each (min n (length t)) (row_entry (laid t 0 xs))) (sym (length_entries_of xs))
      ∙ each_front (entries_of xs) (length t) (row_entry (laid t 0 xs)) no_entry
      (λ j a b. ap (row_entry (laid t 0 xs)) (sym (zero-add j))
      ∙ row_entry-laid t 0 xs j y (omega (arith, length_entries_of xs)) (omega arith))

  length_sources_in : (ys : List Item) → length (sources_in ys) ≡ length ys
  unfolding sources_in
  length_sources_in [] = refl
  length_sources_in (y ∷ ys) = ap suc (length_sources_in ys)

  pub sources-laid : each (min (length xs) (length t)) (row_source (laid t 0 xs))
      ≡ take (length t) (sources_in xs)
  sources-laid =
      ap (λ (n : ℕ). each (min n (length t)) (row_source (laid t 0 xs))) (sym (length_sources_in xs))
      ∙ each_front (sources_in xs) (length t) (row_source (laid t 0 xs)) 0
      (λ j a b. ap (row_source (laid t 0 xs)) (sym (zero-add j))
      ∙ row_source-laid t 0 xs j (omega (arith, length_sources_in xs)) (omega arith))

-- what rises from its first item on is its own rising front
rising_from_all : (k : List ℕ) (xs : List Item) → ascending_from k (entries_of xs) ≡ true → rising_from k xs ≡ xs
unfolding ascending_from entries_of rising_from
rising_from_all k [] a = refl
rising_from_all k (x ∷ xs) a =
    let l : below k x.entry.key ≡ true = and_left (below k x.entry.key) _ a in
    rw l (ap (λ (l : List Item). x ∷ l) (rising_from_all x.entry.key xs (and_right (below k x.entry.key) _ a)))

pub rising_front_all : (xs : List Item) → ascending (entries_of xs) ≡ true → rising_front xs ≡ xs
unfolding ascending entries_of rising_front
rising_front_all [] a = refl
rising_front_all (x ∷ xs) a = ap (λ (l : List Item). x ∷ l) (rising_from_all x.entry.key xs a)

-- ---- new keys are keys

AreKeys-append : (es fs : List Entry) → AreKeys (keys es) → AreKeys (keys fs) → AreKeys (keys (es ++ fs))
unfolding AreKeys keys
AreKeys-append [] fs h g = g
AreKeys-append (e ∷ es) fs h g = (h.0, AreKeys-append es fs h.1 g)

AreKeys-take : (k : ℕ) (es : List Entry) → AreKeys (keys es) → AreKeys (keys (take k es))
unfolding AreKeys keys
AreKeys-take zero es h = tt
AreKeys-take (suc k) [] h = tt
AreKeys-take (suc k) (e ∷ es) h = (h.0, AreKeys-take k es h.1)

AreKeys-drop : (k : ℕ) (es : List Entry) → AreKeys (keys es) → AreKeys (keys (drop k es))
unfolding AreKeys keys
AreKeys-drop zero es h = h
AreKeys-drop (suc k) [] h = tt
AreKeys-drop (suc k) (e ∷ es) h = AreKeys-drop k es h.1

AreKeys-made : (b : List Entry) (e : Edit) → AreKeys (keys b) → WellFormed e → outside (length b) e ≡ false
    → AreKeys (keys (made b e))
unfolding made AreKeys keys
AreKeys-made b (Insert k p) h w o = (w.0, tt)
AreKeys-made b (Update i p) h w o =
    let l : i < length b = outside_update (length b) i p o in
    (subst IsKey (keys_at b i no_entry l) (AreKeys_at (keys b) i h (omega (arith, length-keys b))), tt)
AreKeys-made b (Keep s e) h w o = AreKeys-take (e - s) (drop s b) (AreKeys-drop s b h)

-- well-formed edits inside entries whose keys are keys make such entries
pub AreKeys-apply : (b : List Entry) (es : List Edit) → AreKeys (keys b) → AllWellFormed es
    → any_outside (length b) es ≡ false
    → AreKeys (keys (apply b es))
unfolding apply AreKeys keys
AreKeys-apply b [] h w o = tt
AreKeys-apply b (e ∷ es) h w o =
    AreKeys-append (made b e) (apply b es) (AreKeys-made b e h w.0 (any_outside_head (length b) e es o))
    (AreKeys-apply b es h w.1 (any_outside_tail (length b) e es o))

-- the edits that a record holds are well-formed; there are none in a malformed one
pub AllWellFormed-record : (s : List ℕ) → AllWellFormed (edits_of (read_record s))
unfolding edits_of
AllWellFormed-record s = go (read_record s) refl
  where
    go : (o : Option (List Edit)) → read_record s ≡ o → AllWellFormed (edits_of o)
    go none e = tt
    go (some es) e = read (ltb (length (bits_of s)) 10) refl
      where
        read : (b : Bool) → ltb (length (bits_of s)) 10 ≡ b → AllWellFormed es
        read true q = absurd (none-ne-some es (sym (rw q) ∙ sym (read_record-bits s) ∙ e))
        read false q =
            let r : read_edits (value (take 10 (bits_of s))) (drop 10 (bits_of s)) ≡ some es =
            sym (rw q) ∙ sym (read_record-bits s) ∙ e in
            (read_edits_written (value (take 10 (bits_of s))) (drop 10 (bits_of s)) es
            (AllBelow-drop 2 10 (bits_of s) (AllBelow-bits_of s)) r).formed

-- ---- the answer and the table, by refusal

module _ (b : List Entry) (s : List ℕ) where
  -- refused with 10, 11 or 12
  new_count_early : (r : ℕ) → first (read_tests (length b) s) ≡ suc r → Answer.Refused (suc r) ≡ new_count b s
  unfolding new_count record_tests unless
  new_count_early r e =
      rw (first_stop (read_tests (length b) s) (refuse 13 (not (ascending (apply b (edits_of (read_record s))))) ∷ []) r e)

  new_table_early : (t : List Row) (r : ℕ) → first (read_tests (length b) s) ≡ suc r → t ≡ new_table b s t
  unfolding new_table
  new_table_early t r e =
      let z : suc r ≡ 0 → ⊥ = λ q. omega arith in
      rw (e, ne_eqb (suc r) 0 z)

  -- not so refused
  new_table_later : (t : List Row) → first (read_tests (length b) s) ≡ 0
      → new_table b s t
      ≡ laid t 0 (rising_front (paired (apply b (edits_of (read_record s))) (sources (edits_of (read_record s)))))
  unfolding new_table
  new_table_later t e = rw e

-- what a step's state and table tell the pass
left_table : (t : List Row) (r : Maybe State) (x : Laying) → Left t r x → t ≡ x.table
unfolding laying
left_table t (Some l) x p = ap (λ (y : Laying). y.table) p
left_table t None x p = p.0

left_fallen : (t : List Row) (r : Maybe State) (x : Laying) → Left t r x → r ≡ None → x.rising ≡ false
left_fallen t r x p z = (subst (λ (m : Maybe State). Left t m x) z p).1

left_laying : (t : List Row) (r : Maybe State) (x : Laying) → Left t r x → (l : State) → r ≡ Some l → laying t l ≡ x
left_laying t r x p l z = subst (λ (m : Maybe State). Left t m x) z p

module _ (t : List Row) (l : State) (x : Laying) (e : laying t l ≡ x) where
  left_rising : x.rising ≡ true
  unfolding laying
  left_rising = sym (ap (λ (y : Laying). y.rising) e)

  left_count : l.n ≡ x.count
  unfolding laying
  left_count = ap (λ (y : Laying). y.count) e

-- what the code knows where it answers
module _ (n : ℕ) (base : List Row) (s : List ℕ) (t : List Row) (o : Result ⊤ Refusal) (eo : outcome_number o ≡ first (read_tests n s)) where
  new : List Entry
  new = apply (rows n base) (edits_of (read_record s))

  tests_rows : first (read_tests (length (rows n base)) s) ≡ outcome_number o
  tests_rows = ap (λ (x : ℕ). first (read_tests x s)) (length-rows n base) ∙ sym eo

  module _ (r : Refusal) (q : o ≡ Err r) where
    early : (k : ℕ) → refusal_number r ≡ k → 1 ≤ k
        → (Answer.Refused k ≡ new_count (rows n base) s) × (t ≡ new_table (rows n base) s t)
    early zero e h = absurd (omega arith)
    early (suc k) e h =
        let f : first (read_tests (length (rows n base)) s) ≡ suc k = tests_rows ∙ ap outcome_number q ∙ e in
        (new_count_early (rows n base) s k f, new_table_early (rows n base) s t k f)

    pub answer_early : Answer.Refused (refusal_number r) ≡ new_count (rows n base) s
    answer_early = (early (refusal_number r) refl (refusal_number_positive r)).0

    pub table_early : t ≡ new_table (rows n base) s t
    table_early = (early (refusal_number r) refl (refusal_number_positive r)).1

  module _ (u : ⊤) (q : o ≡ Ok u) where
    none-refused : first (read_tests (length (rows n base)) s) ≡ 0
    none-refused = tests_rows ∙ ap outcome_number q

    told : Accepted n s
    told = accepted n s (sym eo ∙ ap outcome_number q)

    pub formed_done : formed_in (read_record s) ≡ true
    unfolding formed_in
    formed_done = ap not told.formed

    abbrev pub all : Laying
    all = pass (starting t) (items_in base (edits_of (read_record s)))

    module _ (t' : List Row) (r : Maybe State) (p : Left t' r all) where
      items : List Item
      items = paired new (sources (edits_of (read_record s)))

      same_length : length new ≡ length (sources (edits_of (read_record s)))
      unfolding new
      same_length = length-sources base n (edits_of (read_record s)) told.inside

      passed : Passed t 0 items (rising_front items) (ascending (entries_of items)) all
      unfolding items new all
      passed =
          subst (Passed t 0 items (rising_front items) (ascending (entries_of items)))
          (sym (ap (pass (starting t)) (items_in-paired base n (edits_of (read_record s)) told.inside)))
          (pass_start items t)

      entries_are : entries_of items ≡ new
      unfolding items
      entries_are = entries_of_paired new (sources (edits_of (read_record s))) same_length

      rises : all.rising ≡ ascending new
      rises = passed.rising ∙ ap ascending entries_are

      pub table_laid : t' ≡ new_table (rows n base) s t
      unfolding items new
      table_laid = left_table t' r all p ∙ passed.table ∙ sym (new_table_later (rows n base) s t none-refused)

      last_test : (b : Bool) → ascending new ≡ b → new_count (rows n base) s ≡ unless (cond (not b) 13 0) (length new)
      unfolding new_count record_tests first new
      last_test b e =
          ap (λ (x : ℕ). unless x (length new))
          (first-append (read_tests (length (rows n base)) s) (refuse 13 (not (ascending new)) ∷ [])
          (read_tests-none (length (rows n base)) s none-refused)
          ∙ ap (λ (x : Bool). first (refuse 13 (not x) ∷ [])) e)

      pub answer_13 : r ≡ None → Answer.Refused 13 ≡ new_count (rows n base) s
      unfolding unless
      answer_13 z = sym (last_test false (sym rises ∙ left_fallen t' r all p z))

      pub answer_count : (l : State) → r ≡ Some l → Answer.Value l.n ≡ new_count (rows n base) s
      unfolding unless
      answer_count l z =
          let m : laying t' l ≡ all = left_laying t' r all p l z in
          let a : ascending new ≡ true = sym rises ∙ left_rising t' l all m in
          let c : all.count ≡ 0 + length items = passed.count (ap ascending entries_are ∙ a) in
          let d : l.n ≡ length new =
          omega (arith, left_count t' l all m, length_entries_of items, ap length entries_are) in
          ap Answer.Value d ∙ sym (last_test true a)

-- ---- what an answered count says

pub length-new_table : (b : List Entry) (s : List ℕ) (t : List Row) → length (new_table b s t) ≡ length t
unfolding new_table
length-new_table b s t = go (eqb (first (read_tests (length b) s)) 0)
  where
    go : (c : Bool)
        → length (cond c (laid t 0 (rising_front
        (paired (apply b (edits_of (read_record s))) (sources (edits_of (read_record s)))))) t)
        ≡ length t
    go true =
        length-laid t 0 (rising_front (paired (apply b (edits_of (read_record s))) (sources (edits_of (read_record s)))))
    go false = refl

-- k new entries were answered, over the base's first n rows: t' is the table, t what it was before
pub record NewRows (n : ℕ) (base : List Row) (s : List ℕ) (t t' : List Row) (k : ℕ) : Type 0 where
  pub formed : malformed (read_record s) ≡ false
  pub inside : any_outside n (edits_of (read_record s)) ≡ false
  pub edits : 1 ≤ length (edits_of (read_record s))
  pub count : k ≡ length (apply (rows n base) (edits_of (read_record s)))
  pub rising : ascending (apply (rows n base) (edits_of (read_record s))) ≡ true
  pub are_keys : AreKeys (keys (apply (rows n base) (edits_of (read_record s))))
  pub size : length t' ≡ length t
  pub entries : rows (min k (length t)) t' ≡ take (length t) (apply (rows n base) (edits_of (read_record s)))
  pub from : each (min k (length t)) (row_source t') ≡ take (length t) (sources (edits_of (read_record s)))

-- a count is answered where no test holds
unless-value : (r v k : ℕ) → unless r v ≡ Answer.Value k → (r ≡ 0) × (k ≡ v)
unfolding unless
unless-value zero v k e = (refl, let q : v ≡ k = cc in sym q)
unless-value (suc r) v k e = let o : ◌≡◌ {A = ℕ} 0 1 = cc in absurd (omega arith)

pub new_rows : (n : ℕ) (base : List Row) (s : List ℕ) (t : List Row) (k : ℕ) → new_count (rows n base) s ≡ Answer.Value k
    → NewRows n base s t (new_table (rows n base) s t) k
unfolding new_count record_tests read_tests
new_rows n base s t k e =
    let es : List Edit = edits_of (read_record s) in
    let new : List Entry = apply (rows n base) es in
    let xs : List Item = paired new (sources es) in
    let v : (first (record_tests (rows n base) s) ≡ 0) × (k ≡ length new) =
    unless-value (first (record_tests (rows n base) s)) (length new) k e in
    let h : NoneHolds (record_tests (rows n base) s) =
    NoneHolds-first (record_tests (rows n base) s) (omega arith, (omega arith, (omega arith, (omega arith, tt))))
    v.0 in
    let g : first (read_tests (length (rows n base)) s) ≡ 0 =
    first-none (read_tests (length (rows n base)) s) (h.0, (h.1.0, (h.1.1.0, tt))) in
    let w : Accepted n s =
    accepted n s (ap (λ (x : ℕ). first (read_tests x s)) (sym (length-rows n base)) ∙ g) in
    let a : ascending new ≡ true = not-false (ascending new) h.1.1.1.0 in
    let y : AreKeys (keys new) =
    AreKeys-apply (rows n base) es (AreKeys-rows n base) (AllWellFormed-record s) h.1.0 in
    let l : length new ≡ length (sources es) = length-sources base n es w.inside in
    let ex : entries_of xs ≡ new = entries_of_paired new (sources es) l in
    let lx : k ≡ length xs = v.1 ∙ ap length (sym ex) ∙ length_entries_of xs in
    let f : rising_front xs ≡ xs = rising_front_all xs (ap ascending ex ∙ a) in
    let tb : new_table (rows n base) s t ≡ laid t 0 xs =
    new_table_later (rows n base) s t g ∙ ap (laid t 0) f in
    record {
      formed = w.formed;
      inside = w.inside;
      edits = w.edits;
      count = v.1;
      rising = a;
      are_keys = y;
      size = length-new_table (rows n base) s t;
      entries =
          ap₂ (λ (m : ℕ) (u : List Row). rows (min m (length t)) u) lx tb
          ∙ rows-laid t xs (subst (λ (l : List Entry). AreKeys (keys l)) (sym ex) y) ∙ ap (take (length t)) ex;
      from =
          ap₂ (λ (m : ℕ) (u : List Row). each (min m (length t)) (row_source u)) lx tb
          ∙ sources-laid t xs ∙ ap (take (length t)) (sources_in_paired new (sources es) l);
    }

module _ (n : ℕ) (base : List Row) (s : List ℕ) (t t' : List Row) (k : ℕ) (r : NewRows n base s t t' k) where
  pub NewRows-ascending : Ascending (keys (apply (rows n base) (edits_of (read_record s))))
  NewRows-ascending =
      let new : List Entry = apply (rows n base) (edits_of (read_record s)) in
      record {
        key = λ i h. AreKeys_at (keys new) i r.are_keys h;
        next = λ i h. ascending_next new r.rising i (omega (arith, length-keys new));
      }

  -- a table with room for all of them has them all
  pub NewRows-rows : k ≤ length t → rows k t' ≡ apply (rows n base) (edits_of (read_record s))
  NewRows-rows h =
      let new : List Entry = apply (rows n base) (edits_of (read_record s)) in
      let e : min k (length t) ≡ k = omega arith in
      ap (λ (m : ℕ). rows m t') (sym e) ∙ r.entries ∙ take_all (length t) new (omega (arith, r.count))

  pub NewRows-sources : k ≤ length t → each k (row_source t') ≡ sources (edits_of (read_record s))
  NewRows-sources h =
      let es : List Edit = edits_of (read_record s) in
      let e : min k (length t) ≡ k = omega arith in
      ap (λ (m : ℕ). each m (row_source t')) (sym e) ∙ r.from
      ∙ take_all (length t) (sources es) (omega (arith, r.count, length-sources base n es r.inside))
