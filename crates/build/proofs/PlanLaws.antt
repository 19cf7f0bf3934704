-- Laws of planning: what the parts answer, over ascending rows, tells of the refusals 10 to 15, and what stands in the
-- rows and in the scratch bytes where none of them holds (`Planned`).
-- In order: the tests; the record's; the choice; the undo record; the whole.
-- Assumes nothing.
use mathlib.Core.Bool.{Bool, false, not, true}
use mathlib.Core.List.{List, [], ◌∷◌, ◌++◌}
use mathlib.Core.Path.{◌≡◌, refl, sym, ap, ap₂, subst, ◌∙◌}
use Prim.Native.Nat.{ℕ, zero, suc, ◌≤◌, ◌<◌}
use native.Mathlib.Nat.{not-suc-le-zero}
use native.Mathlib.Omega.{arith}
use borrow.Author.Tests.{le-ltb, leb-false, leb-true, lt-ltb, ne_eqb, not-false, not-true}
use lib.Dec.{leb, ltb}
use lib.ListN.{length, take}
use Rattle.format.specs.Answer.{Answer, FirstHolds, NoneHolds, Test, first, refuse, unless}
use Rattle.format.specs.Build.{Numbers, edit_tests, edits_of}
use Rattle.format.specs.Edit.{AllWellFormed, Edit, any_outside, apply, read_record, record_of}
use Rattle.format.specs.Normal.{Choice, choice, fits, keys}
use Rattle.format.specs.Page.{Entry, Sound, body_bytes}
use Rattle.format.specs.Undo.{undo_edits, undo_record}
use Rattle.facts.proofs.AnswerLaws.{Numbered, first-append, first_stop, FirstHolds-first, FirstHolds-number, NoneHolds-append, unless-refused}
use Rattle.facts.proofs.ChoiceLaws.{fits_most}
use Rattle.facts.proofs.EditLaws.{length-apply, sound_apply}
use Rattle.facts.proofs.EntryLaws.{Ascending, length-keys}
use Rattle.facts.proofs.UndoLaws.{AllWellFormed-undo_edits, length-undo_edits, length-undo_record, undo_record_edits}
use Rattle.rows.specs.Rows.{rows}
use Rattle.rows.specs.declared.table.Row.{Row}
use Rattle.rows.proofs.RowsLaws.{length-rows}
use Rattle.edits.specs.Record.{read_tests}
use Rattle.apply.specs.Apply.{new_count, new_table, record_tests}
use Rattle.apply.proofs.ApplyLaws.{NewRows, AllWellFormed-record, new_rows, NewRows-ascending, NewRows-rows, NewRows-sources}
use Rattle.branch_ops.specs.Choice.{chosen_of, one_pass}
use Rattle.branch_ops.specs.Writer.{record_in}
use Rattle.branch_ops.proofs.ChoiceLaws.{chosen_of_normal}
use Rattle.branch_ops.proofs.WriterLaws.{record_in-record_of, size-record_of}
use Rattle.undo.specs.Walk.{undo_size, walk}
use Rattle.undo.proofs.WalkLaws.{walk-undo_edits}
use Rattle.build.specs.Built.{Old, Planned, change_tests}
use Rattle.build.proofs.SourceLaws.{sourced_rows}

-- ---- the tests

-- 14 and 15
abbrev room_tests : List Entry → List Entry → ℕ → List Test
room_tests base new room = refuse 14 (not (fits new)) ∷ refuse 15 (ltb room (length (undo_record base new))) ∷ []

change_tests_split : (base : List Entry) (rec : List ℕ) (room : ℕ)
    → change_tests base rec room
    ≡ record_tests base rec ++ room_tests base (apply base (edits_of (read_record rec))) room
unfolding change_tests record_tests read_tests edit_tests
change_tests_split base rec room = refl

numbered_record_tests : (base : List Entry) (rec : List ℕ) → Numbered (record_tests base rec)
unfolding record_tests read_tests
numbered_record_tests base rec = (omega arith, (omega arith, (omega arith, (omega arith, tt))))

-- ---- the record's refusals

new_count-refused : (base : List Entry) (rec : List ℕ) (r : ℕ) → Answer.Refused r ≡ new_count base rec
    → FirstHolds (record_tests base rec) r
unfolding new_count
new_count-refused base rec r e =
    unless-refused (record_tests base rec) (length (apply base (edits_of (read_record rec)))) r (sym e)

pub refused_early : (base : List Entry) (rec : List ℕ) (room : ℕ) (r : ℕ) → Answer.Refused r ≡ new_count base rec
    → (first (change_tests base rec room) ≡ r) × (1 ≤ r)
refused_early base rec room r e =
    let f : FirstHolds (record_tests base rec) r = new_count-refused base rec r e in
    let l : 1 ≤ r = FirstHolds-number (record_tests base rec) r f (numbered_record_tests base rec) in
    (ap first (change_tests_split base rec room) ∙ stop r (FirstHolds-first (record_tests base rec) r f) l, l)
  where
    later : List Test
    later = room_tests base (apply base (edits_of (read_record rec))) room

    stop : (k : ℕ) → first (record_tests base rec) ≡ k → 1 ≤ k → first (record_tests base rec ++ later) ≡ k
    stop zero q h = absurd (not-suc-le-zero h)
    stop (suc k) q h = first_stop (record_tests base rec) later k q

-- ---- the choice

only_14 : (c : Bool) (r : ℕ) → FirstHolds (refuse 14 c ∷ []) r → (r ≡ 14) × (c ≡ true)
unfolding first
only_14 true r f = (sym (FirstHolds-first (refuse 14 true ∷ []) r f), refl)
only_14 false r f =
    let z : 0 ≡ r = FirstHolds-first (refuse 14 false ∷ []) r f in
    let l : 1 ≤ r = FirstHolds-number (refuse 14 false ∷ []) r f (omega arith, tt) in
    absurd (omega arith)

-- refused, it is with 14
chosen_of_14 : (ks : List (List ℕ)) (r : ℕ) → Answer.Refused r ≡ chosen_of ks → r ≡ 14
unfolding chosen_of
chosen_of_14 ks r e =
    let c : Bool = not (leb (body_bytes (length ks) 0 (one_pass ks).bits) 4086) in
    (only_14 c r (unless-refused (refuse 14 c ∷ []) (one_pass ks) r (sym e))).0

unless_14 : {A : Type 0} (c : Bool) (v w : A) → Answer.Value w ≡ unless (first (refuse 14 c ∷ [])) v
    → (c ≡ false) × (w ≡ v)
unfolding unless first
unless_14 true v w e = let z : ◌≡◌ {A = ℕ} 0 1 = cc in absurd (omega arith)
unless_14 false v w e = (refl, value_same w v e)
  where
    value_same : {A : Type 0} (x y : A) → Answer.Value x ≡ Answer.Value y → x ≡ y
    value_same x y q = cc

leb_yes : (a b : ℕ) → not (leb a b) ≡ false → a ≤ b
leb_yes a b e = leb-true a b (not-false (leb a b) e)

-- taken, there are no more keys than a page has
chosen_of_few : (ks : List (List ℕ)) (c : Choice) → Answer.Value c ≡ chosen_of ks → length ks ≤ 681
unfolding chosen_of body_bytes
chosen_of_few ks c e =
    let l : body_bytes (length ks) 0 (one_pass ks).bits ≤ 4086 =
    leb_yes (body_bytes (length ks) 0 (one_pass ks).bits) 4086 (unless_14 _ (one_pass ks) c e).0 in
    omega arith

-- ---- over ascending rows, with a record that none of 10 to 13 refuses

module _ (n : ℕ) (old : List Row) (rec : List ℕ) (new₀ : List Row) (o : Old n old) (size : length new₀ ≡ 682) (k : ℕ)
    (e : Answer.Value k ≡ new_count (rows n old) rec) (room : ℕ) where
  abbrev base : List Entry
  base = rows n old

  abbrev es : List Edit
  es = edits_of (read_record rec)

  abbrev now : List Entry
  now = apply base es

  abbrev new : List Row
  new = new_table base rec new₀

  told : NewRows n old rec new₀ new k
  told = new_rows n old rec new₀ k (sym e)

  inside : any_outside (length base) es ≡ false
  inside = ap (λ (x : ℕ). any_outside x es) (length-rows n old) ∙ told.inside

  none_early : NoneHolds (record_tests base rec)
  unfolding record_tests read_tests
  none_early = (
    told.formed,
    (inside, (ne_eqb (length es) 0 (λ z. omega (arith, told.edits)), (ap not told.rising, tt))),
  )

  first_later : first (change_tests base rec room) ≡ first (room_tests base now room)
  first_later =
      ap first (change_tests_split base rec room)
      ∙ first-append (record_tests base rec) (room_tests base now room) none_early

  sound_now : Sound now
  sound_now = sound_apply base es o.sound (AllWellFormed-record rec) inside

  -- ---- 14

  too_many : 682 < k → fits now ≡ false
  too_many h = go (fits now) refl
    where
      go : (b : Bool) → fits now ≡ b → b ≡ false
      go true q = absurd (omega (arith, fits_most now q, told.count))
      go false q = refl

  no_fit : (r : ℕ) → Answer.Refused r ≡ chosen_of (keys (rows k new)) → k ≤ 682 → fits now ≡ false
  no_fit r q h =
      let er : rows k new ≡ now = NewRows-rows n old rec new₀ new k told (omega (arith, size)) in
      let a : Ascending (keys now) = NewRows-ascending n old rec new₀ new k told in
      let f : FirstHolds (refuse 14 (not (fits now)) ∷ []) r =
      unless-refused (refuse 14 (not (fits now)) ∷ []) (choice (keys now)) r
      (sym (q ∙ ap (λ (x : List Entry). chosen_of (keys x)) er ∙ chosen_of_normal now a)) in
      not-true (fits now) (only_14 (not (fits now)) r f).1

  first_14 : fits now ≡ false → first (room_tests base now room) ≡ 14
  unfolding first
  first_14 q = rw q

  pub refused-choice : (r : ℕ) → Answer.Refused r ≡ chosen_of (keys (rows k new))
      → (first (change_tests base rec room) ≡ r) × (1 ≤ r)
  refused-choice r q =
      let z : r ≡ 14 = chosen_of_14 (keys (rows k new)) r q in
      (first_later ∙ first_14 (go (leb k 682) refl) ∙ sym z, omega arith)
    where
      go : (b : Bool) → leb k 682 ≡ b → fits now ≡ false
      go true t = no_fit r q (leb-true k 682 t)
      go false t = too_many (leb-false k 682 t)

  -- ---- a choice was taken

  module _ (c : Choice) (ec : Answer.Value c ≡ chosen_of (keys (rows k new))) where
    few : k ≤ 681
    few = omega (arith, chosen_of_few (keys (rows k new)) c ec, length-keys (rows k new), length-rows k new)

    rows_now : rows k new ≡ now
    rows_now = NewRows-rows n old rec new₀ new k told (omega (arith, size, few))

    chosen : (not (fits now) ≡ false) × (c ≡ choice (keys now))
    chosen =
        unless_14 (not (fits now)) (choice (keys now)) c
        (ec ∙ ap (λ (x : List Entry). chosen_of (keys x)) rows_now
        ∙ chosen_of_normal now (NewRows-ascending n old rec new₀ new k told))

    -- ---- the undo record

    module _ (d : List ℕ) (room_in : length d ≡ 24704) where
      abbrev us : List Edit
      us = undo_edits base now

      walked : walk base 0 (rows k new) ≡ us
      walked =
          ap (walk base 0) rows_now
          ∙ walk-undo_edits base now o.sound o.rising sound_now told.rising

      short : length now ≤ 1023
      short = omega (arith, told.count, few)

      formed : AllWellFormed us
      formed = AllWellFormed-undo_edits base now o.sound short

      few_edits : length us ≤ 1023
      few_edits = omega (arith, length-undo_edits base now, length-rows n old, o.few)

      small : length (record_of us) ≤ 24688
      small =
          subst (λ (x : List ℕ). length x ≤ 24688) (undo_record_edits base now)
          (length-undo_record base now o.sound short (omega (arith, length-rows n old, o.few)))

      size_undo : undo_size d (walk base 0 (rows k new)) ≡ length (undo_record base now)
      unfolding undo_size
      size_undo =
          ap (undo_size d) walked
          ∙ size-record_of d us formed few_edits (omega (arith, small, room_in))
          ∙ ap length (sym (undo_record_edits base now))

      bytes_undo : take (length (undo_record base now)) (record_in d (walk base 0 (rows k new))) ≡ undo_record base now
      bytes_undo =
          ap₂ (λ (x : List ℕ) (y : List Edit). take (length x) (record_in d y)) (undo_record_edits base now) walked
          ∙ record_in-record_of d us formed few_edits (omega (arith, small, room_in))
          ∙ sym (undo_record_edits base now)

      module _ (len : ℕ) (el : len ≡ undo_size d (walk base 0 (rows k new))) where
        size_is : len ≡ length (undo_record base now)
        size_is = el ∙ size_undo

        first_15 : room < len → first (room_tests base now room) ≡ 15
        unfolding first
        first_15 h = rw (chosen.0, lt-ltb room (length (undo_record base now)) (omega (arith, size_is)))

        pub refused_undo : room < len → (first (change_tests base rec room) ≡ 15) × (1 ≤ 15)
        refused_undo h = (first_later ∙ first_15 h, omega arith)

        pub planned : (scratch : List ℕ) → scratch ≡ record_in d (walk base 0 (rows k new)) → length scratch ≡ 24704
            → len ≤ room
            → Planned base rec room (record { n = k; m = c.m; q = c.q; bits = c.bits; undo = len }) new scratch
        planned scratch es' ls h = record {
          none = none_all;
          made = rows_now;
          numbers = numbers_are;
          entry = omega (arith, told.count, told.edits, length-apply base es inside);
          undo = ap₂ take size_is es' ∙ bytes_undo ∙ ap (undo_record base) (sym rows_now);
          size = ls;
          small = omega (arith, size_is, small, ap length (undo_record_edits base now));
          room_for = h;
          from = sourced_rows base es new k (omega (arith, length-rows n old, o.few)) inside rows_now
              (NewRows-sources n old rec new₀ new k told (omega (arith, size, few)));
        }
          where
            none_all : NoneHolds (change_tests base rec room)
            none_all =
                subst NoneHolds (sym (change_tests_split base rec room))
                (NoneHolds-append (record_tests base rec) (room_tests base now room) none_early
                (chosen.0, (le-ltb room (length (undo_record base now)) (omega (arith, size_is)), tt)))

            shown : ℕ → Choice → ℕ → Numbers
            shown i x u = record { n = i; m = x.m; q = x.q; bits = x.bits; undo = u }

            numbers_are : shown k c len
                ≡ shown (length (rows k new)) (choice (keys (rows k new))) (length (undo_record base (rows k new)))
            numbers_are =
                ap₂ (shown k) chosen.1 size_is
                ∙ ap₂ (λ (i : ℕ) (x : List Entry). shown i (choice (keys x)) (length (undo_record base x)))
                (sym (length-rows k new)) (sym rows_now)
