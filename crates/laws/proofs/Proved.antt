-- Each promise of `specs/` is kept: by the laws of `facts`, `BackLaws` and `RoomLaws`.
-- In order: as the statements stand.
-- Not here: that the hypotheses can be met (`Instances`).
-- Assumes nothing.
use mathlib.Core.Bool.{true}
use mathlib.Core.List.{List, [], ◌∷◌, ◌++◌, map}
use mathlib.Core.Path.{◌≡◌, sym, ap, subst, ◌∙◌}
use Prim.Native.Nat.{ℕ, suc, ◌≤◌}
use native.Mathlib.Omega.{arith}
use borrow.Author.Tests.{eq-eqb, eqb-true}
use lib.Dec.{leb}
use lib.ListN.{length}
use Rattle.format.specs.Bits.{value}
use Rattle.format.specs.Key.{below, separator, separator_length}
use Rattle.format.specs.Answer.{Answer, NoneHolds, Test, refuse}
use Rattle.format.specs.Page.{Entry, count, entries, entry_of, page_tests, page_refusal, read_entry}
use Rattle.format.specs.Sizes.{whole_from_stored}
use Rattle.format.specs.Ranges.{bits_copied, inside}
use Rattle.format.specs.Normal.{sum, Permitted, stored_lengths, bits_under, choice, keys, normal_page}
use Rattle.format.specs.Edit.{Edit, no_entry, apply, ascending}
use Rattle.format.specs.Undo.{undo_edits}
use Rattle.format.specs.Build.{Numbers, Built, build_tests, build}
use Rattle.facts.proofs.AnswerLaws.{Numbered, first_holds, FirstHolds-first, numbered_append, unless-FirstHolds, unless-refused}
use Rattle.facts.proofs.KeyLaws.{below-value-key, separator_length_bound, separator_length-last, separator_length_positive, separator_length-zero, shared_bits_all, shared_bits_bound, shared_bits_differ, shared_bits-take, value-below-key, value_inj_key}
use Rattle.facts.proofs.RangesLaws.{AllBelow-bits_copied, below-separator, bit_copy-value, bits_copied_before, bits_copied_behind, bits_copied_inner, IsKey-separator, length-bits_copied, separate-value, separator-not_above}
use Rattle.facts.proofs.EntryLaws.{Ascending, ascending-keys, length-keys}
use Rattle.facts.proofs.ChoiceLaws.{permitted_longer, bits_under-sum, choice_best, choice_permitted, choice-bits, choice-last, choice_fewest, fits-false}
use Rattle.facts.proofs.SizesLaws.{StoredFromWhole-stored, WholeFromStored-stored}
use Rattle.facts.proofs.AcceptedLaws.{accepted-page_refusal, read_entry-outside, entries_fewest, numbered_page_tests}
use Rattle.facts.proofs.NormalLaws.{length-normal_page, AllBelow-normal_page, page_number-normal_page, count-normal_page, entries-normal_page, page_refusal-normal_page, check_page-normal_page, read_entry-normal_page}
use Rattle.facts.proofs.RecordLaws.{AcceptedRecord, read_record-record_of, read_record-accepted}
use Rattle.facts.proofs.UndoLaws.{apply-undo_edits, any_outside-undo_edits, length-undo_edits, undo_edits_apart, undo_edits-some}
use Rattle.facts.proofs.BuildLaws.{Acceptable, Done, NotDone, NoneHolds-build_tests, acceptable_build_tests, build_accepts, build_acceptable, accepted_answer, build_done, build-refused, build-FirstHolds, build_same_entries, build_no_edits, refused_answer}
use Rattle.laws.proofs.BackLaws.{Held, held_base, held_new, build_back, build_back_normal, build_forth, build_undo_bound, build_no_base}
use Rattle.laws.proofs.RoomLaws.{Full, no_room}
use Rattle.laws.specs.Words.{OrderWords, LengthWords, SharedWords, SeparateWords, Between, CopyWords, CopiedFrom}
use Rattle.laws.specs.Pages.{Rising, ReadBack, CheckedBack, Fewest, Tie, PermittedChoice, Room, LaterLonger, SumFormula, StoredFromWhole, WholeFromStored, BaseFits, BaseBits, ReadsAs}
use Rattle.laws.specs.Records.{RecordBack, RecordOwn, UndoApplies, UndoInside, UndoCount, UndoRuns, UndoBound}
use Rattle.laws.specs.Builds.{FirstPageRefusal, FirstEntryRefusal, FirstRefusal, AcceptedExactly, Untouched, AcceptedBuild, Accepts, UndoKept, SameEntries, Back, BackNormal, Forth, NoBase, NoEdits, BuiltRead, BuiltFewest, BuiltNoRoom}

-- ---- Words

pub order_words : OrderWords
order_words a b ka kb = (
  (λ t. below-value-key a b ka kb t, λ l. value-below-key a b ka kb l),
  (λ e. value_inj_key a b ka kb (eqb-true (value a) (value b) e), λ e. eq-eqb (value a) (value b) (ap value e)),
)

pub length-words : LengthWords
length-words k y =
    record {
      low = separator_length_positive k;
      high = separator_length_bound k y;
      zeros = separator_length-zero k;
      last = separator_length-last k y.bits;
    }

pub shared-words : SharedWords
shared-words a b ka kb =
    record {
      high = omega (arith, shared_bits_bound a b, ka.size);
      agree = shared_bits-take a b;
      differ = λ h. shared_bits_differ a b (omega (arith, ka.size)) (omega (arith, kb.size));
      equal = λ e. shared_bits_all a b (omega (arith, ka.size)) (omega (arith, kb.size));
    }

pub separate-words : SeparateWords
separate-words a b c ka kb e =
    let v : (below a b ≡ true) × (c ≡ separator a b) = separate-value a b c e in
    subst (λ (k : List ℕ). Between a b k) (sym v.1)
    (record { is_key = IsKey-separator a b ka kb; above = below-separator a b ka kb v.0; not_above = separator-not_above a b ka kb })

pub copy-words : CopyWords
copy-words dst to src from len after e =
    let v : (inside (length dst) to len ≡ true) × (inside (length src) from len ≡ true) × (after ≡ bits_copied dst to src from len) =
    bit_copy-value dst to src from len after e in
    subst (λ (l : List ℕ). CopiedFrom dst to src from len l) (sym v.2)
    (record {
      size = length-bits_copied dst to src from len;
      bytes = AllBelow-bits_copied dst to src from len;
      inner = bits_copied_inner dst to src from len v.0 v.1;
      before = bits_copied_before dst to src from len v.0 v.1;
      behind = bits_copied_behind dst to src from len v.0 v.1;
    })

-- ---- 1. Reading back

pub read_back : ReadBack
read_back number es small r f =
    record {
      size = length-normal_page number es small r.one r.sound f;
      bytes = AllBelow-normal_page number es small r.one r.sound f;
      accepted = page_refusal-normal_page number es small r.one r.sound f r.rises;
      has_number = page_number-normal_page number es small r.one r.sound f;
      all = entries-normal_page number es small r.one r.sound f;
      each = λ i h. read_entry-normal_page number es small r.one r.sound f r.rises i no_entry h;
      past = λ i h.
          read_entry-outside (normal_page number es) i
          (accepted-page_refusal (normal_page number es) (page_refusal-normal_page number es small r.one r.sound f r.rises))
          (omega (arith, count-normal_page number es small r.one r.sound f));
    }

pub checked_back : CheckedBack
checked_back number es small r f = check_page-normal_page number es small r.one r.sound f r.rises

-- ---- 2, 3 and 4. The choice, room, lengths

module _ (es : List Entry) (r : Rising es) where
  some_key : 1 ≤ length (keys es)
  some_key = omega (arith, length-keys es, r.one)

  rising_keys : Ascending (keys es)
  rising_keys = ascending-keys es r.sound r.rises

pub fewest : Fewest
fewest es r m q p = choice_fewest (keys es) (some_key es r) (rising_keys es r) m q p

pub tie : Tie
tie ks z = ((choice_best ks z).is, (choice_best ks z).fewest, λ m l h. choice-last ks z m l h)

pub permitted_choice : PermittedChoice
permitted_choice ks z = (choice_permitted ks z, choice-bits ks z)

pub room : Room
room es r = fits-false es r.one (rising_keys es r)

pub later_longer : LaterLonger
later_longer es r m q i p h = permitted_longer (keys es) m q i (rising_keys es r) p h

pub sum_formula : SumFormula
sum_formula es r m q p = bits_under-sum (keys es) m q (rising_keys es r) p

pub stored_from_whole_lem : StoredFromWhole
unfolding keys
stored_from_whole_lem e es r small m q p = StoredFromWhole-stored e.key (keys es) (rising_keys (e ∷ es) r) small m q p

pub whole_from_stored_lem : WholeFromStored
unfolding keys
whole_from_stored_lem e es r small n q z p = go n (z ∙ ap suc (sym (length-keys es))) p
  where
    go : (k : ℕ) → k ≡ suc (length (keys es)) → Permitted (keys (e ∷ es)) k q
        → whole_from_stored q (sum (stored_lengths k q (keys (e ∷ es)))) k (separator_length e.key)
        ≡ Answer.Value (sum (map separator_length (keys (e ∷ es))))
    go k y =
        subst (λ (j : ℕ). Permitted (keys (e ∷ es)) j q
        → whole_from_stored q (sum (stored_lengths j q (keys (e ∷ es)))) j (separator_length e.key)
        ≡ Answer.Value (sum (map separator_length (keys (e ∷ es))))) (sym y)
        (λ x. WholeFromStored-stored e.key (keys es) (rising_keys (e ∷ es) r) small q x)

-- ---- 5. An accepted page

pub base_fits : BaseFits
base_fits p b ok =
    let h : Held (entries p) = held_base p b ok in
    (record { one = h.one; sound = h.sound; rises = h.rising }, h.fitting)

pub base_bits_lem : BaseBits
base_bits_lem p ok = entries_fewest p (accepted-page_refusal p ok)

-- ---- 6. The edit record

pub record_back : RecordBack
record_back es w h = read_record-record_of es w h

pub record_own : RecordOwn
record_own r es b e =
    let a : AcceptedRecord r es = read_record-accepted r es b e in
    (a.formed, a.count, a.bytes)

-- ---- 7. The undo record

pub undo_applies : UndoApplies
undo_applies base new b n =
    let e : apply new (undo_edits base new) ≡ base = apply-undo_edits base new b.sound n in
    (e, ap ascending e ∙ b.rises)

pub undo_inside : UndoInside
undo_inside base new = any_outside-undo_edits base new

pub undo_count : UndoCount
undo_count base new h = (undo_edits-some base new h, length-undo_edits base new)

pub undo_bound : UndoBound
undo_bound base rec number page undo v b e = build_undo_bound base rec number page undo v b e

pub undo_runs : UndoRuns
undo_runs base new before after s e t f q = undo_edits_apart base new before after s e t f q

-- ---- 8. Demand 3

pub back : Back
back base rec number page undo v o page₂ undo₂ l =
    build_back base rec number page undo v o.base_bytes o.record_bytes o.small o.base_accepted o.answered page₂ undo₂ l.size l.room

pub back_normal : BackNormal
back_normal base rec number page undo v o page₂ undo₂ l =
    build_back_normal base rec number page undo v o.base_bytes o.record_bytes o.small o.base_accepted o.answered page₂ undo₂ l.size l.room

pub forth : Forth
forth base rec number page undo v o page₂ undo₂ l w e page₃ undo₃ m =
    build_forth base rec number page undo v o.base_bytes o.record_bytes o.small o.base_accepted o.answered page₂ undo₂ l.size l.room w e page₃ undo₃ m.size m.room

-- ---- 9. What a build depends on

pub same_entries : SameEntries
same_entries base other rec number page undo h g e = build_same_entries base other rec number page undo h g e

-- ---- 10. Refusals and lent memory

pub first-page_refusal : FirstPageRefusal
unfolding page_refusal
first-page_refusal p r = (λ e. first_holds (page_tests p) r e, λ f. FirstHolds-first (page_tests p) (suc r) f)

pub first-entry_refusal : FirstEntryRefusal
unfolding read_entry
first-entry_refusal p i r =
    let last : List Test = refuse 16 (leb (count p) i) ∷ [] in
    let numbered : Numbered (page_tests p ++ last) = numbered_append (page_tests p) last (numbered_page_tests p) (omega arith, tt) in
    (λ e. unless-refused (page_tests p ++ last) (entry_of p i) r e, λ f. unless-FirstHolds (page_tests p ++ last) (entry_of p i) r numbered f)

pub first_refusal : FirstRefusal
first_refusal base rec number page undo r = (
  λ e. (build-refused base rec number page undo r e).first_test,
  λ f. ap (λ (x : Built). x.answer) (build-FirstHolds base rec number page undo r f) ∙ refused_answer r page undo,
)

pub accepted_exactly : AcceptedExactly
accepted_exactly base rec number page undo = (accepts, answers)
  where
    accepts : (v : Numbers) × ((build base rec number page undo).answer ≡ Answer.Value v) → NoneHolds (build_tests base rec page undo)
    accepts x =
        let found : (es : List Edit) × Acceptable base rec page undo es =
        build_acceptable base rec number page undo x.0 x.1 in
        NoneHolds-build_tests base rec page undo found.0 found.1

    answers : NoneHolds (build_tests base rec page undo) → (v : Numbers) × ((build base rec number page undo).answer ≡ Answer.Value v)
    answers h =
        let found : (es : List Edit) × Acceptable base rec page undo es = acceptable_build_tests base rec page undo h in (
          _,
          ap (λ (x : Built). x.answer) (build_accepts base rec number page undo found.0 found.1)
              ∙ accepted_answer (entries base) (apply (entries base) found.0) number undo,
        )

pub untouched : Untouched
untouched base rec number page undo r e =
    let d : NotDone base rec page undo r (build base rec number page undo) = build-refused base rec number page undo r e in
    (d.page_bytes, d.undo_bytes)

pub accepted-build : AcceptedBuild
accepted-build base rec number page undo v e =
    let after : Built = build base rec number page undo in
    let d : Done base rec number page undo v after = build_done base rec number page undo v e in
    let found : Accepts base d.new number v after =
    record {
      n = ap (λ (x : Numbers). x.n) d.numbers;
      m = ap (λ (x : Numbers). x.m) d.numbers;
      q = ap (λ (x : Numbers). x.q) d.numbers;
      bits = ap (λ (x : Numbers). x.bits) d.numbers;
      undo = d.undo_size_lem;
      page = d.page_bytes;
      record_bytes = d.undo_bytes;
    } in
    (d.es, d.acceptable.edits, subst (λ (new : List Entry). Accepts base new number v after) d.new_entries found)

pub undo_kept : UndoKept
undo_kept base rec number page undo v e = (build_done base rec number page undo v e).undo_rest

-- ---- 11. No base

pub no_base : NoBase
no_base rec number page undo v e = build_no_base rec number page undo v e

pub no_edits : NoEdits
no_edits p number page undo ok size = build_no_edits p number page undo ok size

-- ---- 12. What a build gives

pub built-read : BuiltRead
built-read base rec number page undo v b c small e =
    let after : Built = build base rec number page undo in
    let d : Done base rec number page undo v after = build_done base rec number page undo v e in
    let new : List Entry = apply (entries base) d.es in
    let h : Held new = held_new base rec page undo d.es b c d.acceptable in
    let r : Rising new = record { one = h.one; sound = h.sound; rises = h.rising } in
    let p : after.page ≡ normal_page number new = d.page_bytes ∙ ap (normal_page number) d.new_entries in
    (d.es, d.acceptable.edits, r, subst (λ (x : List ℕ). ReadsAs x number new) (sym p) (read_back number new small r h.fitting))

pub built_fewest : BuiltFewest
built_fewest base rec number page undo v b c e =
    let d : Done base rec number page undo v (build base rec number page undo) = build_done base rec number page undo v e in
    let new : List Entry = apply (entries base) d.es in
    let h : Held new = held_new base rec page undo d.es b c d.acceptable in
    let r : Rising new = record { one = h.one; sound = h.sound; rises = h.rising } in
    let s : v.bits ≡ (choice (keys new)).bits =
    ap (λ (x : Numbers). x.bits) d.numbers ∙ ap (λ (l : List Entry). (choice (keys l)).bits) d.new_entries in
    (d.es, d.acceptable.edits, λ m q p. subst (λ (k : ℕ). k ≤ bits_under (keys new) m q) (sym s) (fewest new r m q p))

pub built_no_room : BuiltNoRoom
built_no_room base rec number page undo b c e =
    let found : (es : List Edit) × Full base rec es = no_room base rec number page undo b c e in
    let f : Full base rec found.0 = found.1 in
    (found.0, f.edits, f.rising, (room (apply (entries base) found.0) f.rising).0 f.full)
