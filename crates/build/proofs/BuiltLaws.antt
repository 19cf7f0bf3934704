-- Laws of a whole build: what it answers and leaves, by where it stops.
-- In order: refused by the base, by the output page, by the rest; accepted; what is known before page and undo buffer
-- are written, and what is written.
-- Assumes nothing.
use mathlib.Core.Bool.{Bool, false, not, true}
use mathlib.Core.List.{List, ◌∷◌, ◌++◌}
use mathlib.Core.Path.{◌≡◌, refl, sym, ap, ap₂, subst, ◌∙◌}
use Prim.Native.Nat.{ℕ, zero, suc, ◌≤◌, ◌<◌}
use native.Mathlib.Nat.{not-suc-le-zero}
use native.Mathlib.Omega.{arith}
use borrow.Author.Tests.{eq-eqb, ne_eqb, not-false}
use lib.Dec.{eqb}
use lib.ListN.{length, drop, get_or, take}
use Rattle.format.specs.Answer.{Answer, first, refuse}
use Rattle.format.specs.Build.{Built, Numbers, accepted, base_tests, build, build_tests, edit_tests, edits_of, refused}
use Rattle.format.specs.Edit.{apply, ascending, no_entry, read_record}
use Rattle.format.specs.Normal.{choice, fits, keys, normal_page, page_under}
use Rattle.format.specs.Page.{Entry, Sound, compressed, count, entries, entry_of, key_of, page_refusal, prefix_length}
use Rattle.format.specs.Undo.{undo_record}
use Rattle.facts.proofs.AcceptedLaws.{Accepted, accepted-page_refusal}
use Rattle.facts.proofs.AnswerLaws.{first-none, first_stop}
use Rattle.facts.proofs.BuildLaws.{build-none, build_refuses, build_tests_later, first_later, later_tests}
use Rattle.facts.proofs.PageLaws.{entries_at}
use Rattle.shape.specs.declared.Header.{Header}
use Rattle.rows.specs.Rows.{row_key, row_source, rows}
use Rattle.rows.specs.declared.table.Row.{Row}
use Rattle.rows.proofs.RowsLaws.{length-rows}
use Rattle.builder.specs.Over.{page_over, usable}
use Rattle.builder.specs.Writes.{Wrote}
use Rattle.builder.proofs.BaseLaws.{wrote_based}
use Rattle.builder.proofs.WriteLaws.{wrote_none, wrote_normal}
use Rattle.build.specs.declared.Numbers.{Numbers as CodeNumbers}
use Rattle.build.specs.Built.{Held, Old, Planned, Ready, change_tests, numbers_meant}

-- what a build answers and leaves
pub record Left (after : Built) (answer : Answer Numbers) (page undo : List ℕ) : Type 0 where
  pub answer_is : answer ≡ after.answer
  pub page_is : page ≡ after.page
  pub undo_is : undo ≡ after.undo

module _ (base rec : List ℕ) (number : ℕ) (page undo : List ℕ) where
  abbrev after : Built
  after = build base rec number page undo

  refused_left : (r : ℕ) → first (build_tests base rec page undo) ≡ r → 1 ≤ r
      → Left after (Answer.Refused r) page undo
  unfolding refused
  refused_left zero e h = absurd (not-suc-le-zero h)
  refused_left (suc r) e h =
      let q : after ≡ refused (suc r) page undo = build_refuses base rec number page undo r e in
      record {
        answer_is = sym (ap (λ (b : Built). b.answer) q);
        page_is = sym (ap (λ (b : Built). b.page) q);
        undo_is = sym (ap (λ (b : Built). b.undo) q);
      }

  -- ---- by the base

  pub left_base : (r : ℕ) → first (base_tests base) ≡ r → 1 ≤ r → Left after (Answer.Refused r) page undo
  left_base r e h = refused_left r (ap first (build_tests_later base rec page undo) ∙ go r e h) h
    where
      go : (k : ℕ) → first (base_tests base) ≡ k → 1 ≤ k
          → first (base_tests base ++ later_tests (entries base) rec page undo) ≡ k
      go zero q l = absurd (not-suc-le-zero l)
      go (suc k) q l = first_stop (base_tests base) (later_tests (entries base) rec page undo) k q

  -- ---- by what comes later

  module _ (h : Header) (old : List Row) (b : Held base h old) where
    later_split : later_tests (entries base) rec page undo
        ≡ refuse 9 (not (eqb (length page) 4096)) ∷ change_tests (entries base) rec (length undo)
    unfolding change_tests
    later_split = refl

    first_9 : (length page ≡ 4096 → ⊥) → first (later_tests (entries base) rec page undo) ≡ 9
    unfolding first
    first_9 z = rw (ne_eqb (length page) 4096 z)

    pub left_page : (length page ≡ 4096 → ⊥) → Left after (Answer.Refused 9) page undo
    left_page z = refused_left 9 (first_later base rec page undo b.given ∙ first_9 z) (omega arith)

    pub old_rows : Old h.n old
    old_rows = record {
      few = b.few;
      sound = subst Sound (sym b.held) b.sound;
      rising = ap ascending b.held ∙ b.rising;
    }

    module _ (size : length page ≡ 4096) where
      first_changes : first (build_tests base rec page undo) ≡ first (change_tests (rows h.n old) rec (length undo))
      unfolding first
      first_changes =
          first_later base rec page undo b.given ∙ ap first later_split
          ∙ rw (eq-eqb (length page) 4096 size) (ap (λ (x : List Entry). first (change_tests x rec (length undo))) (sym b.held))

      pub left_plan : (r : ℕ) → first (change_tests (rows h.n old) rec (length undo)) ≡ r → 1 ≤ r
          → Left after (Answer.Refused r) page undo
      left_plan r e l = refused_left r (first_changes ∙ e) l

      -- ---- accepted

      module _ (v : CodeNumbers) (new : List Row) (scratch : List ℕ)
          (p : Planned (rows h.n old) rec (length undo) v new scratch) where
        pub left_accepted : (page' undo' : List ℕ) → page' ≡ normal_page number (rows v.n new)
            → undo' ≡ take v.undo scratch ++ drop v.undo undo
            → Left after (Answer.Value (numbers_meant v)) page' undo'
        unfolding accepted
        left_accepted page' undo' ep eu =
            let now : List Entry = rows v.n new in
            let made : apply (entries base) (edits_of (read_record rec)) ≡ now =
            ap (λ (x : List Entry). apply x (edits_of (read_record rec))) (sym b.held) ∙ sym p.made in
            let q : after ≡ accepted (entries base) now number undo =
            build-none base rec number page undo (first_changes ∙ first-none (change_tests (rows h.n old) rec (length undo)) p.none)
            ∙ ap (λ (x : List Entry). accepted (entries base) x number undo) made in
            let u : undo_record (rows h.n old) now ≡ undo_record (entries base) now =
            ap (λ (x : List Entry). undo_record x now) b.held in
            let w : numbers_meant v ≡ record { n = length now; m = (choice (keys now)).m; q = (choice (keys now)).q; bits = (choice (keys now)).bits; undo = length (undo_record (entries base) now) } =
            p.numbers ∙ ap (λ (x : List ℕ). record { n = length now; m = (choice (keys now)).m; q = (choice (keys now)).q; bits = (choice (keys now)).bits; undo = length x }) u in
            record {
              answer_is = ap Answer.Value w ∙ sym (ap (λ (x : Built). x.answer) q);
              page_is = ep ∙ sym (ap (λ (x : Built). x.page) q);
              undo_is =
                  eu ∙ ap₂ (λ (x : List ℕ) (i : ℕ). x ++ drop i undo) (p.undo ∙ u) (ap (λ (x : Numbers). x.undo) w)
                  ∙ sym (ap (λ (x : Built). x.undo) q);
            }

        -- ---- before page and undo buffer are written

        fitting : fits (rows v.n new) ≡ true
        unfolding change_tests edit_tests
        fitting =
            ap fits p.made
            ∙ not-false (fits (apply (rows h.n old) (edits_of (read_record rec)))) p.none.1.1.1.1.0

        keys_from : 1 ≤ h.m → (i : ℕ) → i < v.n → row_source new i < h.m
            → row_key new i ≡ key_of base (row_source new i)
        unfolding entry_of
        keys_from m i l s =
            let g : (page_refusal base ≡ 0) × (h.n ≡ count base) × (h.m ≡ compressed base) × (h.q ≡ prefix_length base) = b.page m in
            let a : Accepted base = accepted-page_refusal base g.0 in
            p.from i l (omega (arith, length-rows h.n old, g.1, g.2, a.compresses_no_more))
            ∙ ap (λ (x : List Entry). (get_or x (row_source new i) no_entry).key) b.held
            ∙ ap (λ (x : Entry). x.key)
            (entries_at base (row_source new i) no_entry (omega (arith, g.1, g.2, a.compresses_no_more)))

        pub ready : Ready base h v new page scratch undo
        ready = record {
          page_size = size;
          entry = p.entry;
          fitting = fitting;
          m_is = ap (λ (x : Numbers). x.m) p.numbers;
          q_is = ap (λ (x : Numbers). x.q) p.numbers;
          based = λ m. record {
            accepted = (b.page m).0;
            has_count = (b.page m).1;
            has_compressed = (b.page m).2;
            has_prefix = (b.page m).3;
            sources = keys_from m;
          };
          made = omega (arith, p.small, p.size);
          room = p.room_for;
        }

-- ---- what is written

module _ (base : List ℕ) (h : Header) (v : CodeNumbers) (new : List Row) (page scratch undo : List ℕ)
    (y : Ready base h v new page scratch undo) (number : ℕ) (r : Bool) (page' : List ℕ) where
  unhelped : h.m ≡ 0
      → Wrote page new v.n v.m v.q (page_over number base h.n h.m h.q new v.n v.m v.q) r page'
      → Wrote page new v.n v.m v.q (page_under number (rows v.n new) v.m v.q) r page'
  unfolding page_over
  unhelped z w = go (usable base h.n 0 h.q v.q) refl
    where
      none : Wrote page new v.n v.m v.q (page_over number base h.n 0 h.q new v.n v.m v.q) r page'
      none = subst (λ (x : ℕ). Wrote page new v.n v.m v.q (page_over number base h.n x h.q new v.n v.m v.q) r page') z w

      go : (c : Bool) → usable base h.n 0 h.q v.q ≡ c
          → Wrote page new v.n v.m v.q (page_under number (rows v.n new) v.m v.q) r page'
      go true e =
          wrote_none page base new number h.n v.n v.m v.q r page'
          (subst (λ (x : List ℕ). Wrote page new v.n v.m v.q x r page') (rw e) none)
      go false e = subst (λ (x : List ℕ). Wrote page new v.n v.m v.q x r page') (rw e) none

  pub written_page : Wrote page new v.n v.m v.q
      (page_over number base h.n h.m h.q new v.n v.m v.q) r page'
      → page' ≡ normal_page number (rows v.n new)
  written_page w =
      (wrote_normal page new number v.n v.m v.q r page' y.page_size y.entry y.fitting y.m_is y.q_is
      (go h.m refl)).1
    where
      go : (m : ℕ) → h.m ≡ m
          → Wrote page new v.n v.m v.q (page_under number (rows v.n new) v.m v.q) r page'
      go zero e = unhelped e w
      go (suc m) e =
          wrote_based page base new number v.n h.n h.m h.q v.m v.q r page' (y.based (omega arith)) w
