-- Laws of building back: the undo record of an accepted build brings the base's entries back, and that build's undo
-- record the new ones (document 01's demand 3).
-- In order: entries that a normal page holds (`Held`), of a base and of an accepted build; the undo record over a
-- page; back and forth; the undo record's length; no base.
-- Not here: that a normal page reads back (`NormalLaws`); what undo edits make (`UndoLaws`).
-- Assumes nothing.
use mathlib.Core.Bool.{true}
use mathlib.Core.List.{List, [], ◌∷◌}
use mathlib.Core.Logic.{inl, inr, ◌⊎◌}
use mathlib.Core.Option.{some}
use mathlib.Core.Path.{ap, ap₂, refl, subst, sym, ◌∙◌, ◌≡◌}
use Prim.Native.Nat.{◌<◌, ◌^◌, ℕ, ◌≤◌}
use native.Mathlib.Omega.{arith}
use lib.ListN.{drop, length, take}
use lib.Seq.{take_at}
use Rattle.format.specs.Bits.{AllBelow}
use Rattle.format.specs.Answer.{Answer}
use Rattle.format.specs.Page.{Entry, Sound, entries, page_number, page_refusal}
use Rattle.format.specs.Normal.{fits, normal_page}
use Rattle.format.specs.Edit.{Edit, any_outside, apply, ascending, read_record}
use Rattle.format.specs.Undo.{undo_edits, undo_record}
use Rattle.format.specs.Build.{Built, Numbers, accepted, build}
use Rattle.facts.proofs.ChoiceLaws.{fits_most}
use Rattle.facts.proofs.PageLaws.{entries_sound, length-entries, page_number_bound}
use Rattle.facts.proofs.AcceptedLaws.{Accepted, accepted-page_refusal, entries-ascending, entries_fit}
use Rattle.facts.proofs.NormalLaws.{entries-normal_page, page_refusal-normal_page}
use Rattle.facts.proofs.RecordLaws.{read_record-accepted, read_record-record_of}
use Rattle.facts.proofs.EditLaws.{length-apply, sound_apply}
use Rattle.facts.proofs.UndoLaws.{AllWellFormed-undo_edits, any_outside-undo_edits, apply-undo_edits, length-undo_edits, length-undo_record, undo_edits-some, undo_record_edits, undo_record-nil}
use Rattle.facts.proofs.BuildLaws.{Acceptable, Done, accepted_answer, accepted-page, accepted_undo, build_acceptable, build_accepts, build_done, value_same}
use Rattle.laws.specs.Builds.{again, Gives}

-- ---- entries that a normal page holds

-- entries that a normal page holds
pub record Held (es : List Entry) : Type 0 where
  pub one : 1 ≤ length es
  pub sound : Sound es
  pub rising : ascending es ≡ true
  pub fitting : fits es ≡ true

pub held_base : (p : List ℕ) → AllBelow 256 p → page_refusal p ≡ 0 → Held (entries p)
held_base p b ok =
    let a : Accepted p = accepted-page_refusal p ok in
    record { one = omega (arith, length-entries p, a.entry); sound = entries_sound p b; rising = entries-ascending p a; fitting = entries_fit p a }

pub held_new : (base rec page undo : List ℕ) (es : List Edit) → AllBelow 256 base → AllBelow 256 rec → Acceptable base rec page undo es
    → Held (apply (entries base) es)
held_new base rec page undo es b c h =
    record {
      one = omega (arith, length-apply (entries base) es h.inside, h.one);
      sound = sound_apply (entries base) es (entries_sound base b) (read_record-accepted rec es c h.edits).formed h.inside;
      rising = h.rising;
      fitting = h.fitting;
    }

-- ---- the undo record over a page

module _ (old now : List Entry) (ho : Held old) (hn : Held now) (p : List ℕ) (ok : page_refusal p ≡ 0) (read : entries p ≡ now)
    (page undo : List ℕ) (size : length page ≡ 4096) (room : 24688 ≤ length undo) where
  undo_edits_lem : read_record (undo_record old now) ≡ some (undo_edits old now)
  undo_edits_lem =
      let m : length old ≤ 681 = fits_most old ho.fitting in
      let n : length now ≤ 681 = fits_most now hn.fitting in
      let l : length (undo_edits old now) ≤ length old = length-undo_edits old now in
      ap read_record (undo_record_edits old now) ∙ read_record-record_of (undo_edits old now) (AllWellFormed-undo_edits old now ho.sound (omega arith)) (omega arith)

  applied : apply (entries p) (undo_edits old now) ≡ old
  applied = ap (λ (b : List Entry). apply b (undo_edits old now)) read ∙ apply-undo_edits old now ho.sound hn.sound

  undo_acceptable : Acceptable p (undo_record old now) page undo (undo_edits old now)
  undo_acceptable =
      let m : length old ≤ 681 = fits_most old ho.fitting in
      let n : length now ≤ 681 = fits_most now hn.fitting in
      let l : length (undo_record now old) ≤ 24688 = length-undo_record now old hn.sound (omega arith) n in
      record {
        base_accepted = inr ok;
        page_size = size;
        edits = undo_edits_lem;
        inside = ap (λ (b : List Entry). any_outside (length b) (undo_edits old now)) read ∙ any_outside-undo_edits old now;
        one = undo_edits-some old now ho.one;
        rising = ap ascending applied ∙ ho.rising;
        fitting = ap fits applied ∙ ho.fitting;
        room =
            subst (λ (b : List Entry). length (undo_record (entries p) b) ≤ length undo) (sym applied)
            (subst (λ (b : List Entry). length (undo_record b old) ≤ length undo) (sym read) (omega arith));
      }

  -- a build over a page that holds `now`, with the record that undoes it, accepts and makes `old`
  pub build_undo : (number : ℕ) → build p (undo_record old now) number page undo ≡ accepted now old number undo
  build_undo number =
      build_accepts p (undo_record old now) number page undo (undo_edits old now) undo_acceptable
      ∙ ap₂ (λ (a b : List Entry). accepted a b number undo) read applied

-- ---- back and forth

accepted-gives : (base new : List Entry) (number : ℕ) (undo : List ℕ)
    → Gives (accepted base new number undo) (normal_page number new)
accepted-gives base new number undo = record { numbers = _; answered = accepted_answer base new number undo; page = accepted-page base new number undo }

accepted_undo_record : (base new : List Entry) (number : ℕ) (undo : List ℕ) (v : Numbers)
    → (accepted base new number undo).answer ≡ Answer.Value v
    → take v.undo (accepted base new number undo).undo ≡ undo_record base new
accepted_undo_record base new number undo v e =
    let u : List ℕ = undo_record base new in
    let size : v.undo ≡ length u = ap (λ (x : Numbers). x.undo) (value_same v _ (sym e ∙ accepted_answer base new number undo)) in
    ap₂ take size (accepted_undo base new number undo) ∙ take_at u (drop (length u) undo) (length u) refl

-- a build that made `now` out of `old` is again
again-accepted : (old now : List Entry) (number : ℕ) (undo : List ℕ) (after : Built) (v : Numbers) → Held old → Held now
    → number < 2 ^ 32
    → after ≡ accepted old now number undo → after.answer ≡ Answer.Value v
    → (other : ℕ) (page₂ undo₂ : List ℕ) → length page₂ ≡ 4096 → 24688 ≤ length undo₂ → again after v other page₂ undo₂
    ≡ accepted now old other undo₂
again-accepted old now number undo after v ho hn small q e other page₂ undo₂ size room =
    let ok : page_refusal (normal_page number now) ≡ 0 =
    page_refusal-normal_page number now small hn.one hn.sound hn.fitting hn.rising in
    let read : entries (normal_page number now) ≡ now = entries-normal_page number now small hn.one hn.sound hn.fitting in
    let left : take v.undo after.undo ≡ undo_record old now =
    ap (λ (b : Built). take v.undo b.undo) q ∙ accepted_undo_record old now number undo v (sym (ap (λ (b : Built). b.answer) q) ∙ e) in
    ap₂ (λ (p r : List ℕ). build p r other page₂ undo₂) (ap (λ (b : Built). b.page) q ∙ accepted-page old now number undo) left
    ∙ build_undo old now ho hn (normal_page number now) ok read page₂ undo₂ size room other

-- an accepted build over an accepted base, and lent memory for a second
module _ (base rec : List ℕ) (number : ℕ) (page undo : List ℕ) (v : Numbers)
    (base_bytes : AllBelow 256 base) (rec-bytes : AllBelow 256 rec) (small : number < 2 ^ 32)
    (base_accepted : page_refusal base ≡ 0) (built : (build base rec number page undo).answer ≡ Answer.Value v)
    (page₂ undo₂ : List ℕ) (size₂ : length page₂ ≡ 4096) (room₂ : 24688 ≤ length undo₂) where
  -- both builds, by the entries
  record Twice : Type 0 where
    new : List Entry
    held : Held new
    once : build base rec number page undo ≡ accepted (entries base) new number undo
    twice : again (build base rec number page undo) v (page_number base) page₂ undo₂
        ≡ accepted new (entries base) (page_number base) undo₂

  both : Twice
  both =
      let found : (es : List Edit) × Acceptable base rec page undo es = build_acceptable base rec number page undo v built in
      let new : List Entry = apply (entries base) found.0 in
      let held : Held new = held_new base rec page undo found.0 base_bytes rec-bytes found.1 in
      let once : build base rec number page undo ≡ accepted (entries base) new number undo =
      build_accepts base rec number page undo found.0 found.1 in
      record {
        new = new;
        held = held;
        once = once;
        twice =
            again-accepted (entries base) new number undo (build base rec number page undo) v
            (held_base base base_bytes base_accepted) held small once built (page_number base) page₂ undo₂ size₂ room₂;
      }

  -- the second build is never refused and gives the normal page of the base's entries
  pub build_back : Gives (again (build base rec number page undo) v (page_number base) page₂ undo₂) (normal_page (page_number base) (entries base))
  build_back =
      let b : Twice = both in
      subst (λ (x : Built). Gives x (normal_page (page_number base) (entries base))) (sym b.twice) (accepted-gives b.new (entries base) (page_number base) undo₂)

  -- byte for byte the base if that was normal
  pub build_back_normal : base ≡ normal_page (page_number base) (entries base)
      → Gives (again (build base rec number page undo) v (page_number base) page₂ undo₂) base
  build_back_normal normal =
      let b : Gives (again (build base rec number page undo) v (page_number base) page₂ undo₂) (normal_page (page_number base) (entries base)) =
      build_back in
      record { numbers = b.numbers; answered = b.answered; page = b.page ∙ sym normal }

  -- the second build's undo record, with the new page's number, gives the new page again
  pub build_forth : (w : Numbers) → (again (build base rec number page undo) v (page_number base) page₂ undo₂).answer ≡ Answer.Value w
      → (page₃ undo₃ : List ℕ) → length page₃ ≡ 4096 → 24688 ≤ length undo₃
      → Gives (again (again (build base rec number page undo) v (page_number base) page₂ undo₂) w number page₃ undo₃) (build base rec number page undo).page
  build_forth w e page₃ undo₃ size₃ room₃ =
      let b : Twice = both in
      let second : Built = again (build base rec number page undo) v (page_number base) page₂ undo₂ in
      let q : again second w number page₃ undo₃ ≡ accepted (entries base) b.new number undo₃ =
      again-accepted b.new (entries base) (page_number base) undo₂ second w b.held (held_base base base_bytes base_accepted)
      (page_number_bound base base_bytes) b.twice e number page₃ undo₃ size₃ room₃ in
      let g : Gives (accepted (entries base) b.new number undo₃) (normal_page number b.new) =
      accepted-gives (entries base) b.new number undo₃ in
      subst (λ (x : Built). Gives x (build base rec number page undo).page) (sym q)
      (record { numbers = g.numbers; answered = g.answered; page = g.page ∙ sym (ap (λ (x : Built). x.page) b.once ∙ accepted-page (entries base) b.new number undo) })

-- ---- the undo record's length, and no base

entries-nil : entries [] ≡ []
unfolding entries
entries-nil = refl

-- no more than 681 entries in a base
entries_most : (base : List ℕ) → (base ≡ []) ⊎ (page_refusal base ≡ 0) → length (entries base) ≤ 681
entries_most base (inl e) = omega (arith, ap length (ap entries e ∙ entries-nil))
entries_most base (inr ok) = fits_most (entries base) (entries_fit base (accepted-page_refusal base ok))

pub build_undo_bound : (base rec : List ℕ) (number : ℕ) (page undo : List ℕ) (v : Numbers) → AllBelow 256 base
    → (build base rec number page undo).answer ≡ Answer.Value v → v.undo ≤ 24688
build_undo_bound base rec number page undo v b e =
    let d : Done base rec number page undo v (build base rec number page undo) = build_done base rec number page undo v e in
    let few : length d.new ≤ 681 = fits_most d.new (ap fits d.new_entries ∙ d.acceptable.fitting) in
    omega (arith, d.undo_size_lem, length-undo_record (entries base) d.new (entries_sound base b) (omega arith) (entries_most base d.acceptable.base_accepted))

-- the undo record of a build with no base is 00 00
pub build_no_base : (rec : List ℕ) (number : ℕ) (page undo : List ℕ) (v : Numbers)
    → (build [] rec number page undo).answer ≡ Answer.Value v
    → take v.undo (build [] rec number page undo).undo ≡ 0 ∷ 0 ∷ []
build_no_base rec number page undo v e =
    let d : Done [] rec number page undo v (build [] rec number page undo) = build_done [] rec number page undo v e in
    d.undo_bytes ∙ ap (λ (b : List Entry). undo_record b d.new) entries-nil ∙ undo_record-nil d.new
