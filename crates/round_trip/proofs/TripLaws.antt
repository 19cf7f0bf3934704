-- Laws of the round trip: bytes that are the same; the normal page of a base; builds that bring a page; and demand 3,
-- that an accepted build over a base always comes back (`comes_back`).
-- Assumes nothing.
use mathlib.Core.Bool.{Bool, true, false, ◌&&◌, false≢true}
use mathlib.Core.List.{List, [], ◌∷◌}
use mathlib.Core.Logic.{◌⊎◌, inl, inr}
use mathlib.Core.Path.{◌≡◌, refl, sym, ap, ap₂, ◌∙◌}
use Prim.Native.Nat.{ℕ, ◌≤◌, ◌<◌}
use native.Mathlib.Omega.{arith}
use borrow.Author.Tests.{eq-eqb, eqb-true, ne_eqb}
use lib.Dec.{eqb}
use lib.Pointwise.{pointwise}
use lib.ListN.{length, length-replicate, length-take, take}
use Rattle.format.specs.Answer.{Answer, first, unless}
use Rattle.format.specs.Build.{Built, Numbers, build}
use Rattle.format.specs.Normal.{Choice, choice, fits, keys, normal_page, page_under}
use Rattle.format.specs.Page.{Entry, check_page, entries, page_number, page_refusal}
use Rattle.facts.proofs.AcceptedLaws.{Accepted, accepted-page_refusal, entries_fit, keys-entries-ascending}
use Rattle.facts.proofs.AnswerLaws.{and_left, and_right}
use Rattle.facts.proofs.BuildLaws.{Done, build_done}
use Rattle.laws.specs.Builds.{Gives, Lent, Once}
use Rattle.laws.proofs.Proved.{back, forth}
use Rattle.shape.specs.declared.Header.{Header}
use Rattle.shape.specs.Shape.{SizesFit, header_meant}
use Rattle.node.specs.Reader.{loaded}
use Rattle.shape.proofs.CheckedLaws.{checked_accepted, checked_fits, checked_refused}
use Rattle.node.proofs.LoadedLaws.{loaded-rows}
use Rattle.rows.specs.Rows.{rows}
use Rattle.rows.specs.declared.table.Row.{Row}
use Rattle.branch_ops.specs.Choice.{chosen_of}
use Rattle.branch_ops.proofs.ChoiceLaws.{chosen_of_normal}
use Rattle.builder.specs.Writes.{Wrote}
use Rattle.builder.proofs.WriteLaws.{wrote_normal}
use Rattle.round_trip.specs.Trip.{and_again, blank_page, blank_undo, brings_again, brings_back, gives, is_normal, same_bytes}

-- ---- the same bytes

same_bytes-refl : (a : List ℕ) → same_bytes a a ≡ true
unfolding same_bytes
same_bytes-refl [] = refl
same_bytes-refl (x ∷ xs) = ap₂ ◌&&◌ (eq-eqb x x refl) (same_bytes-refl xs)

pub same_bytes-true : (a b : List ℕ) → same_bytes a b ≡ true → a ≡ b
unfolding same_bytes
same_bytes-true [] [] e = refl
same_bytes-true [] (y ∷ ys) e = absurd (false≢true e)
same_bytes-true (x ∷ xs) [] e = absurd (false≢true e)
same_bytes-true (x ∷ xs) (y ∷ ys) e =
    ap₂ ◌∷◌ (eqb-true x y (and_left (eqb x y) (same_bytes xs ys) e))
    (same_bytes-true xs ys (and_right (eqb x y) (same_bytes xs ys) e))

-- a test that is exact is this one
pub same_bytes_is : (a b : List ℕ) (r : Bool) → (r ≡ true → a ≡ b) → (a ≡ b → r ≡ true) → r ≡ same_bytes a b
same_bytes_is a b r f g = go (same_bytes a b) r refl refl
  where
    go : (x y : Bool) → same_bytes a b ≡ x → r ≡ y → y ≡ x
    go true y ex ey = sym ey ∙ g (same_bytes-true a b ex)
    go false false ex ey = refl
    go false true ex ey = sym (sym ex ∙ ap (same_bytes a) (sym (f ey)) ∙ same_bytes-refl a)

-- what `==` of two slices answers
pub pointwise-same_bytes : (a b : List ℕ) → pointwise eqb a b ≡ same_bytes a b
unfolding same_bytes
pointwise-same_bytes [] [] = refl
pointwise-same_bytes [] (y ∷ ys) = refl
pointwise-same_bytes (x ∷ xs) [] = refl
pointwise-same_bytes (x ∷ xs) (y ∷ ys) = ap (λ (b : Bool). eqb x y && b) (pointwise-same_bytes xs ys)

-- ---- the normal page of a base

module _ (base : List ℕ) where
  pub not_normal : (r : ℕ) (p : List ℕ) → Answer.Refused r ≡ check_page base → false ≡ is_normal base p
  unfolding is_normal
  not_normal r p e =
      let k : (page_refusal base ≡ r) × (0 < r) = checked_refused base r e in
      sym (rw (ne_eqb (page_refusal base) 0 (λ z. omega (arith, k.0, k.1))))

  module _ (h : Header) (e : Answer.Value (header_meant h) ≡ check_page base) (t₀ t : List Row) (size : length t₀ ≡ 682)
      (et : t ≡ loaded base t₀) where
    ok : page_refusal base ≡ 0
    ok = checked_accepted base (header_meant h) e

    fit : SizesFit base h
    fit = checked_fits base h e

    held : rows h.n t ≡ entries base
    held = ap₂ rows fit.n_is et ∙ loaded-rows base t₀ (header_meant h) e (omega (arith, size, fit.n_is, fit.entries_fit))

    accepted : Accepted base
    accepted = accepted-page_refusal base ok

    chosen : chosen_of (keys (rows h.n t)) ≡ Answer.Value (choice (keys (entries base)))
    unfolding unless first
    chosen =
        ap (λ (x : List Entry). chosen_of (keys x)) held ∙ chosen_of_normal (entries base) (keys-entries-ascending base accepted)
        ∙ rw (entries_fit base accepted)

    pub always_chosen : (r : ℕ) → Answer.Refused r ≡ chosen_of (keys (rows h.n t)) → ⊥
    always_chosen r q =
        let f : Answer.Refused r ≡ Answer.Value (choice (keys (entries base))) = q ∙ chosen in
        let z : ◌≡◌ {A = ℕ} 0 1 = cc in
        omega arith

    module _ (c : Choice) (ec : Answer.Value c ≡ chosen_of (keys (rows h.n t))) where
      choice_is : c ≡ choice (keys (rows h.n t))
      choice_is = value_same c (choice (keys (entries base))) (ec ∙ chosen) ∙ ap (λ (x : List Entry). choice (keys x)) (sym held)
        where
          value_same : (x y : Choice) → Answer.Value x ≡ Answer.Value y → x ≡ y
          value_same x y q = cc

      pub own_normal : (number : ℕ) (out own : List ℕ) (r : Bool) → length out ≡ 4096 → number ≡ page_number base
          → Wrote out t h.n c.m c.q (page_under number (rows h.n t) c.m c.q) r own
          → own ≡ normal_page (page_number base) (entries base)
      own_normal number out own r l en w =
          (wrote_normal out t number h.n c.m c.q r own l fit.entry
          (ap fits held ∙ entries_fit base accepted) (ap (λ (x : Choice). x.m) choice_is) (ap (λ (x : Choice). x.q) choice_is) w).1
          ∙ ap₂ normal_page en held

      pub normal_same : (p own : List ℕ) (r : Bool) → own ≡ normal_page (page_number base) (entries base)
          → r ≡ same_bytes own p
          → r ≡ is_normal base p
      unfolding is_normal
      normal_same p own r eo er = er ∙ ap (λ (x : List ℕ). same_bytes x p) eo ∙ sym (rw (eq-eqb (page_refusal base) 0 ok))

-- ---- builds that bring a page

module _ (over rec : List ℕ) (number : ℕ) (p : List ℕ) where
  pub brings_none : (r : ℕ) → Answer.Refused r ≡ (build over rec number blank_page blank_undo).answer
      → false ≡ brings_again over rec number p
  unfolding brings_again gives
  brings_none r e = ap (λ (a : Answer Numbers). gives a (build over rec number blank_page blank_undo).page p) e

  pub brings_same : (v : Numbers) (left : List ℕ) (r : Bool)
      → Answer.Value v ≡ (build over rec number blank_page blank_undo).answer
      → left ≡ (build over rec number blank_page blank_undo).page
      → r ≡ same_bytes left p
      → r ≡ brings_again over rec number p
  unfolding brings_again gives
  brings_same v left r e el er =
      er ∙ ap (λ (x : List ℕ). same_bytes x p) el
      ∙ ap (λ (a : Answer Numbers). gives a (build over rec number blank_page blank_undo).page p) e

module _ (base p rec : List ℕ) (number : ℕ) where
  abbrev back_after : Built
  back_after = build p rec (page_number base) blank_page blank_undo

  pub back_none : (r : ℕ) → Answer.Refused r ≡ back_after.answer → false ≡ brings_back base p rec number
  unfolding brings_back and_again
  back_none r e = ap (λ (a : Answer Numbers). and_again base p number a back_after) e

  module _ (w : Numbers) (e : Answer.Value w ≡ back_after.answer) (left redo : List ℕ) (el : left ≡ back_after.page)
      (er : redo ≡ back_after.undo) where
    given : is_normal base left && brings_again left (take w.undo redo) number p ≡ brings_back base p rec number
    unfolding brings_back and_again
    given =
        ap₂ (λ (x y : List ℕ). is_normal base x && brings_again x (take w.undo y) number p) el er
        ∙ ap (λ (a : Answer Numbers). and_again base p number a back_after) e

    pub back_other : is_normal base left ≡ false → false ≡ brings_back base p rec number
    back_other z = sym (ap (λ (b : Bool). b && brings_again left (take w.undo redo) number p) z) ∙ given

    pub back_again : is_normal base left ≡ true → brings_again left (take w.undo redo) number p ≡ brings_back base p rec number
    back_again z = sym (ap (λ (b : Bool). b && brings_again left (take w.undo redo) number p) z) ∙ given

-- an accepted build's undo record is in the buffer that it leaves
pub undo_room : (base rec : List ℕ) (number : ℕ) (page undo : List ℕ) (v : Numbers)
    → Answer.Value v ≡ (build base rec number page undo).answer
    → v.undo ≤ length (build base rec number page undo).undo
undo_room base rec number page undo v e =
    let after : Built = build base rec number page undo in
    let d : Done base rec number page undo v after = build_done base rec number page undo v (sym e) in
    omega (arith, ap length d.undo_bytes, d.undo_size_lem, length-take v.undo after.undo)

-- a base that is not empty was accepted
pub base_accepted : (base rec : List ℕ) (number : ℕ) (page undo : List ℕ) (v : Numbers)
    → Answer.Value v ≡ (build base rec number page undo).answer
    → 1 ≤ length base
    → page_refusal base ≡ 0
base_accepted base rec number page undo v e l = go (build_done base rec number page undo v (sym e)).acceptable.base_accepted
  where
    go : (base ≡ []) ⊎ (page_refusal base ≡ 0) → page_refusal base ≡ 0
    go (inl z) = absurd (omega (arith, ap length z))
    go (inr z) = z

-- ---- demand 3

blank_lent : Lent blank_page blank_undo
unfolding blank_page blank_undo
blank_lent = record { size = length-replicate {A = ℕ} 4096 0; room = omega (arith, length-replicate {A = ℕ} 24704 0) }

module _ (base rec : List ℕ) (number : ℕ) (page undo : List ℕ) (v : Numbers) (o : Once base rec number page undo v) where
  abbrev after : Built
  after = build base rec number page undo

  -- an accepted build over a base always comes back
  pub comes_back : brings_back base after.page (take v.undo after.undo) number ≡ true
  unfolding brings_back and_again is_normal brings_again gives
  comes_back =
      let u : List ℕ = take v.undo after.undo in
      let b : Built = build after.page u (page_number base) blank_page blank_undo in
      let g : Gives b (normal_page (page_number base) (entries base)) =
      back base rec number page undo v o blank_page blank_undo blank_lent in
      let w : Numbers = g.numbers in
      let f : Gives (build b.page (take w.undo b.undo) number blank_page blank_undo) after.page =
      forth base rec number page undo v o blank_page blank_undo blank_lent w g.answered blank_page blank_undo blank_lent in
      let n : is_normal base b.page ≡ true =
      ap₂ ◌&&◌ (eq-eqb (page_refusal base) 0 o.base_accepted)
      (ap (same_bytes (normal_page (page_number base) (entries base))) g.page
      ∙ same_bytes-refl (normal_page (page_number base) (entries base))) in
      let a : brings_again b.page (take w.undo b.undo) number after.page ≡ true =
      ap₂ (λ (x : Answer Numbers) (y : List ℕ). gives x y after.page) f.answered f.page
      ∙ same_bytes-refl after.page in
      ap (λ (x : Answer Numbers). and_again base after.page number x b) g.answered ∙ ap₂ ◌&&◌ n a
