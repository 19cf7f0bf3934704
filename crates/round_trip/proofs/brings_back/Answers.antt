-- `round_trip::brings_back` meets its contract: because both builds answer and write as the definition, and the page between is
-- tested by `is_normal`.
-- Assumes nothing.
use Rattle.round_trip.proofs.brings_back.Goals as goal
use mathlib.Core.Bool.{Bool, false, true}
use mathlib.Core.List.{List}
use mathlib.Core.Path.{◌≡◌, sym, ap, subst, ◌∙◌}
use Prim.Native.Nat.{ℕ, ◌≤◌}
use lib.ListN.{length, drop, replicate, take}
use lib.Seq.{length-take-le}
use Rattle.format.specs.Answer.{Answer}
use Rattle.format.specs.Bits.{unle}
use Rattle.format.specs.Build.{build}
use Rattle.format.specs.Page.{page_number}
use Rattle.format.specs.Refusals.{refusal_number}
use Rattle.format.specs.declared.refusal.Refusal.{Refusal}
use Rattle.build.specs.declared.Numbers.{Numbers}
use Rattle.std.specs.Prelude.{Result, Ok, Err}
use Rattle.build.specs.Built.{built_answer, numbers_meant}
use Rattle.round_trip.specs.Trip.{blank_page, blank_undo, brings_again, brings_back, is_normal}
use Rattle.round_trip.proofs.TripLaws.{back_again, back_none, back_other, undo_room}

module _ (base p rec : List ℕ) (number own : ℕ) (eo : own ≡ unle (take 4 (drop 0 base))) (x : Result Numbers Refusal)
    (ex : built_answer x ≡ (build p rec own (replicate 4096 0) (replicate 24704 0)).answer) where
  own_is : own ≡ page_number base
  unfolding page_number
  own_is = eo

  answered : built_answer x ≡ (build p rec (page_number base) blank_page blank_undo).answer
  unfolding blank_page blank_undo
  answered = ex ∙ ap (λ (k : ℕ). (build p rec k blank_page blank_undo).answer) own_is

  refused : (r : Refusal) → x ≡ Err r → false ≡ brings_back base p rec number
  refused r e = back_none base p rec number (refusal_number r) (sym (ap built_answer e) ∙ answered)

  module _ (w : Numbers) (e : x ≡ Ok w) (left redo : List ℕ)
      (el : left ≡ (build p rec own (replicate 4096 0) (replicate 24704 0)).page)
      (er : redo ≡ (build p rec own (replicate 4096 0) (replicate 24704 0)).undo) where
    value : Answer.Value (numbers_meant w) ≡ (build p rec (page_number base) blank_page blank_undo).answer
    value = sym (ap built_answer e) ∙ answered

    left_is : left ≡ (build p rec (page_number base) blank_page blank_undo).page
    unfolding blank_page blank_undo
    left_is = el ∙ ap (λ (k : ℕ). (build p rec k blank_page blank_undo).page) own_is

    redo_is : redo ≡ (build p rec (page_number base) blank_page blank_undo).undo
    unfolding blank_page blank_undo
    redo_is = er ∙ ap (λ (k : ℕ). (build p rec k blank_page blank_undo).undo) own_is

    fits_in : w.undo ≤ length redo
    fits_in =
        subst (λ (l : List ℕ). w.undo ≤ length l) (sym redo_is)
        (undo_room p rec (page_number base) blank_page blank_undo (numbers_meant w) value)

    module _ (n : Bool) (en : n ≡ is_normal base left) where
      other : n ≡ false → false ≡ brings_back base p rec number
      other z =
          back_other base p rec number (numbers_meant w) value left redo left_is redo_is (sym en ∙ z)

      again : n ≡ true → (r : Bool) → r ≡ brings_again left (take w.undo redo) number p
          → r ≡ brings_back base p rec number
      again z r e' = e' ∙ back_again base p rec number (numbers_meant w) value left redo left_is redo_is (sym en ∙ z)

pub returns-in_default : goal.returns-in_default
returns-in_default c =
    record { answer = refused _ _ _ _ _ c.le_u32-own.ensures.answer.0 _ c.build.ensures.answer _ c.in_default.is }

pub slice_bounds-redo-end : goal.slice_bounds-redo-end
slice_bounds-redo-end c =
    fits_in c.args.base.now _ _ c.args.number _ c.le_u32-own.ensures.answer.0 _ c.build.ensures.answer _ c.in-Ok.is _ _
    c.build.ensures.page c.build.ensures.undo

pub slice_bounds-brings_again-end-2 : goal.slice_bounds-brings_again-end-2
slice_bounds-brings_again-end-2 c =
    let l : c.in-Ok.w.undo ≤ length c.build.new.undo =
    fits_in c.args.base.now _ _ c.args.number _ c.le_u32-own.ensures.answer.0 _ c.build.ensures.answer _ c.in-Ok.is _ _
    c.build.ensures.page c.build.ensures.undo in
    sym (length-take-le _ _ l)

pub returns-then-not-is_normal : goal.returns-then-not-is_normal
returns-then-not-is_normal c =
    record {
      answer =
          other _ _ _ _ _ c.le_u32-own.ensures.answer.0 _ c.build.ensures.answer _ c.in-Ok.is _ _ c.build.ensures.page
          c.build.ensures.undo _ c.is_normal.ensures.answer c.if-not-is_normal.true;
    }

pub returns : goal.returns
returns c =
    record {
      answer =
          again _ _ _ _ _ c.le_u32-own.ensures.answer.0 _ c.build.ensures.answer _ c.in-Ok.is _ _ c.build.ensures.page
          c.build.ensures.undo _ c.is_normal.ensures.answer c.if-not-is_normal.false _ c.brings_again.ensures.answer;
    }
