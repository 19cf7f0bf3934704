-- `round_trip::is_normal` meets its contract: because the entries of an accepted base always have a choice, and what is written
-- of them is the normal page.
-- Assumes nothing.
use Rattle.std.proofs.Common.{rules}
use Rattle.round_trip.proofs.is_normal.Goals as goal
use mathlib.Core.Bool.{Bool, false}
use mathlib.Core.List.{List}
use mathlib.Core.Path.{◌≡◌, sym, ap, ◌∙◌}
use Prim.Native.Nat.{ℕ}
use lib.Dec.{eqb}
use lib.Pointwise.{pointwise}
use lib.ListN.{drop, length, replicate, length-replicate, take}
use Rattle.format.specs.Answer.{Answer}
use Rattle.format.specs.Bits.{unle}
use Rattle.format.specs.Normal.{keys, page_under}
use Rattle.format.specs.Page.{check_page, page_number}
use Rattle.format.specs.Refusals.{refusal_number}
use Rattle.format.specs.declared.refusal.Refusal.{Refusal}
use Rattle.shape.specs.declared.Header.{Header}
use Rattle.std.specs.Prelude.{Result, Ok, Err}
use Rattle.shape.specs.Shape.{checked_answer, header_meant}
use Rattle.node.specs.Reader.{loaded}
use Rattle.rows.specs.Rows.{rows}
use Rattle.rows.specs.declared.table.Row.{Row}
use Rattle.branch_ops.specs.Choice.{choice_answer, chosen_of}
use Rattle.branch_ops.specs.declared.choice.Choice.{Choice}
use Rattle.builder.specs.Writes.{Wrote}
use Rattle.round_trip.specs.Trip.{is_normal}
use Rattle.round_trip.proofs.TripLaws.{always_chosen, normal_same, not_normal, own_normal, pointwise-same_bytes}

module _ (base p : List ℕ) (x : Result Header Refusal) (ex : checked_answer x ≡ check_page base) where
  refused : (r : Refusal) → x ≡ Err r → false ≡ is_normal base p
  refused r e = not_normal base (refusal_number r) p (sym (ap checked_answer e) ∙ ex)

  module _ (h : Header) (e : x ≡ Ok h) (t₀ t : List Row) (size : length t₀ ≡ 682) (et : t ≡ loaded base t₀)
      (y : Result Choice Refusal)
      (ey : choice_answer y ≡ chosen_of (keys (rows h.n t))) where
    read : Answer.Value (header_meant h) ≡ check_page base
    read = sym (ap checked_answer e) ∙ ex

    never : (r : Refusal) → y ≡ Err r → false ≡ is_normal base p
    never r z =
        absurd (always_chosen base h read t₀ t size et (refusal_number r)
        (sym (ap choice_answer z) ∙ ey))

    module _ (c : Choice) (z : y ≡ Ok c) (number : ℕ) (en : number ≡ unle (take 4 (drop 0 base))) (own : List ℕ) (w : Bool)
        (wrote : Wrote (replicate 4096 0) t h.n c.m c.q (page_under number (rows h.n t) c.m c.q) w own) where
      number_is : number ≡ page_number base
      unfolding page_number
      number_is = en

      same : (left : List ℕ) → left ≡ own → (r : Bool) → r ≡ pointwise eqb left p → r ≡ is_normal base p
      same left el r er =
          let k : Answer.Value (record { m = c.m; q = c.q; bits = c.bits }) ≡ chosen_of (keys (rows h.n t)) =
          sym (ap choice_answer z) ∙ ey in
          normal_same base h read t₀ t size et
          (record { m = c.m; q = c.q; bits = c.bits }) k p own r
          (own_normal base h read t₀ t size et
          (record { m = c.m; q = c.q; bits = c.bits }) k number (replicate 4096 0) own w (length-replicate {A = ℕ} 4096 0)
          number_is wrote)
          (er ∙ ap (λ (l : List ℕ). pointwise eqb l p) el ∙ pointwise-same_bytes own p)

pub returns-in_default : goal.returns-in_default
returns-in_default c = record { answer = refused _ _ _ c.load_page.ensures.answer _ c.in_default.is }

pub returns-in_default-choose : goal.returns-in_default-choose
returns-in_default-choose c =
    record {
      answer =
          never _ _ _ c.load_page.ensures.answer _ c.in-Ok.is _ _ (search rules) c.load_page.ensures.written _
          c.choose.ensures.answer _ c.in_default-choose.is;
    }

pub returns : goal.returns
returns c =
    record {
      answer =
          same _ _ _ c.load_page.ensures.answer _ c.in-Ok.is _ _ (search rules) c.load_page.ensures.written _
          c.choose.ensures.answer _ c.in-Ok-choose.is _ c.le_u32-number.ensures.answer.0 _ _ c.write_page.ensures _
          c.as_slice.ensures _ c.eq.ensures;
    }
