-- `round_trip::round_trip` meets its contract: because the build is the definition's, and `comes_back` says that the two after it
-- never differ.
-- Assumes nothing.
use Rattle.std.proofs.Common.{rules}
use Rattle.round_trip.proofs.round_trip.Goals as goal
use mathlib.Core.Bool.{Bool, false, true}
use mathlib.Core.List.{List}
use mathlib.Core.Path.{◌≡◌, sym, ap, ap₂, subst, ◌∙◌}
use Prim.Native.Nat.{ℕ, ◌^◌, ◌≤◌, ◌<◌}
use native.Mathlib.Omega.{arith}
use lib.ListN.{length, take}
use lib.Seq.{length-take-le}
use Rattle.format.specs.Answer.{Answer}
use Rattle.format.specs.Bits.{AllBelow}
use Rattle.format.specs.Build.{build}
use Rattle.format.specs.Refusals.{refusal_number}
use Rattle.format.specs.declared.refusal.Refusal.{Refusal}
use Rattle.facts.proofs.BitsLaws.{at_below}
use Rattle.build.specs.declared.Numbers.{Numbers}
use Rattle.std.specs.Prelude.{Result, Ok, Err, IsErr, IsErrAnd}
use Rattle.round_trip.specs.declared.TripError.{TripError}
use Rattle.round_trip.specs.declared.TripError.TheVariants.{Refused}
use Rattle.build.specs.Built.{built_answer, numbers_meant}
use Rattle.round_trip.specs.Trip.{Agreed, brings_back, trip_answer}
use Rattle.round_trip.proofs.TripLaws.{base_accepted, comes_back, undo_room}
use mathlib.Core.Bool.{true≢false}

module _ (base rec : List ℕ) (number : ℕ) (page undo : List ℕ) (x : Result Numbers Refusal)
    (ex : built_answer x ≡ (build base rec number page undo).answer) where
  refused : (r : Refusal) → x ≡ Err r → Answer.Refused (refusal_number r) ≡ (build base rec number page undo).answer
  refused r e = sym (ap built_answer e) ∙ ex

  -- what `?` hands on
  handed : (r : Refusal) → x ≡ Err r → (w : Result Numbers TripError) → IsErr w → IsErrAnd w (λ (y : TripError). y ≡ Refused r)
      → trip_answer w ≡ (build base rec number page undo).answer
  handed r e (Ok y) a b = absurd b
  handed r e (Err y) a b = ap (λ (z : TripError). trip_answer (Err z)) b ∙ refused r e

  module _ (v : Numbers) (e : x ≡ Ok v) where
    value : Answer.Value (numbers_meant v) ≡ (build base rec number page undo).answer
    value = sym (ap built_answer e) ∙ ex

    module _ (page' undo' : List ℕ) (ep : page' ≡ (build base rec number page undo).page)
        (eu : undo' ≡ (build base rec number page undo).undo) where
      fits_in : v.undo ≤ length undo'
      fits_in =
          subst (λ (l : List ℕ). v.undo ≤ length l) (sym eu) (undo_room base rec number page undo (numbers_meant v) value)

      never : AllBelow 256 base → AllBelow 256 rec → number < 2 ^ 32 → 1 ≤ length base → (r : Bool)
          → r ≡ brings_back base page' (take v.undo undo') number
          → r ≡ false
          → ⊥
      never b c s l r er z =
          let q : brings_back base page' (take v.undo undo') number ≡ true =
          ap₂ (λ (p u : List ℕ). brings_back base p (take v.undo u) number) ep eu
          ∙ comes_back base rec number page undo (numbers_meant v) (record {
            base_bytes = b;
            record_bytes = c;
            small = s;
            base_accepted = base_accepted base rec number page undo (numbers_meant v) value l;
            answered = sym value;
          }) in
          true≢false (sym q ∙ sym er ∙ z)

-- with no base nothing is to be brought back
none : (base : List ℕ) → 1 ≤ length base → length base ≡ 0 → ⊥
none base l e = omega arith

-- a refusal says nothing of how the builds agree
nothing : (base page undo : List ℕ) (number : ℕ) (r : Refusal) (w : Result Numbers TripError) → IsErr w
    → IsErrAnd w (λ (y : TripError). y ≡ Refused r) → Agreed base page undo number w
nothing base page undo number r (Ok y) a b = absurd b
nothing base page undo number r (Err y) a b =
    subst (λ (z : TripError). Agreed base page undo number (Err z)) (sym b) tt

pub returns-in_err-v : goal.returns-in_err-v
returns-in_err-v c =
    record {
      answer =
          handed _ _ _ _ _ _ c.build.ensures.answer _ c.in_err-v.was _ c.from_residual.ensures.0 c.from_residual.ensures.1;
      page = search rules;
      undo = search rules;
      agreed = nothing _ _ _ _ c.in_err-v.field-0.0 _ c.from_residual.ensures.0 c.from_residual.ensures.1;
    }

pub slice_bounds-brings_back-end : goal.slice_bounds-brings_back-end
slice_bounds-brings_back-end c =
    fits_in _ _ _ _ _ _ c.build.ensures.answer _ c.in_ok-v.was _ _ c.build.ensures.page c.build.ensures.undo

pub slice_bounds-brings_back-end-2 : goal.slice_bounds-brings_back-end-2
slice_bounds-brings_back-end-2 c =
    let l : c.in_ok-v.v.undo ≤ length c.build.new.undo =
    fits_in _ _ _ _ _ _ c.build.ensures.answer _ c.in_ok-v.was _ _ c.build.ensures.page c.build.ensures.undo in
    sym (length-take-le _ _ l)

pub returns-then-not-brings_back : goal.returns-then-not-brings_back
returns-then-not-brings_back c =
    absurd
    (never _ _ _ _ _ _ c.build.ensures.answer _ c.in_ok-v.was _ _ c.build.ensures.page c.build.ensures.undo
    (at_below 256 c.args.base.now (λ k. omega (arith, c.type_inv.base k)))
    (at_below 256 c.args.rec.now (λ k. omega (arith, c.type_inv.rec k))) (search rules) (search rules) _
    c.brings_back.ensures.answer c.if-not-brings_back.true)
