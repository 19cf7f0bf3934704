-- `round_trip::brings_again` meets its contract: because the build answers and writes as the definition, over blank memory too.
-- Assumes nothing.
use Rattle.round_trip.proofs.brings_again.Goals as goal
use mathlib.Core.Bool.{Bool, true, false, false≢true}
use mathlib.Core.List.{List}
use mathlib.Core.Path.{◌≡◌, refl, sym, ap, ◌∙◌}
use Prim.Native.Nat.{ℕ}
use lib.Dec.{eqb}
use lib.Pointwise.{pointwise}
use lib.ListN.{replicate}
use Rattle.format.specs.Build.{build}
use Rattle.format.specs.Refusals.{refusal_number}
use Rattle.format.specs.declared.refusal.Refusal.{Refusal}
use Rattle.build.specs.declared.Numbers.{Numbers}
use Rattle.std.specs.Prelude.{Result, Ok, Err, is_ok}
use Rattle.build.specs.Built.{built_answer, numbers_meant}
use Rattle.round_trip.specs.Trip.{blank_page, blank_undo, brings_again}
use Rattle.round_trip.proofs.TripLaws.{brings_none, brings_same, pointwise-same_bytes}

module _ (over rec : List ℕ) (number : ℕ) (p : List ℕ) (x : Result Numbers Refusal)
    (ex : built_answer x ≡ (build over rec number (replicate 4096 0) (replicate 24704 0)).answer) where
  refused : (r : Refusal) → x ≡ Err r → false ≡ brings_again over rec number p
  unfolding blank_page blank_undo
  refused r e = brings_none over rec number p (refusal_number r) (sym (ap built_answer e) ∙ ex)

  same : (v : Numbers) → x ≡ Ok v → (page left : List ℕ)
      → page ≡ (build over rec number (replicate 4096 0) (replicate 24704 0)).page
      → left ≡ page → (r : Bool) → r ≡ pointwise eqb left p → r ≡ brings_again over rec number p
  unfolding blank_page blank_undo
  same v e page left ep el r er =
      brings_same over rec number p (numbers_meant v) left r (sym (ap built_answer e) ∙ ex) (el ∙ ep) (er ∙ pointwise-same_bytes left p)

  -- the answer, by whether the build was accepted
  decided : (r : Bool) (page left : List ℕ) → is_ok x ≡ true
      → page ≡ (build over rec number (replicate 4096 0) (replicate 24704 0)).page
      → left ≡ page → r ≡ pointwise eqb left p → r ≡ brings_again over rec number p
  decided r page left eb ep el er = go x refl
    where
      go : (y : Result Numbers Refusal) → x ≡ y → r ≡ brings_again over rec number p
      go (Ok v) e = same v e page left ep el r er
      go (Err f) e = absurd (false≢true (sym (ap is_ok e) ∙ eb))

  not_accepted : is_ok x ≡ false → false ≡ brings_again over rec number p
  not_accepted eb = go x refl
    where
      go : (y : Result Numbers Refusal) → x ≡ y → false ≡ brings_again over rec number p
      go (Ok v) e = absurd (false≢true (sym eb ∙ ap is_ok e))
      go (Err f) e = refused f e

pub returns-then-is_ok : goal.returns-then-is_ok
returns-then-is_ok c =
    record {
      answer =
          decided _ _ _ _ _ c.build.ensures.answer _ _ _ (sym c.is_ok.ensures.value ∙ c.if-is_ok.true) c.build.ensures.page
          c.as_slice.ensures c.eq.ensures;
    }

pub returns-else-is_ok : goal.returns-else-is_ok
returns-else-is_ok c =
    record {
      answer =
          c.if-is_ok.false
          ∙ not_accepted _ _ _ _ _ c.build.ensures.answer (sym c.is_ok.ensures.value ∙ c.if-is_ok.false);
    }
