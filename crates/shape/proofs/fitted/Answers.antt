-- `shape::fitted` meets its contract. The loop's invariant: none of the first i end offsets falls, `found` tells
-- whether one of the first i entries does not fit a key, and `before` is where the next separator starts.
-- Assumes nothing.
use mathlib.Core.Bool.{Bool, true, false, cond, ◌||◌}
use mathlib.Core.List.{List}
use mathlib.Core.Path.{◌≡◌, refl, sym, ap, ap₂, ◌∙◌}
use Prim.Native.Nat.{ℕ, ◌+◌, ◌-◌, ◌≤◌, ◌<◌}
use native.Mathlib.Omega.{arith}
use borrow.Author.Tests.{lt-ltb, le-ltb}
use lib.Dec.{eqb, ltb}
use Rattle.format.specs.Answer.{some}
use Rattle.format.specs.Page.{end_of, start_of, stored_length, entry_bits}
use Rattle.facts.proofs.AnswerLaws.{or-false}
use Rattle.shape.specs.declared.Header.{Header}
use Rattle.shape.specs.Shape.{Early, ShapeFits, SizesFit, falling, misfit}
use Rattle.shape.proofs.TestsLaws.{start_next, some_more, some_at, refuse_6, refuse_7}
use Rattle.std.proofs.Common.{rules}
use Rattle.shape.proofs.fitted.Goals as goal
use Rattle.shape.proofs.fitted.Invariants.{Fitting}

begin : (p : List ℕ) → Fitting p 0 0 false
unfolding falling misfit start_of some
begin p = record { none = refl; found = refl; start = refl }

module _ (p : List ℕ) (h : Header) (i b : ℕ) (f : Bool) (s : SizesFit p h) (so : Fitting p i b f) where
  module _ (e : ℕ) (ee : e ≡ end_of p i) where
    falls : e < b → i < h.n → Early p 6
    unfolding falling
    falls l k =
        refuse_6 p h s
        (some_at h.n (λ j. ltb (end_of p j) (start_of p j)) i k
        (lt-ltb (end_of p i) (start_of p i) (omega (arith, so.start))))

    more : (x : ℕ) (r : Bool) → b ≤ e → x ≡ cond (ltb i h.m) h.q 0
        → r ≡ (eqb (x + (e - b)) 0 || ltb 256 (x + (e - b))) || f → Fitting p (i + 1) e r
    unfolding falling misfit start_of entry_bits stored_length
    more x r l ex er =
        let y : x + (e - b) ≡ entry_bits p i =
        ap₂ ◌+◌ (ex ∙ ap₂ (λ (u v : ℕ). cond (ltb i u) v 0) s.m_is s.q_is) (ap₂ ◌-◌ ee so.start) in
        record {
          none =
              some_more i (λ j. ltb (end_of p j) (start_of p j))
              ∙ or-false (ltb (end_of p i) (start_of p i)) (some i (λ j. ltb (end_of p j) (start_of p j)))
              (le-ltb (end_of p i) (start_of p i) (omega (arith, so.start))) so.none;
          found =
              er ∙ ap₂ (λ (n : ℕ) (z : Bool). (eqb n 0 || ltb 256 n) || z) y so.found
              ∙ sym (some_more i (λ j. eqb (entry_bits p j) 0 || ltb 256 (entry_bits p j)));
          start = start_next p i e ee;
        }

  module _ (l : i ≤ h.n) (k : h.n ≤ i) where
    all_rise : falling p h.n ≡ false
    all_rise =
        let e : h.n ≡ i = omega arith in
        ap (falling p) e ∙ so.none

    all_found : f ≡ misfit p h.n
    all_found =
        let e : i ≡ h.n = omega arith in
        so.found ∙ ap (misfit p) e

    misfitting : f ≡ true → Early p 7
    misfitting t = refuse_7 p h s all_rise (sym all_found ∙ t)

    fits : f ≡ false → ShapeFits p h
    fits t = record { sizes = s; none_falls = all_rise; none_misfits = sym all_found ∙ t }

ruleset laws = (begin, falls, more, misfitting, fits)

pub loop-i-init : goal.loop-i-init
loop-i-init c = search (rules, laws)

pub returns-then-end-before : goal.returns-then-end-before
returns-then-end-before c = search (rules, laws)

pub loop-i-preserved : goal.loop-i-preserved
loop-i-preserved c = search (rules, laws)

pub returns-then-found : goal.returns-then-found
returns-then-found c = search (rules, laws)
