-- Laws of what the answer of a check tells (`check_page` of format's specs/Page.antt).
-- In order: a header that was answered; a refusal; what the tests for 1 to 7 tell.
-- Assumes nothing.
use mathlib.Core.Bool.{Bool, true, false, cond}
use mathlib.Core.List.{List}
use mathlib.Core.Path.{◌≡◌, refl, sym, ap, subst, ◌∙◌}
use Prim.Native.Nat.{ℕ, zero, suc, ◌≤◌, ◌<◌}
use native.Mathlib.Omega.{arith}
use borrow.Author.Tests.{ne_eqb}
use lib.Dec.{eqb}
use Rattle.format.specs.Answer.{Answer, unless}
use Rattle.format.specs.Page.{Header, check_page, count, header_of, key_of, page_refusal}
use Rattle.format.specs.Refusals.{refusal_number}
use Rattle.facts.proofs.AcceptedLaws.{Accepted, accepted-page_refusal}
use Rattle.shape.specs.declared.Header.{Header as Numbers}
use Rattle.std.specs.Prelude.{Result, Ok, Err}
use Rattle.format.specs.declared.refusal.Refusal.{Refusal}
use Rattle.shape.specs.Shape.{Early, ShapeFits, Shaping, SizesFit, check_shape, checked_answer, header_meant, unordered}
use Rattle.shape.proofs.TestsLaws.{header_meant_lem, pass_7}

-- ---- a header that was answered

unless-value : {A : Type 0} (n : ℕ) (v w : A) → Answer.Value w ≡ unless n v → n ≡ 0
unfolding unless
unless-value zero v w e = refl
unless-value (suc n) v w e = let z : ◌≡◌ {A = ℕ} 0 1 = cc in absurd (omega arith)

module _ (p : List ℕ) (h : Header) (e : Answer.Value h ≡ check_page p) where
  -- none of 1 to 8 holds
  pub checked_accepted : page_refusal p ≡ 0
  unfolding check_page
  checked_accepted = unless-value (page_refusal p) (header_of p) h e

  pub checked_header : h ≡ header_of p
  unfolding check_page unless
  checked_header =
      let f : Answer.Value h ≡ Answer.Value (header_of p) = e ∙ ap (λ (k : ℕ). unless k (header_of p)) checked_accepted in
      cc

pub checked_fits : (p : List ℕ) (h : Numbers) → Answer.Value (header_meant h) ≡ check_page p → SizesFit p h
unfolding header_of
checked_fits p h e =
    let a : Accepted p = accepted-page_refusal p (checked_accepted p (header_meant h) e) in
    let s : header_meant h ≡ header_of p = checked_header p (header_meant h) e in
    let sn : h.n ≡ count p = ap (λ (x : Header). x.n) s in
    record {
      size = a.size;
      number_is = ap (λ (x : Header). x.number) s;
      n_is = sn;
      m_is = ap (λ (x : Header). x.m) s;
      q_is = ap (λ (x : Header). x.q) s;
      bits_is = ap (λ (x : Header). x.bits) s;
      entry = subst (λ (n : ℕ). 1 ≤ n) (sym sn) a.entry;
      compresses = subst (λ (n : ℕ). 1 ≤ n) (sym (ap (λ (x : Header). x.m) s)) a.compresses;
      no_more = omega (arith, ap (λ (x : Header). x.m) s, sn, a.compresses_no_more);
      prefix = subst (λ (n : ℕ). n ≤ 256) (sym (ap (λ (x : Header). x.q) s)) a.prefix;
      entries_fit = omega (arith, sn, a.entries_fit);
      fits = a.fits;
    }

-- ---- a refusal

pub checked_refused : (p : List ℕ) (r : ℕ) → Answer.Refused r ≡ check_page p → (page_refusal p ≡ r) × (0 < r)
unfolding check_page unless
checked_refused p r e = go (page_refusal p) refl
  where
    go : (n : ℕ) → page_refusal p ≡ n → (page_refusal p ≡ r) × (0 < r)
    go zero q =
        let f : Answer.Refused r ≡ Answer.Value (header_of p) = e ∙ ap (λ (k : ℕ). unless k (header_of p)) q in
        let z : ◌≡◌ {A = ℕ} 0 1 = cc in
        absurd (omega arith)
    go (suc n) q =
        let f : Answer.Refused r ≡ Answer.Refused (suc n) = e ∙ ap (λ (k : ℕ). unless k (header_of p)) q in
        let s : r ≡ suc n = cc in
        (q ∙ sym s, omega arith)

-- ---- what the tests for 1 to 7 tell

-- the answer without the order of the keys, by the refusal with it
answers : (p : List ℕ) (n : ℕ) → page_refusal p ≡ n → unless (cond (eqb n 8) 0 n) (header_of p) ≡ check_shape p
unfolding check_shape
answers p n e = ap (λ (k : ℕ). unless (cond (eqb k 8) 0 k) (header_of p)) (sym e)

early_answer : (p : List ℕ) (r : ℕ) → Early p r → Answer.Refused r ≡ check_shape p
unfolding unless
early_answer p zero e = absurd (omega (arith, (checked_refused p 0 e.answered).1))
early_answer p (suc r) e =
    let l : suc r < 8 = e.early in
    let z : suc r ≡ 8 → ⊥ = λ q. omega arith in
    sym (ap (λ (b : Bool). unless (cond b 0 (suc r)) (header_of p)) (ne_eqb (suc r) 8 z))
    ∙ answers p (suc r) (checked_refused p (suc r) e.answered).0

fits_answer : (p : List ℕ) (h : Numbers) → ShapeFits p h → Answer.Value (header_meant h) ≡ check_shape p
unfolding unless
fits_answer p h f = ap (λ (v : Header). Answer.Value v) (header_meant_lem p h f) ∙ go (unordered (key_of p) (count p)) refl
  where
    go : (b : Bool) → unordered (key_of p) (count p) ≡ b → Answer.Value (header_of p) ≡ check_shape p
    go true e = answers p 8 (pass_7 p h f ∙ ap (λ (b : Bool). cond b 8 0) e)
    go false e = answers p 0 (pass_7 p h f ∙ ap (λ (b : Bool). cond b 8 0) e)

pub shaping_answer : (p : List ℕ) (c : Result Numbers Refusal) → Shaping p c → checked_answer c ≡ check_shape p
shaping_answer p (Ok h) f = fits_answer p h f
shaping_answer p (Err r) e = early_answer p (refusal_number r) e
