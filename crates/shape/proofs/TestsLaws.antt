-- Laws of the tests of a page: what a check answers where the first that holds is known, and where none holds.
-- In order: a test at every place (`some`); where separators start; refusals 1 to 5, by the numbers that the code has; 6
-- to 8.
-- Not here: a page that none of them refuses (format's `AcceptedLaws`).
-- Assumes nothing.
use mathlib.Core.Bool.{Bool, true, false, not, cond, ◌||◌}
use mathlib.Core.List.{List}
use mathlib.Core.Logic.{⊎_elim}
use mathlib.Core.Path.{◌≡◌, refl, sym, ap, ap₂, ◌∙◌}
use Prim.Native.Nat.{ℕ, zero, suc, ◌+◌, ◌-◌, ◌*◌, ◌≤◌, ◌<◌}
use native.Mathlib.Nat.{not-suc-le-zero, eq-or-lt_of_le, le_of_suc-le-suc}
use native.Mathlib.Numerals.{add-one}
use native.Mathlib.Omega.{arith}
use borrow.Author.Tests.{lt-ltb, le-ltb, leb-false, leb-true, eq-eqb, ne_eqb, not-true, not-false}
use lib.Dec.{leb, ltb, eqb}
use lib.ListN.{length, take, drop}
use Rattle.format.specs.Answer.{Answer, first, some, unless}
use Rattle.format.specs.Bits.{unle}
use Rattle.format.specs.Page.{
  Header,
  body_bytes,
  check_page,
  compressed,
  count,
  end_of,
  header_of,
  key_of,
  page_number,
  page_refusal,
  page_tests,
  prefix_length,
  start_of,
}
use Rattle.facts.proofs.AnswerLaws.{or-false}
use Rattle.facts.proofs.PageLaws.{start_of-zero, start_of-suc}
use Rattle.shape.specs.declared.Header.{Header as Numbers}
use Rattle.shape.specs.Shape.{Early, ShapeFits, SizesFit, falling, header_meant, misfit, unordered}

-- ---- some

pub some_more : (n : ℕ) (f : ℕ → Bool) → some (n + 1) f ≡ f n || some n f
unfolding some
some_more n f = ap (λ (k : ℕ). some k f) (add-one n)

pub or-true : (a b : Bool) → b ≡ true → a || b ≡ true
or-true true b e = refl
or-true false b e = e

-- one is enough
pub some_at : (n : ℕ) (f : ℕ → Bool) (i : ℕ) → i < n → f i ≡ true → some n f ≡ true
unfolding some
some_at zero f i h e = absurd (not-suc-le-zero h)
some_at (suc n) f i h e =
    ⊎_elim
    (λ (q : i ≡ n). ap (λ (b : Bool). b || some n f) (ap f (sym q) ∙ e))
    (λ (l : i < n). or-true (f n) (some n f) (some_at n f i l e))
    (eq-or-lt_of_le (le_of_suc-le-suc h))

-- ---- where separators start

pub start_first : (p : List ℕ) → 0 ≡ start_of p 0
start_first p = sym (start_of-zero p)

pub start_next : (p : List ℕ) (i e : ℕ) → e ≡ end_of p i → e ≡ start_of p (i + 1)
start_next p i e q = q ∙ sym (ap (start_of p) (add-one i) ∙ start_of-suc p i)

-- ---- the tests, one behind the other

abbrev after7 : List ℕ → ℕ
after7 p = cond (unordered (key_of p) (count p)) 8 0

abbrev after6 : List ℕ → ℕ
after6 p = cond (misfit p (count p)) 7 (after7 p)

abbrev after5 : List ℕ → ℕ
after5 p = cond (falling p (count p)) 6 (after6 p)

abbrev test5 : List ℕ → Bool
test5 p = ltb 4086 (6 * count p) || ltb 4086 (body_bytes (count p) (prefix_length p) (start_of p (count p)))

abbrev after4 : List ℕ → ℕ
after4 p = cond (test5 p) 5 (after5 p)

abbrev after3 : List ℕ → ℕ
after3 p = cond (ltb 256 (prefix_length p)) 4 (after4 p)

abbrev test3 : List ℕ → Bool
test3 p = eqb (compressed p) 0 || ltb (count p) (compressed p)

abbrev after2 : List ℕ → ℕ
after2 p = cond (test3 p) 3 (after3 p)

abbrev after1 : List ℕ → ℕ
after1 p = cond (eqb (count p) 0) 2 (after2 p)

in_order : (p : List ℕ) → page_refusal p ≡ cond (not (eqb (length p) 4096)) 1 (after1 p)
unfolding page_refusal first page_tests falling misfit unordered
in_order p = refl

holds : (t : Bool) (a b : ℕ) → t ≡ true → cond t a b ≡ a
holds t a b e = ap (λ (x : Bool). cond x a b) e

passes : (t : Bool) (a b : ℕ) → t ≡ false → cond t a b ≡ b
passes t a b e = ap (λ (x : Bool). cond x a b) e

-- a number that is not 0 is answered
answers : (p : List ℕ) (r : ℕ) → page_refusal p ≡ suc r → Answer.Refused (suc r) ≡ check_page p
unfolding check_page unless
answers p r e = sym (ap (λ (n : ℕ). unless n (header_of p)) e)

refused : (p : List ℕ) (r : ℕ) → suc r < 8 → page_refusal p ≡ suc r → Early p (suc r)
refused p r l e = record { answered = answers p r e; early = l }

-- a body that fits has at most 681 entries
few : (n q e : ℕ) → body_bytes n q e ≤ 4086 → n ≤ 681
unfolding body_bytes
few n q e l = omega arith

-- ---- refusals 1 to 5

pub refuse_1 : (p : List ℕ) → (length p ≡ 4096 → ⊥) → Early p 1
refuse_1 p h =
    refused p 0 (omega arith) (in_order p ∙ holds (not (eqb (length p) 4096)) 1 (after1 p) (ap not (ne_eqb (length p) 4096 h)))

module _ (p : List ℕ) (n : ℕ) (size : length p ≡ 4096) (en : n ≡ unle (take 2 (drop 4 p))) where
  count_is : n ≡ count p
  unfolding count
  count_is = en

  pass_1 : page_refusal p ≡ after1 p
  pass_1 = in_order p ∙ passes (not (eqb (length p) 4096)) 1 (after1 p) (ap not (eq-eqb (length p) 4096 size))

  pub refuse_2 : n ≡ 0 → Early p 2
  refuse_2 z = refused p 1 (omega arith) (pass_1 ∙ holds (eqb (count p) 0) 2 (after2 p) (eq-eqb (count p) 0 (sym count_is ∙ z)))

  module _ (m : ℕ) (some-entry : n ≡ 0 → ⊥) (em : m ≡ unle (take 2 (drop 6 p))) where
    compressed_is : m ≡ compressed p
    unfolding compressed
    compressed_is = em

    pass_2 : page_refusal p ≡ after2 p
    pass_2 = pass_1 ∙ passes (eqb (count p) 0) 2 (after2 p) (ne_eqb (count p) 0 (λ z. some-entry (count_is ∙ z)))

    refuse_3 : test3 p ≡ true → Early p 3
    refuse_3 t = refused p 2 (omega arith) (pass_2 ∙ holds (test3 p) 3 (after3 p) t)

    pub refuse_3_none : m ≡ 0 → Early p 3
    refuse_3_none z =
        refuse_3
        (ap (λ (b : Bool). b || ltb (count p) (compressed p)) (eq-eqb (compressed p) 0 (sym compressed_is ∙ z)))

    pub refuse_3_more : n < m → Early p 3
    refuse_3_more l =
        let k : count p < compressed p = omega (arith, count_is, compressed_is) in
        refuse_3 (or-true (eqb (compressed p) 0) (ltb (count p) (compressed p)) (lt-ltb (count p) (compressed p) k))

    module _ (q : ℕ) (some-compressed : m ≡ 0 → ⊥) (no_more : m ≤ n) (eq : q ≡ unle (take 2 (drop 8 p))) where
      prefix_is : q ≡ prefix_length p
      unfolding prefix_length
      prefix_is = eq

      pass_3 : page_refusal p ≡ after3 p
      pass_3 =
          let k : compressed p ≤ count p = omega (arith, count_is, compressed_is) in
          pass_2 ∙ passes (test3 p) 3 (after3 p)
          (or-false (eqb (compressed p) 0) (ltb (count p) (compressed p))
          (ne_eqb (compressed p) 0 (λ z. some-compressed (compressed_is ∙ z))) (le-ltb (count p) (compressed p) k))

      pub refuse_4 : 256 < q → Early p 4
      refuse_4 l =
          refused p 3 (omega arith) (pass_3 ∙ holds (ltb 256 (prefix_length p)) 4 (after4 p)
          (lt-ltb 256 (prefix_length p) (omega (arith, prefix_is))))

      module _ (prefix : q ≤ 256) where
        pass_4 : page_refusal p ≡ after4 p
        pass_4 =
            pass_3 ∙ passes (ltb 256 (prefix_length p)) 4 (after4 p)
            (le-ltb 256 (prefix_length p) (omega (arith, prefix_is)))

        refuse_5 : test5 p ≡ true → Early p 5
        refuse_5 t = refused p 4 (omega arith) (pass_4 ∙ holds (test5 p) 5 (after5 p) t)

        module _ (e : ℕ) (ee : e ≡ end_of p (n - 1)) where
          last_is : start_of p (count p) ≡ e
          unfolding start_of
          last_is =
              let z : n ≡ 0 → ⊥ = some-entry in
              let k : count p ≡ suc (n - 1) = omega (arith, count_is, z) in
              ap (start_of p) k ∙ sym ee

          body_is : body_bytes (count p) (prefix_length p) (start_of p (count p)) ≡ body_bytes n q e
          body_is = cc (count_is, prefix_is, last_is)

          pub refuse_5_body : (b : Bool) → b ≡ leb (body_bytes n q e) 4086 → not b ≡ true → Early p 5
          refuse_5_body b eb f =
              let l : 4086 < body_bytes n q e = leb-false (body_bytes n q e) 4086 (sym eb ∙ not-true b f) in
              let k : 4086 < body_bytes (count p) (prefix_length p) (start_of p (count p)) = omega (arith, body_is) in
              refuse_5
              (or-true (ltb 4086 (6 * count p)) (ltb 4086 (body_bytes (count p) (prefix_length p) (start_of p (count p))))
              (lt-ltb 4086 (body_bytes (count p) (prefix_length p) (start_of p (count p))) k))

          pub sizes_fit : (number : ℕ) (b : Bool) → b ≡ leb (body_bytes n q e) 4086 → not b ≡ false
              → number ≡ unle (take 4 (drop 0 p))
              → SizesFit p (record { number = number; n = n; m = m; q = q; bits = q + e })
          unfolding page_number
          sizes_fit number b eb t en =
              let l : body_bytes n q e ≤ 4086 = leb-true (body_bytes n q e) 4086 (sym eb ∙ not-false b t) in
              let z : n ≡ 0 → ⊥ = some-entry in
              let y : m ≡ 0 → ⊥ = some-compressed in
              record {
                size = size;
                number_is = en;
                n_is = count_is;
                m_is = compressed_is;
                q_is = prefix_is;
                bits_is = ap₂ ◌+◌ prefix_is (sym last_is);
                entry = omega (arith, z);
                compresses = omega (arith, y);
                no_more = omega (arith, no_more);
                prefix = prefix;
                entries_fit = few n q e l;
                fits = omega (arith, body_is);
              }

-- ---- refusals 6 to 8

module _ (p : List ℕ) (h : Numbers) (f : SizesFit p h) where
  pass_5 : page_refusal p ≡ after5 p
  pass_5 =
      let c1 : count p ≡ 0 → ⊥ = λ z. omega (arith, f.n_is, f.entry) in
      let c2 : compressed p ≡ 0 → ⊥ = λ z. omega (arith, f.m_is, f.compresses) in
      let c3 : compressed p ≤ count p = omega (arith, f.m_is, f.n_is, f.no_more) in
      let c4 : prefix_length p ≤ 256 = omega (arith, f.q_is, f.prefix) in
      let c5 : 6 * count p ≤ 4086 = omega (arith, f.n_is, f.entries_fit) in
      in_order p ∙ passes (not (eqb (length p) 4096)) 1 (after1 p) (ap not (eq-eqb (length p) 4096 f.size))
      ∙ passes (eqb (count p) 0) 2 (after2 p) (ne_eqb (count p) 0 c1)
      ∙ passes (test3 p) 3 (after3 p)
      (or-false (eqb (compressed p) 0) (ltb (count p) (compressed p)) (ne_eqb (compressed p) 0 c2)
      (le-ltb (count p) (compressed p) c3))
      ∙ passes (ltb 256 (prefix_length p)) 4 (after4 p) (le-ltb 256 (prefix_length p) c4)
      ∙ passes (test5 p) 5 (after5 p)
      (or-false (ltb 4086 (6 * count p)) (ltb 4086 (body_bytes (count p) (prefix_length p) (start_of p (count p))))
      (le-ltb 4086 (6 * count p) c5)
      (le-ltb 4086 (body_bytes (count p) (prefix_length p) (start_of p (count p))) f.fits))

  pub refuse_6 : falling p h.n ≡ true → Early p 6
  refuse_6 e =
      refused p 5 (omega arith)
      (pass_5 ∙ holds (falling p (count p)) 6 (after6 p) (ap (falling p) (sym f.n_is) ∙ e))

  pass_6 : falling p h.n ≡ false → page_refusal p ≡ after6 p
  pass_6 e = pass_5 ∙ passes (falling p (count p)) 6 (after6 p) (ap (falling p) (sym f.n_is) ∙ e)

  pub refuse_7 : falling p h.n ≡ false → misfit p h.n ≡ true → Early p 7
  refuse_7 e6 e =
      refused p 6 (omega arith)
      (pass_6 e6 ∙ holds (misfit p (count p)) 7 (after7 p) (ap (misfit p) (sym f.n_is) ∙ e))

module _ (p : List ℕ) (h : Numbers) (f : ShapeFits p h) where
  pub header_meant_lem : header_meant h ≡ header_of p
  unfolding header_of
  header_meant_lem = cc (f.sizes.number_is, f.sizes.n_is, f.sizes.m_is, f.sizes.q_is, f.sizes.bits_is)

  pub pass_7 : page_refusal p ≡ after7 p
  pass_7 =
      pass_6 p h f.sizes f.none_falls
      ∙ passes (misfit p (count p)) 7 (after7 p) (ap (misfit p) (sym f.sizes.n_is) ∙ f.none_misfits)

  pub refuse_8 : unordered (key_of p) h.n ≡ true → Answer.Refused 8 ≡ check_page p
  refuse_8 e =
      answers p 7
      (pass_7 ∙ holds (unordered (key_of p) (count p)) 8 0 (ap (unordered (key_of p)) (sym f.sizes.n_is) ∙ e))

  pub accept : unordered (key_of p) h.n ≡ false → Answer.Value (header_meant h) ≡ check_page p
  unfolding check_page unless
  accept e =
      let z : page_refusal p ≡ 0 =
      pass_7 ∙ passes (unordered (key_of p) (count p)) 8 0 (ap (unordered (key_of p)) (sym f.sizes.n_is) ∙ e) in
      ap (λ (v : Header). Answer.Value v) header_meant_lem ∙ sym (ap (λ (k : ℕ). unless k (header_of p)) z)
