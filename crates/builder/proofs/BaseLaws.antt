-- A base that is what it is said to be changes nothing: the page written with its help is the page of the rows.
-- In order: a separator with no more bits than its key needs; a kept row's bits; the page; the law that callers cite.
-- Assumes nothing.
use mathlib.Core.Bool.{Bool, true, false, cond}
use mathlib.Core.List.{List, ◌++◌, append_assoc}
use mathlib.Core.Path.{◌≡◌, refl, sym, ap, ap₂, subst, ◌∙◌}
use Prim.Native.Nat.{ℕ, ◌+◌, ◌-◌, ◌*◌, ◌≤◌, ◌<◌}
use native.Mathlib.Omega.{arith}
use borrow.Author.Tests.{eqb-true}
use lib.Dec.{eqb, leb}
use lib.ListN.{length, take, drop, replicate, length-append, length-drop}
use lib.Seq.{drop-drop, take_at, drop_at, length-take-le}
use Rattle.format.specs.Bits.{bits_of, fill}
use Rattle.format.specs.Key.{separator_length}
use Rattle.format.specs.Page.{count, compressed, prefix_length, start_of, stored_length, body, separator_of, key_of}
use Rattle.format.specs.Normal.{page_under}
use Rattle.facts.proofs.AcceptedLaws.{Accepted, accepted-page_refusal, length-prefix}
use Rattle.facts.proofs.BitsLaws.{fill_short, length-bits_of}
use Rattle.facts.proofs.PageLaws.{entry_bits-compressed, prefix_of-compressed, start_of-suc, stored_length_is}
use Rattle.words.proofs.WindowLaws.{drop-bits_of}
use Rattle.rows.specs.declared.table.Row.{Row}
use Rattle.rows.specs.Rows.{rows, row_key, row_source}
use Rattle.builder.specs.Writes.{own_bits, laid_out, Wrote}
use Rattle.builder.specs.Over.{usable, kept, base_bits, over_bits, page_over, Based}
use Rattle.parts.proofs.RowLaws.{left_out_in}
use Rattle.builder.proofs.OverLaws.{all_four, kept-compressed, kept_source, kept-end, kept-inside, over_bits-kept}
use Rattle.builder.proofs.OverLaws.{over_bits_own}
use Rattle.builder.proofs.WriteLaws.{laid_out_own, laid_out_same, wrote_same}

-- ---- a separator with no more bits than its key needs

separator_of-key : (p k : List ℕ) (i : ℕ) → Accepted p → i < compressed p → k ≡ key_of p i
    → length (separator_of p i) ≡ stored_length p i
    → prefix_length p + stored_length p i ≤ 256
    → stored_length p i ≡ separator_length k - prefix_length p
    → separator_of p i ≡ take (separator_length k - prefix_length p) (drop (prefix_length p) k)
unfolding key_of
separator_of-key p k i a h e ls hb es =
    let q : ℕ = prefix_length p in
    let f : List ℕ = take q (body p) in
    let s : List ℕ = separator_of p i in
    let lf : length f ≡ q = length-prefix p a in
    let lfs : length (f ++ s) ≡ q + stored_length p i = omega (arith, length-append f s) in
    let z : List ℕ = replicate (256 - length (f ++ s)) 0 in
    let w : k ≡ f ++ (s ++ z) =
    e ∙ ap (λ (x : List ℕ). fill 256 (x ++ s)) (prefix_of-compressed p i h) ∙ fill_short 256 (f ++ s) (omega arith)
    ∙ append_assoc f s z in
    sym (ap₂ (λ (n : ℕ) (x : List ℕ). take n (drop q x)) (sym es) w
    ∙ ap (take (stored_length p i)) (drop_at f (s ++ z) q lf) ∙ take_at s z (stored_length p i) ls)

-- the bits of a base are those of its body
BaseBits-body : (p : List ℕ) (bn q a len : ℕ) → bn ≡ count p → q ≡ prefix_length p
    → base_bits p bn q a len ≡ take len (drop (prefix_length p + a) (body p))
unfolding base_bits body
BaseBits-body p bn q a len en eq =
    ap (take len)
    (sym (drop-drop (q + a) (8 * (10 + 2 * bn)) (bits_of p)) ∙ ap (drop (q + a)) (drop-bits_of (10 + 2 * bn) p)
    ∙ ap₂ (λ (x y : ℕ). drop (y + a) (bits_of (drop (10 + 2 * x) p))) en eq)

-- ---- a kept row's bits

module _ (p : List ℕ) (t : List Row) (n bn bm m q : ℕ) (b : Based p t n bn bm q) (i : ℕ) (h : i < n) where
  inside-body : kept p bn bm t m q i ≡ true → stored_length p (row_source t i) ≡ separator_length (row_key t i) - q
      → 10 + 2 * bn ≤ length p
      → stored_length p (row_source t i) ≤ length (drop (prefix_length p + start_of p (row_source t i)) (body p))
  unfolding body
  inside-body k e fit =
      let c : List ℕ = drop (10 + 2 * count p) p in
      omega (
        arith,
        length-drop (prefix_length p + start_of p (row_source t i)) (bits_of c),
        length-bits_of c,
        length-drop (10 + 2 * count p) p,
        kept-inside p bn bm t m q i k,
        kept-end p bn bm t m q i k,
        b.has_count,
        b.has_prefix,
      )

  own : kept p bn bm t m q i ≡ true → over_bits p bn bm t m q i ≡ own_bits t m q i
  unfolding own_bits separator_of
  own k =
      let a : Accepted p = accepted-page_refusal p b.accepted in
      let s : ℕ = row_source t i in
      let key : List ℕ = row_key t i in
      let len : ℕ = separator_length key - q in
      let hs : s < bm = kept_source p bn bm t m q i k in
      let hc : s < compressed p = omega (arith, b.has_compressed) in
      let hn : s < count p = omega (arith, a.compresses_no_more) in
      let fit : 10 + 2 * bn ≤ length p = omega (arith, a.entries_fit, a.size, b.has_count) in
      let stored : stored_length p s ≡ len =
      stored_length_is p s ∙ ap (λ (x : ℕ). x - start_of p s) (start_of-suc p s ∙ kept-end p bn bm t m q i k)
      ∙ (omega arith) in
      let at : ℕ = prefix_length p + start_of p s in
      let ls : length (separator_of p s) ≡ stored_length p s =
      length-take-le (stored_length p s) (drop at (body p)) (inside-body k stored fit) in
      let bound : prefix_length p + stored_length p s ≤ 256 =
      omega (arith, entry_bits-compressed p s hc, a.no_more_bits s hn) in
      let w : separator_of p s ≡ take (separator_length key - prefix_length p) (drop (prefix_length p) key) =
      separator_of-key p key s a hc (b.sources i h hs) ls bound
      (stored ∙ ap (λ (x : ℕ). separator_length key - x) b.has_prefix) in
      over_bits-kept p bn bm t m q i k
      ∙ BaseBits-body p bn q (start_of p s) len b.has_count b.has_prefix
      ∙ ap (λ (x : ℕ). take x (drop at (body p))) (sym stored) ∙ w
      ∙ ap (λ (x : ℕ). take (separator_length key - x) (drop x key))
      (sym b.has_prefix ∙ left_out_in m q i (kept-compressed p bn bm t m q i k))

  over_bits_based : over_bits p bn bm t m q i ≡ own_bits t m q i
  over_bits_based = go (kept p bn bm t m q i) refl
    where
      go : (x : Bool) → kept p bn bm t m q i ≡ x → over_bits p bn bm t m q i ≡ own_bits t m q i
      go true k = own k
      go false k = over_bits_own p bn bm t m q i k

-- ---- the page

same_prefix : (p : List ℕ) (bn bm bq q : ℕ) → usable p bn bm bq q ≡ true → bq ≡ q
unfolding usable
same_prefix p bn bm bq q e = eqb-true bq q (all_four (eqb bq q) (leb (length p) 4096) (leb bn 681) (leb bm 681) e).0

pub page_over_based : (number : ℕ) (p : List ℕ) (t : List Row) (n bn bm bq m q : ℕ) → Based p t n bn bm bq → 1 ≤ n
    → page_over number p bn bm bq t n m q ≡ page_under number (rows n t) m q
unfolding page_over
page_over_based number p t n bn bm bq m q b h = go (usable p bn bm bq q) refl
  where
    go : (x : Bool) → usable p bn bm bq q ≡ x
        → cond x (laid_out number t n m q (over_bits p bn bm t m q)) (page_under number (rows n t) m q)
        ≡ page_under number (rows n t) m q
    go true e =
        let c : Based p t n bn bm q = subst (λ (x : ℕ). Based p t n bn bm x) (same_prefix p bn bm bq q e) b in
        laid_out_same number t n m q (over_bits p bn bm t m q) (own_bits t m q) (over_bits_based p t n bn bm m q c)
        ∙ laid_out_own number t n m q h
    go false e = refl

-- ---- for callers

-- With a base that is what it is said to be, `write_page_over` answers and leaves what `write_page` does.
pub wrote_based : (out p : List ℕ) (t : List Row) (number n bn bm bq m q : ℕ) (r : Bool) (after : List ℕ) → Based p t n bn bm bq
    → Wrote out t n m q (page_over number p bn bm bq t n m q) r after
    → Wrote out t n m q (page_under number (rows n t) m q) r after
wrote_based out p t number n bn bm bq m q r after b w =
    wrote_same out t n m q (page_over number p bn bm bq t n m q) (page_under number (rows n t) m q) r after w
    (λ h. page_over_based number p t n bn bm bq m q b h)
