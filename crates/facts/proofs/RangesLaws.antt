-- Laws of what is done with keys and ranges of bits (format's `specs/Ranges.antt`).
-- In order: `separate`; ranges inside a slice; a part of a list replaced, by index; `bit_copy`, and the bits that it
-- leaves.
-- Not here: shared bits and the order of keys (`KeyLaws`).
-- Assumes nothing.
use mathlib.Core.Bool.{Bool, ◌&&◌, ◌||◌, cond, false, not, true}
use mathlib.Core.List.{◌++◌, List, [], ◌∷◌}
use mathlib.Core.Logic.{inl, inr, ◌⊎◌}
use mathlib.Core.Path.{ap, refl, subst, sym, ◌∙◌, ◌≡◌}
use Prim.Native.Nat.{◌*◌, ◌+◌, ◌-◌, ◌<◌, suc, zero, ℕ, ◌≤◌}
use native.Mathlib.Numerals.{add-one}
use native.Mathlib.Omega.{arith}
use borrow.Author.Tests.{eqb-true, leb-true}
use lib.Dec.{eqb, leb}
use lib.ListN.{drop, get_or, length, length-drop, replicate, take}
use lib.Seq.{drop_at, drop-paste, get_or-drop, get_or-take, length-paste, length-take-le, paste, paste-zero, take_at, take-paste}
use Rattle.format.specs.Bits.{AllBelow, bits_of, fill}
use Rattle.format.specs.Key.{IsKey, below, separator, shared_bits}
use Rattle.format.specs.Answer.{Answer, first, unless}
use Rattle.format.specs.Ranges.{bit_copy, bits_copied, inside, separate}
use Rattle.facts.proofs.BitsLaws.{AllBelow-append, AllBelow-bits_of, AllBelow-drop, AllBelow-fill, AllBelow-pack, AllBelow-take, bits_of-pack, fill-cons, fill_exact, fill-nil, length-bits_of, length-fill, length-pack}
use Rattle.facts.proofs.KeyLaws.{below_cases, below_less, below_more, below-nil, below_same, shared_bits_more}

-- ---- separate

-- the first bits of b, up to the first in which a has a smaller one, stand above a
below_front : (a b : List ℕ) (n : ℕ) → length a ≡ n → length b ≡ n → below a b ≡ true
    → below a (fill n (take (suc (shared_bits a b)) b)) ≡ true
below_front a [] n la lb t = let z : ◌≡◌ {A = ℕ} 0 1 = cc (below-nil a) in absurd (omega arith)
below_front [] (y ∷ ys) n la lb t = absurd (omega arith)
below_front (x ∷ xs) (y ∷ ys) zero la lb t = absurd (omega arith)
below_front (x ∷ xs) (y ∷ ys) (suc n) la lb t = go (below_cases x y xs ys t) (below_front xs ys n (omega arith) (omega arith))
  where
    go : (x < y) ⊎ ((x ≡ y) × (below xs ys ≡ true))
        → (below xs ys ≡ true → below xs (fill n (take (suc (shared_bits xs ys)) ys)) ≡ true)
        → below (x ∷ xs) (fill (suc n) (take (suc (shared_bits (x ∷ xs) (y ∷ ys))) (y ∷ ys))) ≡ true
    go (inl l) ih = rw fill-cons (below_less x y xs (fill n (take (shared_bits (x ∷ xs) (y ∷ ys)) ys)) l)
    go (inr e) ih =
        rw (shared_bits_more x y xs ys e.0, fill-cons)
        (below_same x y xs (fill n (take (suc (shared_bits xs ys)) ys)) e.0 ∙ ih e.1)

-- zeros stand above nothing
below_zeros : (b : List ℕ) (n : ℕ) → length b ≡ n → below b (replicate n 0) ≡ false
below_zeros b zero l = below-nil b
below_zeros [] (suc n) l = absurd (omega arith)
below_zeros (zero ∷ ys) (suc n) l = below_same 0 0 ys (replicate n 0) refl ∙ below_zeros ys n (omega arith)
below_zeros (suc y ∷ ys) (suc n) l = below_more (suc y) 0 ys (replicate n 0) (omega arith)

-- nor do first bits of b with zeros behind them stand above b
below_filled : (b : List ℕ) (n k : ℕ) → length b ≡ n → below b (fill n (take k b)) ≡ false
below_filled b n zero l = rw fill-nil (below_zeros b n l)
below_filled [] n (suc k) l = rw fill-nil (below_zeros [] n l)
below_filled (y ∷ ys) zero (suc k) l = absurd (omega arith)
below_filled (y ∷ ys) (suc n) (suc k) l = rw fill-cons (below_same y y ys (fill n (take k ys)) refl ∙ below_filled ys n k (omega arith))

module _ (a b : List ℕ) (ka : IsKey a) (kb : IsKey b) where
  pub IsKey-separator : IsKey (separator a b)
  unfolding separator
  IsKey-separator =
      record {
        size = length-fill 256 (take (shared_bits a b + 1) b);
        bits = AllBelow-fill 2 256 (take (shared_bits a b + 1) b) (omega arith) (AllBelow-take 2 (shared_bits a b + 1) b kb.bits);
      }

  pub below-separator : below a b ≡ true → below a (separator a b) ≡ true
  unfolding separator
  below-separator t = rw add-one (below_front a b 256 ka.size kb.size t)

  pub separator-not_above : below b (separator a b) ≡ false
  unfolding separator
  separator-not_above = below_filled b 256 (shared_bits a b + 1) kb.size

-- where it answers, a is below b and the answer is their separator
pub separate-value : (a b c : List ℕ) → separate a b ≡ Answer.Value c → (below a b ≡ true) × (c ≡ separator a b)
unfolding separate unless first
separate-value a b c e = go (below a b) refl e
  where
    go : (t : Bool) → below a b ≡ t → unless (cond (not t) 17 0) (separator a b) ≡ Answer.Value c → (below a b ≡ true) × (c ≡ separator a b)
    go true q e = (q, cc)
    go false q e = let z : ◌≡◌ {A = ℕ} 0 1 = cc in absurd (omega arith)

-- ---- ranges

pub inside_range : (size at len : ℕ) → inside size at len ≡ true → (len ≡ 0) ⊎ (at + len ≤ 8 * size)
unfolding inside
inside_range size at len e = go (eqb len 0) refl e
  where
    go : (t : Bool) → eqb len 0 ≡ t → (t || leb (at + len) (8 * size)) ≡ true → (len ≡ 0) ⊎ (at + len ≤ 8 * size)
    go true q e = inl (eqb-true len 0 q)
    go false q e = inr (leb-true (at + len) (8 * size) e)

-- ---- a part replaced, by index

module _ (d : List ℕ) (at : ℕ) (s : List ℕ) (n : ℕ) (hd : at + n ≤ length d) (hs : n ≤ length s) where
  at_most : at ≤ length d
  at_most = omega arith

  front : List ℕ
  front = take at d ++ take n s

  get_d_front : (i : ℕ) → i < at + n → get_or (paste d at s n) i 0 ≡ get_or front i 0
  unfolding front
  get_d_front i h = sym (get_or-take (at + n) (paste d at s n) i 0 h) ∙ ap (λ (l : List ℕ). get_or l i 0) (take-paste d at s n at_most hs)

  pub paste_before : (i : ℕ) → i < at → get_or (paste d at s n) i 0 ≡ get_or d i 0
  unfolding front
  paste_before i h =
      get_d_front i (omega arith)
      ∙ sym (get_or-take at front i 0 h)
      ∙ ap (λ (l : List ℕ). get_or l i 0) (take_at (take at d) (take n s) at (length-take-le at d at_most))
      ∙ get_or-take at d i 0 h

  pub paste_inner : (i : ℕ) → i < n → get_or (paste d at s n) (at + i) 0 ≡ get_or s i 0
  unfolding front
  paste_inner i h =
      get_d_front (at + i) (omega arith)
      ∙ sym (get_or-drop at front i 0)
      ∙ ap (λ (l : List ℕ). get_or l i 0) (drop_at (take at d) (take n s) at (length-take-le at d at_most))
      ∙ get_or-take n s i 0 h

  pub paste_behind : (i : ℕ) → at + n ≤ i → get_or (paste d at s n) i 0 ≡ get_or d i 0
  paste_behind i h =
      let j : ℕ = i - (at + n) in
      let e : at + n + j ≡ i = omega arith in
      let g : get_or (paste d at s n) (at + n + j) 0 ≡ get_or d (at + n + j) 0 =
      sym (get_or-drop (at + n) (paste d at s n) j 0)
      ∙ ap (λ (l : List ℕ). get_or l j 0) (drop-paste d at s n at_most hs)
      ∙ get_or-drop (at + n) d j 0 in
      subst (λ (k : ℕ). get_or (paste d at s n) k 0 ≡ get_or d k 0) e g

-- ---- bit copy

-- where it answers, both ranges are inside and the answer is the copy
pub bit_copy-value : (dst : List ℕ) (to : ℕ) (src : List ℕ) (from len : ℕ) (after : List ℕ) → bit_copy dst to src from len ≡ Answer.Value after
    → (inside (length dst) to len ≡ true) × (inside (length src) from len ≡ true) × (after ≡ bits_copied dst to src from len)
unfolding bit_copy unless first
bit_copy-value dst to src from len after e = go (inside (length dst) to len) refl (inside (length src) from len) refl e
  where
    go : (t : Bool) → inside (length dst) to len ≡ t → (u : Bool) → inside (length src) from len ≡ u
        → unless (cond (not (t && u)) 18 0) (bits_copied dst to src from len) ≡ Answer.Value after
        → (inside (length dst) to len ≡ true) × (inside (length src) from len ≡ true) × (after ≡ bits_copied dst to src from len)
    go true p true q e = (p, q, cc)
    go true p false q e = let z : ◌≡◌ {A = ℕ} 0 1 = cc in absurd (omega arith)
    go false p u q e = let z : ◌≡◌ {A = ℕ} 0 1 = cc in absurd (omega arith)

module _ (dst : List ℕ) (to : ℕ) (src : List ℕ) (from len : ℕ) where
  abbrev pasted : List ℕ
  pasted = paste (bits_of dst) to (drop from (bits_of src)) len

  AllBelow_pasted : AllBelow 2 pasted
  AllBelow_pasted =
      AllBelow-append 2 (take to (bits_of dst) ++ take len (drop from (bits_of src))) (drop (to + len) (bits_of dst))
      (AllBelow-append 2 (take to (bits_of dst)) (take len (drop from (bits_of src)))
      (AllBelow-take 2 to (bits_of dst) (AllBelow-bits_of dst))
      (AllBelow-take 2 len (drop from (bits_of src)) (AllBelow-drop 2 from (bits_of src) (AllBelow-bits_of src))))
      (AllBelow-drop 2 (to + len) (bits_of dst) (AllBelow-bits_of dst))

  pub length-bits_copied : length (bits_copied dst to src from len) ≡ length dst
  unfolding bits_copied
  length-bits_copied = length-pack (length dst) pasted

  pub AllBelow-bits_copied : AllBelow 256 (bits_copied dst to src from len)
  unfolding bits_copied
  AllBelow-bits_copied = AllBelow-pack (length dst) pasted AllBelow_pasted

  pasted_none : len ≡ 0 → pasted ≡ bits_of dst
  pasted_none e = ap (paste (bits_of dst) to (drop from (bits_of src))) e ∙ sym (paste-zero (bits_of dst) to (drop from (bits_of src)))

  module _ (p : inside (length dst) to len ≡ true) (q : inside (length src) from len ≡ true) where
    -- a fact of the pasted bits holds where there are none to paste, and where both ranges have them
    by_range : {P : Type 0} → (len ≡ 0 → P) → (to + len ≤ length (bits_of dst) → len ≤ length (drop from (bits_of src)) → P) → P
    by_range {P} empty some = go (inside_range (length dst) to len p) (inside_range (length src) from len q)
      where
        go : (len ≡ 0) ⊎ (to + len ≤ 8 * length dst) → (len ≡ 0) ⊎ (from + len ≤ 8 * length src) → P
        go (inl e) r = empty e
        go (inr h) (inl e) = empty e
        go (inr h) (inr k) =
            some (omega (arith, length-bits_of dst)) (omega (arith, length-drop from (bits_of src), length-bits_of src))

    length_pasted : length pasted ≡ 8 * length dst
    length_pasted =
        by_range (λ e. ap length (pasted_none e)) (length-paste (bits_of dst) to (drop from (bits_of src)) len) ∙ length-bits_of dst

    -- its bits are the destination's with the named ones replaced
    pub bits_of-bits_copied : bits_of (bits_copied dst to src from len) ≡ paste (bits_of dst) to (drop from (bits_of src)) len
    unfolding bits_copied
    bits_of-bits_copied = bits_of-pack (length dst) pasted AllBelow_pasted ∙ fill_exact pasted (8 * length dst) length_pasted

    bit_pasted : (i : ℕ) → get_or (bits_of (bits_copied dst to src from len)) i 0 ≡ get_or pasted i 0
    bit_pasted i = ap (λ (l : List ℕ). get_or l i 0) bits_of-bits_copied

    pub bits_copied_inner : (i : ℕ) → i < len → get_or (bits_of (bits_copied dst to src from len)) (to + i) 0 ≡ get_or (bits_of src) (from + i) 0
    bits_copied_inner i h =
        bit_pasted (to + i)
        ∙ by_range (λ (e : len ≡ 0). absurd (omega arith))
        (λ hd hs. paste_inner (bits_of dst) to (drop from (bits_of src)) len hd hs i h ∙ get_or-drop from (bits_of src) i 0)

    pub bits_copied_before : (i : ℕ) → i < to → get_or (bits_of (bits_copied dst to src from len)) i 0 ≡ get_or (bits_of dst) i 0
    bits_copied_before i h =
        bit_pasted i
        ∙ by_range (λ e. ap (λ (l : List ℕ). get_or l i 0) (pasted_none e))
        (λ hd hs. paste_before (bits_of dst) to (drop from (bits_of src)) len hd hs i h)

    pub bits_copied_behind : (i : ℕ) → to + len ≤ i → get_or (bits_of (bits_copied dst to src from len)) i 0 ≡ get_or (bits_of dst) i 0
    bits_copied_behind i h =
        bit_pasted i
        ∙ by_range (λ e. ap (λ (l : List ℕ). get_or l i 0) (pasted_none e))
        (λ hd hs. paste_behind (bits_of dst) to (drop from (bits_of src)) len hd hs i h)
