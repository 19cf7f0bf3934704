-- The walk makes the edits of an undo, where the keys of the base's entries and of the new ones rise (`specs/Walk.antt`).
-- In order: entries that are passed over; what an entry of the base meets; all of them.
-- Not here: what is written of the edits (`WrittenLaws`).
-- Assumes nothing.
use mathlib.Core.Bool.{Bool, true, false}
use mathlib.Core.List.{List, [], ◌∷◌, ◌++◌, append_assoc}
use mathlib.Core.Logic.{inl, inr, ◌⊎◌}
use mathlib.Core.Path.{◌≡◌, refl, sym, ap, ap₂, ◌∙◌}
use Prim.Native.Nat.{ℕ, suc, ◌+◌, ◌≤◌, ◌<◌}
use native.Mathlib.Omega.{arith}
use borrow.Author.Tests.{eqb-false, eqb-true}
use lib.Dec.{eqb}
use lib.ListN.{drop, length, length-append}
use lib.Seq.{drop-append_seam}
use Rattle.format.specs.Bits.{value}
use Rattle.format.specs.Key.{IsKey, below}
use Rattle.format.specs.Page.{Entry, Sound}
use Rattle.format.specs.Edit.{Edit, ascending, ascending_from}
use Rattle.format.specs.Undo.{bring, joined, undo_edits}
use Rattle.facts.proofs.AnswerLaws.{and_left, and_right}
use Rattle.facts.proofs.KeyLaws.{below_false, below-value-key}
use Rattle.facts.proofs.UndoLaws.{undo_edits-cons, undo_edits-nil}
use Rattle.facts.proofs.WalkLaws.{Others, bring_absent, bring-end, bring-keep, bring_others, bring_update}
use Rattle.undo.specs.Walk.{after, meet, skipped, walk}

-- ---- entries that are passed over

-- all of xs have keys below k's number
Under : ℕ → List Entry → Type 0
Under n [] = Unit {0}
Under n (x ∷ xs) = (value x.key < n) × Under n xs

under_more : (m n : ℕ) (xs : List Entry) → m ≤ n → Under m xs → Under n xs
unfolding Under
under_more m n [] h u = tt
under_more m n (x ∷ xs) h u = (omega (arith, u.0), under_more m n xs h u.1)

under_snoc : (n : ℕ) (xs : List Entry) (e : Entry) → Under n xs → value e.key < n → Under n (xs ++ (e ∷ []))
unfolding Under
under_snoc n [] e u h = (h, tt)
under_snoc n (x ∷ xs) e u h = (u.0, under_snoc n xs e u.1 h)

under_others : (b : Entry) (xs : List Entry) → Under (value b.key) xs → Others b xs
unfolding Under
under_others b [] u = tt
under_others b (x ∷ xs) u =
    let l : value x.key < value b.key = u.0 in
    (λ (q : value x.key ≡ value b.key). omega arith, under_others b xs u.1)

-- ---- rising entries

-- the first of bs, if there is one, has a number of m or more
First : ℕ → List Entry → Type 0
First m [] = Unit {0}
First m (b ∷ bs) = m ≤ value b.key

module _ (b : Entry) where
  tail_rises : (bs : List Entry) → ascending (b ∷ bs) ≡ true → ascending bs ≡ true
  unfolding ascending ascending_from
  tail_rises [] t = refl
  tail_rises (c ∷ bs) t = and_right (below b.key c.key) (ascending_from c.key bs) t

  tail_first : (bs : List Entry) → Sound (b ∷ bs) → ascending (b ∷ bs) ≡ true → First (suc (value b.key)) bs
  unfolding ascending ascending_from Sound First
  tail_first [] w t = tt
  tail_first (c ∷ bs) w t =
      below-value-key b.key c.key w.0 w.2.0 (and_left (below b.key c.key) (ascending_from c.key bs) t)

  tail_sound : (bs : List Entry) → Sound (b ∷ bs) → Sound bs
  unfolding Sound
  tail_sound bs w = w.2

  head_key : (bs : List Entry) → Sound (b ∷ bs) → IsKey b.key
  unfolding Sound
  head_key bs w = w.0

-- ---- what an entry of the base meets

-- the edits from b on, where the new entries from i on have keys that are not below its
abbrev edits_from : Entry → List Entry → ℕ → List Entry → List Edit
edits_from b bs i new = joined (meet b i (drop i new)) (walk bs (after b i (drop i new)) new)

module _ (b : Entry) (bs : List Entry) (kb : IsKey b.key)
    (rest : (xs es : List Entry) → Sound es → ascending es ≡ true → Under (suc (value b.key)) xs
    → walk bs (length xs) (xs ++ es) ≡ undo_edits bs (xs ++ es)) where
  -- the edit is that of the undo, and so are the others
  same_edits : (new : List Entry) (i : ℕ) → meet b i (drop i new) ≡ bring b 0 new → walk bs (after b i (drop i new)) new ≡ undo_edits bs new
      → edits_from b bs i new ≡ undo_edits (b ∷ bs) new
  same_edits new i p q = ap₂ joined p q ∙ sym (undo_edits-cons b bs new)

  -- xs are passed over: what b meets is decided by the entries behind them
  bring_behind : (xs es : List Entry) → Under (value b.key) xs → bring b 0 (xs ++ es) ≡ bring b (length xs) es
  bring_behind xs es u =
      let z : 0 + length xs ≡ length xs = omega arith in
      bring_others b xs es 0 (under_others b xs u) ∙ ap (λ (j : ℕ). bring b j es) z

  at_seam : (xs es : List Entry) → drop (length xs) (xs ++ es) ≡ es
  at_seam xs es = drop-append_seam xs es

  here : (xs es : List Entry) → Under (value b.key) xs → meet b (length xs) es ≡ bring b (length xs) es
      → walk bs (after b (length xs) es) (xs ++ es) ≡ undo_edits bs (xs ++ es)
      → edits_from b bs (length xs) (xs ++ es) ≡ undo_edits (b ∷ bs) (xs ++ es)
  here xs es u p q =
      same_edits (xs ++ es) (length xs) (ap (meet b (length xs)) (at_seam xs es) ∙ p ∙ sym (bring_behind xs es u))
      (ap (λ (l : List Entry). walk bs (after b (length xs) l) (xs ++ es)) (at_seam xs es) ∙ q)

  onward : (xs : List Entry) → Under (value b.key) xs → Under (suc (value b.key)) xs
  onward xs u = under_more (value b.key) (suc (value b.key)) xs (omega arith) u

  nothing_left : (xs : List Entry) → Under (value b.key) xs → edits_from b bs (length xs) (xs ++ []) ≡ undo_edits (b ∷ bs) (xs ++ [])
  unfolding meet after Sound ascending
  nothing_left xs u = here xs [] u (sym (bring-end b (length xs))) (rest xs [] tt refl (onward xs u))

  module _ (xs : List Entry) (e : Entry) (es : List Entry) (we : Sound (e ∷ es)) (te : ascending (e ∷ es) ≡ true) (u : Under (value b.key) xs) where
    passed_key : below b.key e.key ≡ true → edits_from b bs (length xs) (xs ++ (e ∷ es)) ≡ undo_edits (b ∷ bs) (xs ++ (e ∷ es))
    unfolding meet after
    passed_key t =
        let l : value b.key < value e.key = below-value-key b.key e.key kb (head_key e es we) t in
        here xs (e ∷ es) u (rw t (sym (bring_absent b (length xs) e es we te l)))
        (rw t (rest xs (e ∷ es) we te (onward xs u)))

    module _ (k : e.key ≡ b.key) (f : below b.key e.key ≡ false) where
      same_value : value e.key ≡ value b.key
      same_value = ap value k

      meets : meet b (length xs) (e ∷ es) ≡ bring b (length xs) (e ∷ es)
      unfolding meet
      meets = go (eqb e.pointer b.pointer) refl
        where
          go : (t : Bool) → eqb e.pointer b.pointer ≡ t → meet b (length xs) (e ∷ es) ≡ bring b (length xs) (e ∷ es)
          go true q = rw (f, q) (sym (bring-keep b (length xs) e es same_value (eqb-true e.pointer b.pointer q)))
          go false q = rw (f, q) (sym (bring_update b (length xs) e es same_value (eqb-false e.pointer b.pointer q)))

      met-key : edits_from b bs (length xs) (xs ++ (e ∷ es)) ≡ undo_edits (b ∷ bs) (xs ++ (e ∷ es))
      unfolding after
      met-key =
          let ys : List Entry = xs ++ (e ∷ []) in
          let l : length ys ≡ suc (length xs) = omega (arith, length-append xs (e ∷ [])) in
          let v : value e.key < suc (value b.key) = omega (arith, same_value) in
          let q : ys ++ es ≡ xs ++ (e ∷ es) = append_assoc xs (e ∷ []) es in
          let r : walk bs (length ys) (ys ++ es) ≡ undo_edits bs (ys ++ es) =
          rest ys es (tail_sound e es we) (tail_rises e es te) (under_snoc (suc (value b.key)) xs e (onward xs u) v) in
          here xs (e ∷ es) u meets
          (rw f (ap₂ (λ (i : ℕ) (new : List Entry). walk bs i new) (sym l) (sym q) ∙ r ∙ ap (undo_edits bs) q))

  meets_all : (es xs : List Entry) → Sound es → ascending es ≡ true → Under (value b.key) xs
      → edits_from b bs (skipped b.key (length xs) es) (xs ++ es) ≡ undo_edits (b ∷ bs) (xs ++ es)
  unfolding skipped
  meets_all [] xs w t u = nothing_left xs u
  meets_all (e ∷ es) xs w t u = go (below e.key b.key) refl (below b.key e.key) refl (meets_all es (xs ++ (e ∷ [])) (tail_sound e es w) (tail_rises e es t))
    where
      go : (p : Bool) → below e.key b.key ≡ p → (q : Bool) → below b.key e.key ≡ q
          → (Under (value b.key) (xs ++ (e ∷ [])) → edits_from b bs (skipped b.key (length (xs ++ (e ∷ []))) es) ((xs ++ (e ∷ [])) ++ es) ≡ undo_edits (b ∷ bs) ((xs ++ (e ∷ [])) ++ es))
          → edits_from b bs (skipped b.key (length xs) (e ∷ es)) (xs ++ (e ∷ es)) ≡ undo_edits (b ∷ bs) (xs ++ (e ∷ es))
      go true p q r ih =
          let v : value e.key < value b.key = below-value-key e.key b.key (head_key e es w) kb p in
          let l : length (xs ++ (e ∷ [])) ≡ suc (length xs) = omega (arith, length-append xs (e ∷ [])) in
          let a : (xs ++ (e ∷ [])) ++ es ≡ xs ++ (e ∷ es) = append_assoc xs (e ∷ []) es in
          rw p (ap₂ (λ (j : ℕ) (new : List Entry). edits_from b bs (skipped b.key j es) new) (sym l) (sym a) ∙ ih (under_snoc (value b.key) xs e u v) ∙ ap (undo_edits (b ∷ bs)) a)
      go false p true r ih = rw p (passed_key xs e es w t u r)
      go false p false r ih = rw p (met-key xs e es w t u (equal (below_false e.key b.key p)) r)
        where
          equal : (e.key ≡ b.key) ⊎ (below b.key e.key ≡ true) → e.key ≡ b.key
          equal (inl k) = k
          equal (inr g) = let z : ◌≡◌ {A = ℕ} 0 1 = cc in absurd (omega arith)

-- ---- all of them

walk_from : (m : ℕ) (bs : List Entry) → Sound bs → ascending bs ≡ true → First m bs → (xs es : List Entry) → Sound es → ascending es ≡ true
    → Under m xs → walk bs (length xs) (xs ++ es) ≡ undo_edits bs (xs ++ es)
unfolding walk First
walk_from m [] w t f xs es we te u = sym (undo_edits-nil (xs ++ es))
walk_from m (b ∷ bs) w t f xs es we te u =
    ap (λ (l : List Entry). let i : ℕ = skipped b.key (length xs) l in joined (meet b i (drop i (xs ++ es))) (walk bs (after b i (drop i (xs ++ es))) (xs ++ es))) (drop-append_seam xs es)
    ∙ meets_all b bs (head_key b bs w)
    (walk_from (suc (value b.key)) bs (tail_sound b bs w) (tail_rises b bs t) (tail_first b bs w t))
    es xs we te (under_more m (value b.key) xs f u)

-- where all keys rise, the walk's edits are those of the undo
pub walk-undo_edits : (base new : List Entry) → Sound base → ascending base ≡ true → Sound new → ascending new ≡ true
    → walk base 0 new ≡ undo_edits base new
unfolding First Under
walk-undo_edits base new wb tb wn tn = walk_from 0 base wb tb (any base) [] new wn tn tt
  where
    any : (bs : List Entry) → First 0 bs
    any [] = tt
    any (b ∷ bs) = omega arith
