-- What a walk has written (`specs/Walk.antt`): the edits of `walk`, one pushed behind the other.
-- In order: an open run before the edits that follow (`pending`); after one entry of the base; after all; turn by turn.
-- Not here: rows and the code's steps (`WalkingLaws`); that the edits are those of an undo (`WalkLaws`).
-- Assumes nothing.
use mathlib.Core.Bool.{Bool, true, false}
use mathlib.Core.List.{List, [], ◌∷◌}
use mathlib.Core.Path.{◌≡◌, refl, sym, ap, subst, ◌∙◌}
use Prim.Native.Nat.{ℕ, suc, ◌+◌, ◌≤◌, ◌<◌}
use native.Mathlib.Omega.{arith}
use borrow.Author.Tests.{eqb-false, eqb-true}
use lib.Dec.{eqb}
use lib.ListN.{length, drop, drop_of_length-le}
use Rattle.std.specs.Prelude.{Option, Some, None}
use Rattle.format.specs.Bits.{bytes_for}
use Rattle.format.specs.Key.{below}
use Rattle.format.specs.Page.{Entry}
use Rattle.format.specs.Edit.{Edit}
use Rattle.format.specs.Edit.Edit.{Insert, Update, Keep}
use Rattle.format.specs.Undo.{joined}
use Rattle.facts.proofs.WalkLaws.{joined_ends, joined_grows}
use Rattle.rows.specs.declared.table.Row.{Row}
use Rattle.rows.specs.Rows.{row_entry, rows}
use Rattle.rows.proofs.RowsLaws.{length-rows}
use Rattle.branch_ops.specs.Writer.{Writing, finished_bytes, pushed_all, record_in, starting_writer}
use Rattle.branch_ops.specs.declared.writer.RecordWriter.{RecordWriter}
use Rattle.undo.specs.declared.Walk.{Walk}
use Rattle.undo.specs.Walk.{Walking, after, begun, closed, kept, kept_behind, meet, met, othered, run_written, skipped, stepped, undo_size, walk, walked, walking, writing_of}
use Rattle.undo.proofs.WalkingLaws.{drop-rows}

-- ---- an open run before the edits that follow

pub pending : Option (ℕ × ℕ) → List Edit → List Edit
pending None es = es
pending (Some (a, b)) es = joined (Keep a b) es

-- the edits that a walk has still to write
abbrev ahead : Walking → List Edit → Writing
ahead w es = pushed_all w.writing (pending w.run es)

-- an edit that does not join a run, if there is one, before it
Apart : Option (ℕ × ℕ) → Edit → List Edit → Type 0
Apart None x es = Unit {0}
Apart (Some (a, b)) x es = joined (Keep a b) (joined x es) ≡ Keep a b ∷ joined x es

module _ (es : List Edit) where
  -- a run that is closed, and an edit behind it
  closed_then : (s : Writing) (r : Option (ℕ × ℕ)) (x : Edit) → Apart r x es
      → pushed_all (run_written s r) (joined x es) ≡ pushed_all s (pending r (joined x es))
  unfolding run_written pending pushed_all Apart
  closed_then s None x e = refl
  closed_then s (Some (a, b)) x e = ap (pushed_all s) (sym e)

  insert_apart : (r : Option (ℕ × ℕ)) (k : List ℕ) (p : ℕ) → Apart r (Insert k p) es
  unfolding Apart joined
  insert_apart None k p = tt
  insert_apart (Some (a, b)) k p = refl

  update_apart : (r : Option (ℕ × ℕ)) (i p : ℕ) → Apart r (Update i p) es
  unfolding Apart joined
  update_apart None i p = tt
  update_apart (Some (a, b)) i p = refl

  after_insert : (w : Walking) (at : ℕ) (k : List ℕ) (p : ℕ) → ahead (othered w at (Insert k p)) es ≡ ahead w (joined (Insert k p) es)
  unfolding pending joined pushed_all
  after_insert w at k p = closed_then w.writing w.run (Insert k p) (insert_apart w.run k p)

  after_update : (w : Walking) (at i p : ℕ) → ahead (othered w at (Update i p)) es ≡ ahead w (joined (Update i p) es)
  unfolding pending joined pushed_all
  after_update w at i p = closed_then w.writing w.run (Update i p) (update_apart w.run i p)

  after-begun : (w : Walking) (j : ℕ) → Apart w.run (Keep j (suc j)) es → ahead (begun w j) es ≡ ahead w (joined (Keep j (suc j)) es)
  unfolding run_written pending
  after-begun w j d =
      let z : j + 1 ≡ suc j = omega arith in
      ap (λ (f : ℕ). pushed_all (closed w) (joined (Keep j f) es)) z ∙ closed_then w.writing w.run (Keep j (suc j)) d

  after_kept : (w : Walking) (j : ℕ) → ahead (kept w j) es ≡ ahead w (joined (Keep j (suc j)) es)
  unfolding kept_behind pending Apart
  after_kept w j = go w.run refl
    where
      go : (r : Option (ℕ × ℕ)) → w.run ≡ r → ahead (kept_behind r w j) es ≡ ahead w (joined (Keep j (suc j)) es)
      go None q = after-begun w j (subst (λ (r : Option (ℕ × ℕ)). Apart r (Keep j (suc j)) es) (sym q) tt)
      go (Some (a, b)) q = side (eqb b j) refl
        where
          side : (t : Bool) → eqb b j ≡ t → ahead (kept_behind (Some (a, b)) w j) es ≡ ahead w (joined (Keep j (suc j)) es)
          side true p =
              let z : j + 1 ≡ suc j = omega arith in
              rw p
              (ap (λ (f : ℕ). pushed_all w.writing (joined (Keep a f) es)) z
              ∙ sym (ap (λ (r : Option (ℕ × ℕ)). pushed_all w.writing (pending r (joined (Keep j (suc j)) es))) q
              ∙ ap (λ (m : ℕ). pushed_all w.writing (joined (Keep a m) (joined (Keep j (suc j)) es))) (eqb-true b j p)
              ∙ ap (pushed_all w.writing) (joined_grows a j (suc j) es)))
          side false p =
              rw p
              (after-begun w j
              (subst (λ (r : Option (ℕ × ℕ)). Apart r (Keep j (suc j)) es) (sym q)
              (joined_ends a b (Keep j (suc j)) es (eqb-false b j p))))

-- ---- one entry of the base

module _ (w : Walking) (b : Entry) (j : ℕ) (es : List Edit) where
  pub met_ahead : (new : List Entry) → ahead (met w b j new) es ≡ ahead w (joined (meet b j new) es)
  unfolding met meet
  met_ahead [] = after_insert es w j b.key b.pointer
  met_ahead (e ∷ new) = go (below b.key e.key) refl (eqb e.pointer b.pointer) refl
    where
      go : (t : Bool) → below b.key e.key ≡ t → (u : Bool) → eqb e.pointer b.pointer ≡ u
          → ahead (met w b j (e ∷ new)) es ≡ ahead w (joined (meet b j (e ∷ new)) es)
      go true p u q = rw p (after_insert es w j b.key b.pointer)
      go false p true q = rw (p, q) (after_kept es w j)
      go false p false q = rw (p, q) (after_update es w (j + 1) j b.pointer)

kept_at : (r : Option (ℕ × ℕ)) (w : Walking) (j : ℕ) → (kept_behind r w j).at ≡ j + 1
unfolding kept_behind
kept_at None w j = refl
kept_at (Some (a, b)) w j = side (eqb b j) refl
  where
    side : (t : Bool) → eqb b j ≡ t → (kept_behind (Some (a, b)) w j).at ≡ j + 1
    side true q = rw q
    side false q = rw q

met_at : (w : Walking) (b : Entry) (j : ℕ) (new : List Entry) → (met w b j new).at ≡ after b j new
unfolding met after
met_at w b j [] = refl
met_at w b j (e ∷ new) = go (below b.key e.key) refl (eqb e.pointer b.pointer) refl
  where
    z : j + 1 ≡ suc j
    z = omega arith

    go : (t : Bool) → below b.key e.key ≡ t → (u : Bool) → eqb e.pointer b.pointer ≡ u
        → (met w b j (e ∷ new)).at ≡ after b j (e ∷ new)
    go true p u q = rw p
    go false p true q = rw (p, q) (kept_at w.run w j ∙ z)
    go false p false q = rw (p, q) z

-- ---- all entries of the base

closed-last : (w : Walking) → closed w ≡ ahead w []
unfolding run_written pending joined pushed_all
closed-last w = go w.run
  where
    go : (r : Option (ℕ × ℕ)) → run_written w.writing r ≡ pushed_all w.writing (pending r [])
    go None = refl
    go (Some (a, b)) = refl

pub walked-closed : (bs new : List Entry) (w : Walking) → closed (walked w bs new) ≡ ahead w (walk bs w.at new)
unfolding walked walk stepped
walked-closed [] new w = closed-last w
walked-closed (b ∷ bs) new w =
    let j : ℕ = skipped b.key w.at (drop w.at new) in
    let next : Walking = met w b j (drop j new) in
    walked-closed bs new next ∙ met_ahead w b j (walk bs next.at new) (drop j new)
    ∙ ap (λ (i : ℕ). ahead w (joined (meet b j (drop j new)) (walk bs i new))) (met_at w b j (drop j new))

-- ---- turn by turn

-- the walk before its first entry
abbrev pub fresh : List ℕ → Walking
fresh d = record { writing = writing_of starting_writer d; at = 0; run = None }

-- i entries of the base are behind the walk
abbrev pub Walked : List Row → ℕ → List Row → ℕ → List ℕ → ℕ → Walk → List ℕ → Type 0
Walked base n new k d₀ i w d =
    walked (fresh d₀) (rows n base) (rows k new) ≡ walked (walking w d) (drop i (rows n base)) (rows k new)

module _ (base : List Row) (n : ℕ) (new : List Row) (k : ℕ) (d₀ : List ℕ) where
  pub walked_none : (s : RecordWriter) → s ≡ starting_writer
      → Walked base n new k d₀ 0 (record { writer = s; at = 0; run = None }) d₀
  unfolding walking
  walked_none s e =
      ap (λ (x : RecordWriter). walked (record { writing = writing_of x d₀; at = 0; run = None }) (rows n base) (rows k new)) (sym e)

  module _ (i : ℕ) (w : Walk) (d : List ℕ) (s : Walked base n new k d₀ i w d) where
    pub walked_more : (v : Walk) (d' : List ℕ) → i < n → walking v d' ≡ stepped (walking w d) (row_entry base i) (rows k new)
        → Walked base n new k d₀ (i + 1) v d'
    unfolding walked
    walked_more v d' h e =
        let z : suc i ≡ i + 1 = omega arith in
        s ∙ ap (λ (l : List Entry). walked (walking w d) l (rows k new)) (drop-rows n base i h)
        ∙ ap (λ (x : Walking). walked x (drop (suc i) (rows n base)) (rows k new)) (sym e)
        ∙ ap (λ (j : ℕ). walked (walking v d') (drop j (rows n base)) (rows k new)) z

    -- what is written in the end
    walked_all : (c : RecordWriter) (d₁ : List ℕ) → n ≤ i → writing_of c d₁ ≡ closed (walking w d)
        → pushed_all (writing_of starting_writer d₀) (walk (rows n base) 0 (rows k new)) ≡ writing_of c d₁
    unfolding walked pending
    walked_all c d₁ h e =
        let l : length (rows n base) ≤ i = omega (arith, length-rows n base) in
        sym (walked-closed (rows n base) (rows k new) (fresh d₀))
        ∙ ap closed (s ∙ ap (λ (x : List Entry). walked (walking w d) x (rows k new)) (drop_of_length-le (rows n base) l))
        ∙ sym e

    pub walked_bytes : (c : RecordWriter) (d₁ d₂ : List ℕ) → d₂ ≡ finished_bytes c d₁ → writing_of c d₁ ≡ closed (walking w d) → n ≤ i
        → d₂ ≡ record_in d₀ (walk (rows n base) 0 (rows k new))
    unfolding record_in
    walked_bytes c d₁ d₂ f e h = f ∙ sym (ap (λ (x : Writing). finished_bytes x.writer x.buffer) (walked_all c d₁ h e))

    pub walked_size : (c : RecordWriter) (d₁ : List ℕ) (r : ℕ) → r ≡ bytes_for c.bit → writing_of c d₁ ≡ closed (walking w d) → n ≤ i
        → r ≡ undo_size d₀ (walk (rows n base) 0 (rows k new))
    unfolding undo_size
    walked_size c d₁ r f e h = f ∙ sym (ap (λ (x : Writing). bytes_for x.writer.bit) (walked_all c d₁ h e))

pub ruleset turns = (walked_none, walked_more)
