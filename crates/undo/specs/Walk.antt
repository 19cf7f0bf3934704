-- The undo edits as one walk over the base's entries and the new ones. Document 01, "Undo record".
-- In order: skipped meet after walk · undo_size · Walking writing_of walking · run_written closed begun kept_behind kept othered met stepped walked.
-- Assumes nothing.
use Rattle.std.specs.Prelude.{cond, Option, Some, None, List, [], ◌∷◌, ℕ, suc, ◌+◌, eqb, drop}
use Rattle.format.specs.Bits.{bytes_for}
use Rattle.format.specs.Key.{below}
use Rattle.format.specs.Page.{Entry}
use Rattle.format.specs.Edit.{Edit}
use Rattle.format.specs.Edit.Edit.{Insert, Update, Keep}
use Rattle.format.specs.Undo.{joined}
use Rattle.branch_ops.specs.Writer.{Writing, pushed_all, starting_writer}
use Rattle.branch_ops.specs.declared.writer.RecordWriter.{RecordWriter}
use Rattle.undo.specs.declared.Walk.{Walk}

-- The position of the first of es, which stand from position j on, whose key is not below k; the position behind
-- them where there is none.
unfoldable pub skipped : List ℕ → ℕ → List Entry → ℕ
unfolding below
skipped k j [] = j
skipped k j (e ∷ es) = cond (below e.key k) (skipped k (suc j) es) j

-- The edit that brings b back, where es, from position j on, are the new entries whose keys are not below b's.
unfoldable pub meet : Entry → ℕ → List Entry → Edit
unfolding below
meet b j [] = Insert b.key b.pointer
meet b j (e ∷ es) =
    cond (below b.key e.key) (Insert b.key b.pointer)
    (cond (eqb e.pointer b.pointer) (Keep j (suc j)) (Update j b.pointer))

-- The position at which the walk goes on: behind the entry that b met, if it met one.
unfoldable pub after : Entry → ℕ → List Entry → ℕ
unfolding below
after b j [] = j
after b j (e ∷ es) = cond (below b.key e.key) j (suc j)

-- The edits of a walk over the base's entries, the new ones from position j on.
unfoldable pub walk : List Entry → ℕ → List Entry → List Edit
unfolding skipped meet after joined
walk [] j new = []
walk (b ∷ bs) j new =
    let i : ℕ = skipped b.key j (drop j new) in
    joined (meet b i (drop i new)) (walk bs (after b i (drop i new)) new)

-- The length of the record that a new writer writes of edits into the buffer d.
unfoldable pub undo_size : List ℕ → List Edit → ℕ
unfolding bytes_for pushed_all starting_writer
undo_size d es = bytes_for (pushed_all (record { writer = starting_writer; buffer = d }) es).writer.bit

-- A walk as far as it has come: what is written, the position in the new entries, where the open run of kept ones
-- starts and ends, if there is one.
pub record Walking : Type 0 where
  pub writing : Writing
  pub at : ℕ
  pub run : Option (ℕ × ℕ)

-- What a writer and a buffer say of it.
abbrev pub writing_of : RecordWriter → List ℕ → Writing
writing_of w d = record { writer = w; buffer = d }

-- What the code's state and a buffer say of it.
unfoldable pub walking : Walk → List ℕ → Walking
walking w d = record { writing = writing_of w.writer d; at = w.at; run = w.run }

-- A run behind what is written, if there is one.
unfoldable pub run_written : Writing → Option (ℕ × ℕ) → Writing
unfolding pushed_all
run_written s None = s
run_written s (Some (a, b)) = pushed_all s (Keep a b ∷ [])

-- What is written once the open run is, if there is one.
abbrev pub closed : Walking → Writing
closed w = run_written w.writing w.run

-- A run of kept entries begins at j, behind the open one.
abbrev pub begun : Walking → ℕ → Walking
begun w j = record { writing = closed w; at = j + 1; run = Some (j, j + 1) }

-- The new entry at j is kept: a run that ends there grows by it, or a new one begins there.
unfoldable pub kept_behind : Option (ℕ × ℕ) → Walking → ℕ → Walking
unfolding run_written
kept_behind None w j = begun w j
kept_behind (Some (a, b)) w j =
    cond (eqb b j) (record { writing = w.writing; at = j + 1; run = Some (a, j + 1) }) (begun w j)

-- It is kept behind the open run.
abbrev pub kept : Walking → ℕ → Walking
kept w j = kept_behind w.run w j

-- Another edit is written, behind the open run.
abbrev pub othered : Walking → ℕ → Edit → Walking
othered w at e = record { writing = pushed_all (closed w) (e ∷ []); at = at; run = None }

-- The walk after b, where es, from position j on, are the new entries whose keys are not below b's.
unfoldable pub met : Walking → Entry → ℕ → List Entry → Walking
unfolding below kept_behind run_written pushed_all
met w b j [] = othered w j (Insert b.key b.pointer)
met w b j (e ∷ es) =
    cond (below b.key e.key) (othered w j (Insert b.key b.pointer))
    (cond (eqb e.pointer b.pointer) (kept w j) (othered w (j + 1) (Update j b.pointer)))

-- The walk after the base's entry b.
unfoldable pub stepped : Walking → Entry → List Entry → Walking
unfolding skipped met
stepped w b new =
    let j : ℕ = skipped b.key w.at (drop w.at new) in
    met w b j (drop j new)

-- The walk after all of the base's entries.
unfoldable pub walked : Walking → List Entry → List Entry → Walking
unfolding stepped
walked w [] new = w
walked w (b ∷ bs) new = walked (stepped w b new) bs new
