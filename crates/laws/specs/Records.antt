-- What is promised of edit records and of undo records.
--      6  RecordBack RecordOwn                          edit records
--      7  UndoApplies UndoInside UndoCount UndoBound UndoRuns       undo records
-- Assumes nothing.
use Rattle.std.specs.Prelude.{true, false, List, ◌∷◌, ◌++◌, ◌≢◌, ◌≡◌, ℕ, ◌≤◌, length}
use Rattle.std.proofs.Math.Option.{some}
use Rattle.format.specs.Bits.{AllBelow}
use Rattle.format.specs.Answer.{Answer}
use Rattle.format.specs.Page.{Entry, Sound}
use Rattle.format.specs.Edit.{Edit, AllWellFormed, record_of, read_record, apply, any_outside, ascending}
use Rattle.format.specs.Edit.Edit.{Keep}
use Rattle.format.specs.Undo.{undo_edits}
use Rattle.format.specs.Build.{Numbers, build}
use Rattle.laws.specs.Pages.{Rising}

-- ---- 6. The edit record

-- A record of edits is read back as those edits.
abbrev pub RecordBack : Type 0
RecordBack = (es : List Edit) → AllWellFormed es → length es ≤ 1023 → read_record (record_of es) ≡ some es

-- A record that is not malformed is the record of its edits, byte for byte.
abbrev pub RecordOwn : Type 0
RecordOwn = (r : List ℕ) (es : List Edit) → AllBelow 256 r → read_record r ≡ some es
    → AllWellFormed es × (length es ≤ 1023) × (record_of es ≡ r)

-- ---- 7. The undo record

-- Undo makes the base's entries out of the new page's; so their keys ascend.
abbrev pub UndoApplies : Type 0
UndoApplies = (base new : List Entry) → Rising base → Sound new
    → (apply new (undo_edits base new) ≡ base) × (ascending (apply new (undo_edits base new)) ≡ true)

-- Undo names no position that the new page does not have.
abbrev pub UndoInside : Type 0
UndoInside = (base new : List Entry) → any_outside (length new) (undo_edits base new) ≡ false

-- Undo has an edit, and no more edits than the base has entries.
abbrev pub UndoCount : Type 0
UndoCount = (base new : List Entry) → 1 ≤ length base
    → (1 ≤ length (undo_edits base new)) × (length (undo_edits base new) ≤ length base)

-- No undo record exceeds 24,688 bytes.
abbrev pub UndoBound : Type 0
UndoBound = (base rec : List ℕ) (number : ℕ) (page undo : List ℕ) (v : Numbers) → AllBelow 256 base
    → (build base rec number page undo).answer ≡ Answer.Value v → v.undo ≤ 24688

-- Kept entries are joined into the longest runs: no Keep is followed by one that starts where it ends.
abbrev pub UndoRuns : Type 0
UndoRuns = (base new : List Entry) (before after : List Edit) (s e t f : ℕ)
    → undo_edits base new ≡ before ++ (Keep s e ∷ Keep t f ∷ after) → e ≢ t
