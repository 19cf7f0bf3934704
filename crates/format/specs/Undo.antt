-- The undo record: the edits that make the base's entries out of the new page's. Document 01, "Undo record".
-- In order: bring joined undo_edits undo_record.
-- Assumes nothing.
use Rattle.std.specs.Prelude.{ℕ, suc, cond, List, [], ◌∷◌, eqb}
use Rattle.format.specs.Bits.{value}
use Rattle.format.specs.Key.{same_key}
use Rattle.format.specs.Page.{Entry}
use Rattle.format.specs.Edit.{Edit, record_of}
use Rattle.format.specs.Edit.Edit.{Insert, Update, Keep}

-- The edit that brings the base's entry b back, where the new page has es from position i on: Keep where its key is
-- there with the same pointer,
-- Update where it is there with another, Insert where it is absent.
unfoldable pub bring : Entry → ℕ → List Entry → Edit
unfolding value
bring b i [] = Insert b.key b.pointer
bring b i (e ∷ es) =
    let later : Edit = bring b (suc i) es in
    cond (same_key e.key b.key) (cond (eqb e.pointer b.pointer) (Keep i (suc i)) (Update i b.pointer)) later

-- An edit before others: a Keep becomes one with the Keep behind it if that starts where it ends.
unfoldable pub joined : Edit → List Edit → List Edit
joined (Insert k p) es = Insert k p ∷ es
joined (Update i p) es = Update i p ∷ es
joined (Keep s e) [] = Keep s e ∷ []
joined (Keep s e) (Insert k p ∷ es) = Keep s e ∷ Insert k p ∷ es
joined (Keep s e) (Update i p ∷ es) = Keep s e ∷ Update i p ∷ es
joined (Keep s e) (Keep t f ∷ es) = cond (eqb e t) (Keep s f ∷ es) (Keep s e ∷ Keep t f ∷ es)

-- An edit for each entry of the base, in order, the kept ones joined into the longest runs of neighbours in both
-- pages; none for no base.
unfoldable pub undo_edits : List Entry → List Entry → List Edit
unfolding joined bring
undo_edits [] new = []
undo_edits (b ∷ bs) new = joined (bring b 0 new) (undo_edits bs new)

-- Their record; 00 00 for no base.
unfoldable pub undo_record : List Entry → List Entry → List ℕ
unfolding record_of undo_edits
undo_record base new = record_of (undo_edits base new)
