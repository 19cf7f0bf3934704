-- The edit record as the code reads it, edit by edit, with zeros where bits are lacking, and its refusals. Document
-- 01, "Edit record", and the refusals 10 to 12.
-- In order: edit_meant reach_of · formed_in count_of read_tests · kind_at edit_at span_at · kind_number HeadOf inside_head.
-- Assumes nothing.
use Rattle.std.specs.Prelude.{Bool, true, false, cond, not, ◌||◌, List, [], ◌∷◌, ◌≡◌, ℕ, ◌+◌, eqb, ltb, leb, length, drop}
use Rattle.std.proofs.Math.Option.{Option}
use Rattle.format.specs.Answer.{Test, refuse}
use Rattle.format.specs.Bits.{bits_of, value, fill}
use Rattle.format.specs.Build.{edits_of, malformed}
use Rattle.format.specs.Edit.{Edit, field_bits, edit_of, read_record, any_outside}
use Rattle.format.specs.Edit.Edit.{Insert, Update, Keep}
use Rattle.keys.specs.Keys.{key_bits}
use Rattle.edits.specs.declared.edit.Edit.{Edit as CodeEdit}
use Rattle.edits.specs.declared.edit.Edit.TheVariants.{
  Insert as CodeInsert,
  Update as CodeUpdate,
  KeepChunk as CodeKeepChunk,
}
use Rattle.edits.specs.declared.record.Head.{Head}
use Rattle.edits.specs.declared.record.Kind.{Kind}
use Rattle.edits.specs.declared.record.Kind.TheVariants.{Insert as KindInsert, Update as KindUpdate, KeepChunk as KindKeepChunk, Malformed}

-- The edit that the code's enum holds.
abbrev pub edit_meant : CodeEdit → Edit
edit_meant (CodeInsert k p) = Insert (key_bits k) p
edit_meant (CodeUpdate i p) = Update i p
edit_meant (CodeKeepChunk s e) = Keep s e

-- The last position that an edit names; 0 for an Insert.
abbrev pub reach_of : Edit → ℕ
reach_of (Insert k p) = 0
reach_of (Update i p) = i
reach_of (Keep s e) = e

-- The record was not malformed.
unfoldable pub formed_in : Option (List Edit) → Bool
unfolding malformed
formed_in o = not (malformed o)

-- The count in a record's first ten bits.
unfoldable pub count_of : List ℕ → ℕ
unfolding value fill bits_of
count_of r = value (fill 10 (bits_of r))

-- The refusals 10 to 12 of a record over a base of n entries.
unfoldable pub read_tests : ℕ → List ℕ → List Test
unfolding malformed read_record edits_of any_outside
read_tests n rec =
    let es : List Edit = edits_of (read_record rec) in
    refuse 10 (malformed (read_record rec)) ∷ refuse 11 (any_outside n es) ∷ refuse 12 (eqb (length es) 0) ∷ []

-- The kind of the edit at the front of bits.
unfoldable pub kind_at : List ℕ → ℕ
unfolding value fill
kind_at bs = value (fill 2 bs)

-- That edit; a kind 3 counts as a Keep.
unfoldable pub edit_at : List ℕ → Edit
unfolding kind_at edit_of field_bits fill
edit_at bs = edit_of (kind_at bs) (fill (field_bits (kind_at bs)) (drop 2 bs))

-- How many bits it has; 0 where its kind is 3 or bits are lacking.
unfoldable pub span_at : List ℕ → ℕ
unfolding kind_at field_bits
span_at bs =
    let size : ℕ = 2 + field_bits (kind_at bs) in
    cond (ltb (length bs) 2 || eqb (kind_at bs) 3 || ltb (length bs) size) 0 size

-- The number of a kind: 3 is malformed.
abbrev pub kind_number : Kind → ℕ
kind_number KindInsert = 0
kind_number KindUpdate = 1
kind_number KindKeepChunk = 2
kind_number Malformed = 3

-- h has the fields in the first 44 bits.
pub record HeadOf (bs : List ℕ) (h : Head) : Type 0 where
  pub kind : kind_number h.kind ≡ kind_at bs
  pub place : h.place ≡ value (fill 10 (drop 2 bs))
  pub end : h.end ≡ value (fill 10 (drop 12 bs))
  pub pointer : h.pointer ≡ value (fill 32 (drop 12 bs))

-- The positions in h lie in a base of n entries.
unfoldable pub inside_head : ℕ → Head → Bool
inside_head n h =
    cond (eqb (kind_number h.kind) 0) true
    (cond (eqb (kind_number h.kind) 1) (ltb h.place n)
    (cond (ltb h.place h.end) (leb h.end n) false))
