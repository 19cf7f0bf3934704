-- The edit record, and the entries that edits make of a base's. Document 01, "Edit record", and the refusals 10 to
-- 13.
--     BITS    WHAT
--       10    count of edits
--        2    an edit's kind, and then its fields:
--                 0  Insert key pointer      256, 32
--                 1  Update position pointer  10, 32
--                 2  Keep start end           10, 10    end excluded
--                 3  malformed
--       ..    zero bits to the byte's end, and no byte more
-- In order: Edit WellFormed AllWellFormed · edit_bits edits_bits record_of · field_bits edit_of padding and_then read_edits
-- read_record · no_entry made apply · outside any_outside · ascending_from ascending.
-- Assumes nothing.
use Rattle.std.specs.Prelude.{ℕ, zero, suc, ◌-◌, ◌^◌, ◌<◌, Bool, true, false, cond, ◌||◌, ◌&&◌, List, [], ◌∷◌, ◌++◌, length, take, drop, get_or, eqb, ltb, leb}
use Rattle.std.proofs.Math.Option.{Option, none, some}
use Rattle.format.specs.Bits.{bits_of, bits, value, pack, bytes_for}
use Rattle.format.specs.Key.{IsKey, below}
use Rattle.format.specs.Page.{Entry}

-- An edit: a key and its pointer; a position in the base and its new pointer; the positions from start up to end, end
-- excluded.
pub data Edit : Type 0 where
  Insert : List ℕ → ℕ → Edit
  Update : ℕ → ℕ → Edit
  Keep : ℕ → ℕ → Edit

-- Each field of an edit fits its bits.
abbrev pub WellFormed : Edit → Type 0
WellFormed (Insert k p) = IsKey k × (p < 2 ^ 32)
WellFormed (Update i p) = (i < 1024) × (p < 2 ^ 32)
WellFormed (Keep s e) = (s < 1024) × (e < 1024)

-- So does each field of all edits.
abbrev pub AllWellFormed : List Edit → Type 0
AllWellFormed [] = Unit {0}
AllWellFormed (e ∷ es) = WellFormed e × AllWellFormed es

-- An edit as bits: its kind, its fields.
unfoldable pub edit_bits : Edit → List ℕ
unfolding bits
edit_bits (Insert k p) = bits 2 0 ++ k ++ bits 32 p
edit_bits (Update i p) = bits 2 1 ++ bits 10 i ++ bits 32 p
edit_bits (Keep s e) = bits 2 2 ++ bits 10 s ++ bits 10 e

-- Edits as bits, one after the other.
unfoldable pub edits_bits : List Edit → List ℕ
unfolding edit_bits
edits_bits [] = []
edits_bits (e ∷ es) = edit_bits e ++ edits_bits es

-- The record of edits; of more than 1,023 the count does not fit.
unfoldable pub record_of : List Edit → List ℕ
unfolding bits edits_bits pack bytes_for
record_of es =
    let bs : List ℕ = bits 10 (length es) ++ edits_bits es in
    pack (bytes_for (length bs)) bs

-- How many bits of fields follow the kind 0, 1 or 2.
unfoldable pub field_bits : ℕ → ℕ
field_bits kind = cond (eqb kind 0) 288 (cond (eqb kind 1) 42 20)

-- The edit that a kind of 0, 1 or 2 and its fields' bits spell.
unfoldable pub edit_of : ℕ → List ℕ → Edit
unfolding value
edit_of kind f =
    cond (eqb kind 0) (Insert (take 256 f) (value (drop 256 f)))
    (cond (eqb kind 1) (Update (value (take 10 f)) (value (drop 10 f)))
    (Keep (value (take 10 f)) (value (drop 10 f))))

-- Nothing but padding is left: fewer than eight bits, all zero.
unfoldable pub padding : List ℕ → Bool
unfolding value
padding bs = ltb (length bs) 8 && eqb (value bs) 0

-- An edit before those that were read behind it, if they were.
unfoldable pub and_then : Edit → Option (List Edit) → Option (List Edit)
and_then e none = none
and_then e (some es) = some (e ∷ es)

-- The n edits that bs spell, with nothing but padding behind them; none where bs end before that, have a kind 3, or
-- go on.
unfoldable pub read_edits : ℕ → List ℕ → Option (List Edit)
unfolding padding value field_bits edit_of and_then
read_edits zero bs = cond (padding bs) (some []) none
read_edits (suc n) bs =
    let kind : ℕ = value (take 2 bs) in
    let f : List ℕ = drop 2 bs in
    let rest : Option (List Edit) = read_edits n (drop (field_bits kind) f) in
    cond (ltb (length bs) 2 || eqb kind 3 || ltb (length f) (field_bits kind)) none
    (and_then (edit_of kind (take (field_bits kind) f)) rest)

-- The edits of a record's bytes; none where it is malformed.
unfoldable pub read_record : List ℕ → Option (List Edit)
unfolding value bits_of read_edits
read_record r =
    let bs : List ℕ = bits_of r in
    let es : Option (List Edit) = read_edits (value (take 10 bs)) (drop 10 bs) in
    cond (ltb (length bs) 10) none es

-- What stands at a position past the end of entries.
unfoldable pub no_entry : Entry
no_entry = record { key = []; pointer = 0 }

-- The entries that one edit makes of a base's.
unfoldable pub made : List Entry → Edit → List Entry
unfolding no_entry
made b (Insert k p) = record { key = k; pointer = p } ∷ []
made b (Update i p) = record { key = (get_or b i no_entry).key; pointer = p } ∷ []
made b (Keep s e) = take (e - s) (drop s b)

-- The new entries: those of the edits in order.
unfoldable pub apply : List Entry → List Edit → List Entry
unfolding made
apply b [] = []
apply b (e ∷ es) = made b e ++ apply b es

-- An edit names a position that a base of n entries has not, or keeps nothing: Update position ≥ n; Keep with start ≥
-- end or end > n.
unfoldable pub outside : ℕ → Edit → Bool
outside n (Insert k p) = false
outside n (Update i p) = leb n i
outside n (Keep s e) = leb e s || ltb n e

-- Some edit does.
unfoldable pub any_outside : ℕ → List Edit → Bool
unfolding outside
any_outside n [] = false
any_outside n (e ∷ es) = outside n e || any_outside n es

-- The keys of entries rise strictly, and the first is above k.
unfoldable pub ascending_from : List ℕ → List Entry → Bool
unfolding below
ascending_from k [] = true
ascending_from k (e ∷ es) = below k e.key && ascending_from e.key es

-- The keys of entries are strictly ascending; those of no entry are.
unfoldable pub ascending : List Entry → Bool
unfolding ascending_from
ascending [] = true
ascending (e ∷ es) = ascending_from e.key es
