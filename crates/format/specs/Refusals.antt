-- The refusals of the code and document 01's number for each. Document 01, "Refusal numbers".
-- In order: refusal_number outcome_number answer_of.
-- Assumes nothing.
use Rattle.std.specs.Prelude.{ℕ, ⊤, Result, Ok, Err}
use Rattle.format.specs.Answer.{Answer}
use Rattle.format.specs.declared.refusal.Refusal.{Refusal}
use Rattle.format.specs.declared.refusal.Refusal.TheVariants.{PageLength, NoEntries, CompressedCount, PrefixLength, BodyTooLong, OffsetsFall, EntryBits, KeysNotAscending, OutputLength, MalformedRecord, EditOutside, NoEdits, NewKeysNotAscending, NoRoom, UndoTooShort, IndexPastEnd, NotBelow, RangeOutside, Unrepresentable}

-- The number of a refusal.
abbrev pub refusal_number : Refusal → ℕ
refusal_number PageLength = 1
refusal_number NoEntries = 2
refusal_number CompressedCount = 3
refusal_number PrefixLength = 4
refusal_number BodyTooLong = 5
refusal_number OffsetsFall = 6
refusal_number EntryBits = 7
refusal_number KeysNotAscending = 8
refusal_number OutputLength = 9
refusal_number MalformedRecord = 10
refusal_number EditOutside = 11
refusal_number NoEdits = 12
refusal_number NewKeysNotAscending = 13
refusal_number NoRoom = 14
refusal_number UndoTooShort = 15
refusal_number IndexPastEnd = 16
refusal_number NotBelow = 17
refusal_number RangeOutside = 18
refusal_number Unrepresentable = 19

-- The number of an outcome: 0 for what is done.
abbrev pub outcome_number : Result ⊤ Refusal → ℕ
outcome_number (Ok done) = 0
outcome_number (Err r) = refusal_number r

-- What a call answers: the value that f gives of its result, or the number of the refusal.
abbrev pub answer_of : {R A : Type 0} → (R → A) → Result R Refusal → Answer A
answer_of f (Ok x) = Answer.Value (f x)
answer_of f (Err r) = Answer.Refused (refusal_number r)
