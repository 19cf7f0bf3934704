-- Laws of the definitions of `format`, each stated once. Read in this order.
pub mod AnswerLaws
pub mod RefusalLaws
pub mod BitsLaws
pub mod KeyLaws
pub mod RangesLaws
pub mod EntryLaws
pub mod StoredLaws
pub mod ChoiceLaws
pub mod SizesLaws
pub mod PageLaws
pub mod AcceptedLaws
pub mod NormalLaws
pub mod RecordLaws
pub mod EditLaws
pub mod UndoLaws
pub mod WalkLaws
pub mod BuildLaws
