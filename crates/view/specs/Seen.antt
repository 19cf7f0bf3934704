-- What reading an entry through a view answers. Document 01, "The page", and the refusals 1 to 8 and 16.
-- In order: entry_meant seen_answer.
-- Assumes nothing.
use Rattle.std.specs.Prelude.{ℕ, Result}
use Rattle.format.specs.Answer.{Answer}
use Rattle.format.specs.Page.{Entry}
use Rattle.format.specs.Refusals.{answer_of}
use Rattle.format.specs.declared.refusal.Refusal.{Refusal}
use Rattle.keys.specs.declared.Key.{Key}
use Rattle.keys.specs.Keys.{key_bits}

-- The entry that a key and a pointer stand for.
abbrev pub entry_meant : Key × ℕ → Entry
entry_meant e = record { key = key_bits e.0; pointer = e.1 }

-- The entry, or the number of the refusal.
abbrev pub seen_answer : Result (Key × ℕ) Refusal → Answer Entry
seen_answer r = answer_of entry_meant r
