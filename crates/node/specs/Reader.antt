-- What the checking reader answers and writes. Document 01, "The page", and the refusals 1 to 8 and 16.
-- In order: entry_answer pointer_read key_bytes · loaded.
-- Assumes nothing.
use Rattle.std.specs.Prelude.{ℕ, ◌||◌, cond, List, Result, eqb}
use Rattle.format.specs.Answer.{Answer}
use Rattle.format.specs.Bits.{pack}
use Rattle.format.specs.Page.{Entry, entries, page_refusal}
use Rattle.format.specs.Refusals.{answer_of}
use Rattle.format.specs.declared.refusal.Refusal.{Refusal}
use Rattle.rows.specs.Rows.{with_rows}
use Rattle.rows.specs.declared.table.Row.{Row}

-- What reading an entry answers: the pointer, or the number of the refusal.
abbrev pub entry_answer : Result ℕ Refusal → Answer ℕ
entry_answer r = answer_of (λ (x : ℕ). x) r

-- The pointer of an entry that was read.
unfoldable pub pointer_read : Answer Entry → Answer ℕ
pointer_read (Answer.Refused r) = Answer.Refused r
pointer_read (Answer.Value e) = Answer.Value e.pointer

-- Its key in 32 bytes.
unfoldable pub key_bytes : Entry → List ℕ
unfolding pack
key_bytes e = pack 32 e.key

-- A table after a page was loaded: where none of 1 to 7 holds, the page's entries in its first rows, each with its
-- position, as far as it has rows; where one of them holds, what it held before.
unfoldable pub loaded : List ℕ → List Row → List Row
unfolding page_refusal with_rows entries
loaded p t = cond (eqb (page_refusal p) 0 || eqb (page_refusal p) 8) (with_rows t 0 (entries p)) t
