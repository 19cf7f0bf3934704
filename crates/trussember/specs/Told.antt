-- What a C program is told: a refusal's number and zeros, or 0 and the values. Document 01, "Refusal numbers".
-- In order: checked_told · entry_told · built_told · size_told.
-- Assumes nothing.
use Rattle.std.specs.Prelude.{ℕ}
use Rattle.format.specs.Answer.{Answer}
use Rattle.format.specs.Build.{Numbers}
use Rattle.format.specs.Page.{Header}
use Rattle.trussember.specs.declared.answers.Built.{Built}
use Rattle.trussember.specs.declared.answers.Checked.{Checked}
use Rattle.trussember.specs.declared.answers.EntryRead.{EntryRead}
use Rattle.trussember.specs.declared.answers.Size.{Size}

-- Of a check: the header.
unfoldable pub checked_told : Answer Header → Checked
checked_told (Answer.Refused r) = record { refusal = r; number = 0; n = 0; m = 0; q = 0; bits = 0 }
checked_told (Answer.Value h) =
    record { refusal = 0; number = h.number; n = h.n; m = h.m; q = h.q; bits = h.bits }

-- Of the reading of an entry: its pointer.
unfoldable pub entry_told : Answer ℕ → EntryRead
entry_told (Answer.Refused r) = record { refusal = r; pointer = 0 }
entry_told (Answer.Value x) = record { refusal = 0; pointer = x }

-- Of a build: n, m, q and bits of the new page, and the undo record's length.
unfoldable pub built_told : Answer Numbers → Built
built_told (Answer.Refused r) = record { refusal = r; n = 0; m = 0; q = 0; bits = 0; undo = 0 }
built_told (Answer.Value x) = record { refusal = 0; n = x.n; m = x.m; q = x.q; bits = x.bits; undo = x.undo }

-- Of a size formula: its value.
unfoldable pub size_told : Answer ℕ → Size
size_told (Answer.Refused r) = record { refusal = r; value = 0 }
size_told (Answer.Value x) = record { refusal = 0; value = x }
