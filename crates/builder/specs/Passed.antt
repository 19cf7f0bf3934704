-- What Writes and Over define, of a base and rows as the code passes them.
-- In order: keeps bits_over RunOf · row_len run_len run_start · PushedOver.
-- Assumes nothing.
use Rattle.std.specs.Prelude.{ℕ, ◌+◌, ◌-◌, ◌*◌, Bool, List}
use Rattle.format.specs.Key.{separator_length}
use Rattle.format.specs.Page.{start_of}
use Rattle.rows.specs.Rows.{row_key}
use Rattle.parts.specs.Parts.{left_out}
use Rattle.builder.specs.declared.fitting.Rows.{Rows}
use Rattle.builder.specs.declared.kept.Base.{Base}
use Rattle.builder.specs.declared.page.BranchNodeBuilder.{BranchNodeBuilder}
use Rattle.builder.specs.Writes.{Pushed}
use Rattle.builder.specs.Over.{kept, over_bits, Run}

-- Whether row i has its bits from the base.
abbrev pub keeps : Base → Rows → ℕ → Bool
keeps b r i = kept b.page.now b.n b.m r.table.now r.m r.q i

-- The bits of row i: the base's where it is kept, else its own.
abbrev pub bits_over : Base → Rows → ℕ → List ℕ
bits_over b r i = over_bits b.page.now b.n b.m r.table.now r.m r.q i

-- The rows from i up to e stand side by side in the base, from j on.
abbrev pub RunOf : Base → Rows → ℕ → ℕ → ℕ → Type 0
RunOf b r i j e = Run b.page.now b.n b.m r.table.now r.n r.m r.q i j e

-- How many bits are stored of row i's own key.
abbrev pub row_len : Rows → ℕ → ℕ
row_len r i = separator_length (row_key r.table.now i) - left_out r.m r.q i

-- How many bits the base has of its entries from j up to j + k.
abbrev pub run_len : Base → ℕ → ℕ → ℕ
run_len b j k = start_of b.page.now (j + k) - start_of b.page.now j

-- The base's bit that they start at.
abbrev pub run_start : Base → Rows → ℕ → ℕ
run_start b r j = 8 * (10 + 2 * b.n) + (r.q + start_of b.page.now j)

-- A part of size bytes has the prefix and the bits of the rows that the builder counts.
abbrev pub PushedOver : Base → Rows → ℕ → List ℕ → BranchNodeBuilder → Type 0
PushedOver b r size part at = Pushed (bits_over b r) r.table.now r.n r.m r.q size part at.bit_offset at.n
