-- `rows::table::key_of` meets its contract: because a row that is there is the row read.
-- Assumes nothing.
use Rattle.std.proofs.Common.{ap}
use Rattle.keys.specs.Keys.{key_bits}
use Rattle.rows.specs.declared.table.Row.{Row}
use Rattle.rows.specs.Rows.{row_key, zero_row}
use Rattle.rows.proofs.table.key_of.Goals as goal

pub returns-in-Some : goal.returns-in-Some
unfolding row_key
returns-in-Some c = record { answer = ap (λ (r : Row). key_bits r.key) (c.in-Some.ensures.lookup.3.1 zero_row) }
