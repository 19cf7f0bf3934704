-- `builder::fitting::Rows::fitting` meets its contract: because its tests are those of `fitting`.
-- Assumes nothing.
use Rattle.std.proofs.Common.{rules}
use Rattle.builder.proofs.fitting.Rows.fitting.Goals as goal
use Rattle.builder.proofs.WriteLaws.{no_row, no_prefix, long, few, room, fitted}

ruleset laws = (no_row, no_prefix, long, few, room, fitted)

pub returns-then-n-lt1 : goal.returns-then-n-lt1
returns-then-n-lt1 c = search (rules, laws)

pub returns-then-not-body_fits : goal.returns-then-not-body_fits
returns-then-not-body_fits c = search (rules, laws)

pub invariant_of-result : goal.invariant_of-result
invariant_of-result c = search (rules, laws)

pub returns : goal.returns
returns c = search (rules, laws)
