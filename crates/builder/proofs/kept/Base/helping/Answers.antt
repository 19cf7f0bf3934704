-- `builder::kept::Base::helping` meets its contract: because its tests are those of `usable`.
-- Assumes nothing.
use Rattle.std.proofs.Common.{rules}
use Rattle.builder.proofs.kept.Base.helping.Goals as goal
use Rattle.builder.proofs.WriteLaws.{other_prefix, long_base, many_entries, many_compressed, helps}

ruleset laws = (other_prefix, long_base, many_entries, many_compressed, helps)

pub returns-then-bq-q : goal.returns-then-bq-q
returns-then-bq-q c = search (rules, laws)

pub returns : goal.returns
returns c = search (rules, laws)
