-- `edits::record::check` meets its contract: the tests come in the order of the refusals.
-- Assumes nothing.
use Rattle.edits.proofs.CheckLaws.{formed_yes, first_10, first_11, first_12, first_0}
use Rattle.std.proofs.Common.{rules}
use Rattle.edits.proofs.record.check.Goals as goal

ruleset laws = (formed_yes, first_10, first_11, first_12, first_0)

pub returns-then-not-formed : goal.returns-then-not-formed
returns-then-not-formed c = search (rules, laws)

pub returns-then-not-all_inside : goal.returns-then-not-all_inside
returns-then-not-all_inside c = search (rules, laws)

pub returns-then-count-eq0 : goal.returns-then-count-eq0
returns-then-count-eq0 c = search (rules, laws)

pub returns : goal.returns
returns c = search (rules, laws)
