-- `apply::edit_rows` meets its contract: a record that is refused makes nothing, and else a pass over all items
-- answers the last refusal or the count, and leaves the table (`Passed`).
-- Assumes nothing.
use Rattle.apply.proofs.ApplyLaws.{answer_early, table_early, formed_done, answer_13, answer_count, table_laid}
use Rattle.std.proofs.Common.{rules}
use Rattle.apply.proofs.edit_rows.Goals as goal

ruleset laws = (answer_early, table_early, formed_done, answer_13, answer_count, table_laid)

pub returns-in_err-check-clause-answer : goal.returns-in_err-check-clause-answer
returns-in_err-check-clause-answer c = search (rules, laws)

pub returns-in_err-check-clause-written : goal.returns-in_err-check-clause-written
returns-in_err-check-clause-written c = table_early _ _ _ _ _ c.check.ensures.answer _ c.in_err-check.was

pub lay_all-requires : goal.lay_all-requires
lay_all-requires c = formed_done _ c.args.base.now _ c.args.t.now _ c.check.ensures.answer _ c.in_ok-check.was

pub returns-in_default-clause-answer : goal.returns-in_default-clause-answer
returns-in_default-clause-answer c =
    answer_13 _ _ _ _ _ c.check.ensures.answer _ c.in_ok-check.was _ _ c.lay_all.ensures.answer c.in_default.is

pub returns-in_default-clause-written : goal.returns-in_default-clause-written
returns-in_default-clause-written c =
    table_laid _ _ _ _ _ c.check.ensures.answer _ c.in_ok-check.was _ _ c.lay_all.ensures.answer

pub returns-clause-answer : goal.returns-clause-answer
returns-clause-answer c =
    answer_count _ _ _ _ _ c.check.ensures.answer _ c.in_ok-check.was _ _ c.lay_all.ensures.answer _ c.in-Some.is

pub returns-clause-written : goal.returns-clause-written
returns-clause-written c =
    table_laid _ _ _ _ _ c.check.ensures.answer _ c.in_ok-check.was _ _ c.lay_all.ensures.answer
