-- `apply::State::lay_edit` meets its contract: the items of an Insert and of an Update are one, and those of a Keep are a
-- run.
-- Assumes nothing.
use Rattle.apply.proofs.PassLaws.{edit_insert, edit_update, edit_keep, keep-reach}
use Rattle.std.proofs.Common.{rules}
use Rattle.apply.proofs.State.lay_edit.Goals as goal

ruleset laws = (edit_insert, edit_update, edit_keep, keep-reach)

pub returns-in-Insert-clause-answer : goal.returns-in-Insert-clause-answer
returns-in-Insert-clause-answer c = search (rules, laws)

pub returns-in-Update-clause-answer : goal.returns-in-Update-clause-answer
returns-in-Update-clause-answer c = search (rules, laws)

pub returns-in-KeepChunk-clause-answer : goal.returns-in-KeepChunk-clause-answer
returns-in-KeepChunk-clause-answer c = search (rules, laws)
