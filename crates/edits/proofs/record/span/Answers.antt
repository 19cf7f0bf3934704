-- `edits::record::span` meets its contract: its tests are those of `span_at`, in its order.
-- Assumes nothing.
use Rattle.edits.proofs.ReadingLaws.{kinds, short_is, three_is, lacks_is, whole_is}
use Rattle.std.proofs.Common.{rules}
use Rattle.edits.proofs.record.span.Goals as goal

ruleset laws = (kinds, short_is, three_is, lacks_is, whole_is)

pub returns-then-left-lt2-clause-answer : goal.returns-then-left-lt2-clause-answer
returns-then-left-lt2-clause-answer c = search (rules, laws)

pub returns-then-eq-clause-answer : goal.returns-then-eq-clause-answer
returns-then-eq-clause-answer c = search (rules, laws)

pub returns-then-left-size-clause-answer : goal.returns-then-left-size-clause-answer
returns-then-left-size-clause-answer c = search (rules, laws)

pub returns-clause-answer : goal.returns-clause-answer
returns-clause-answer c = search (rules, laws)
