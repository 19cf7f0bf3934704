-- `parts::fields::put_offsets` meets its contract: because it goes by the tests of `with_offsets`, and each turn
-- stores the sum of the stored lengths up to its row.
-- Assumes nothing.
use Rattle.std.proofs.Common.{rules}
use Rattle.parts.proofs.fields.put_offsets.Goals as goal
use Rattle.parts.proofs.PartLaws.{summed_start, summed_more, offsets_start, offsets_more}
use Rattle.parts.proofs.PartLaws.{offsets_room, offsets_end, offsets_many, offsets_other}

ruleset laws =
    (summed_start, summed_more, offsets_start, offsets_more, offsets_room, offsets_end, offsets_many, offsets_other)

pub returns-then-n-gt-MOST_ENTRIES : goal.returns-then-n-gt-MOST_ENTRIES
returns-then-n-gt-MOST_ENTRIES c = search (rules, laws)

pub returns-then-part-n : goal.returns-then-part-n
returns-then-part-n c = search (rules, laws)

pub loop-i-preserved : goal.loop-i-preserved
loop-i-preserved c = (
  search rules,
  search rules,
  search (rules, laws),
  offsets_more _ _ _ _ _ _ _ _ _ c.loop-i.invariant.2 c.loop-i.invariant.3 c.loop-i-test.true
      c.stored_len-end.ensures.answer.0 c.put.ensures.written,
)

pub returns : goal.returns
returns c = search (rules, laws)

pub loop-i-init : goal.loop-i-init
loop-i-init c = search (rules, laws)
