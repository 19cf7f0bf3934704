-- `parts::fields::put_pointers` meets its contract: because it goes by the tests of `with_pointers`, and each turn
-- stores the pointer of one row more.
-- Assumes nothing.
use Rattle.std.proofs.Common.{rules}
use Rattle.parts.proofs.fields.put_pointers.Goals as goal
use Rattle.parts.proofs.PartLaws.{pointers_start_lem, pointers_more, pointers_room, pointers-end}
use Rattle.parts.proofs.PartLaws.{pointers_many, pointers_other}

ruleset laws = (pointers_start_lem, pointers_more, pointers_room, pointers-end, pointers_many, pointers_other)

pub returns-then-n-gt-MOST_ENTRIES : goal.returns-then-n-gt-MOST_ENTRIES
returns-then-n-gt-MOST_ENTRIES c = search (rules, laws)

pub returns-then-part-n : goal.returns-then-part-n
returns-then-part-n c = search (rules, laws)

pub loop-i-preserved : goal.loop-i-preserved
loop-i-preserved c = (
  search rules,
  search rules,
  search rules,
  search rules,
  pointers_more _ _ _ _ _ _ c.loop-i.invariant.4 c.loop-i-test.true
      c.pointer_of.ensures.answer c.put.ensures.written,
)

pub returns : goal.returns
returns c = search (rules, laws)

pub loop-i-init : goal.loop-i-init
loop-i-init c = search (rules, laws)
