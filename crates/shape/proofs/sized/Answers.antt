-- `shape::sized` meets its contract: each test in its turn (`refuse_1` to `refuse_5_body`), and the header
-- where none holds (`sizes_fit`).
-- Assumes nothing.
use Rattle.shape.proofs.TestsLaws.{
  refuse_1,
  refuse_2,
  refuse_3_none,
  refuse_3_more,
  refuse_4,
  refuse_5_body,
  sizes_fit,
}
use Rattle.std.proofs.Common.{rules}
use Rattle.shape.proofs.sized.Goals as goal

ruleset laws = (refuse_1, refuse_2, refuse_3_none, refuse_3_more, refuse_4, refuse_5_body, sizes_fit)

pub returns-then-page-ne-PAGE_SIZE : goal.returns-then-page-ne-PAGE_SIZE
returns-then-page-ne-PAGE_SIZE c = search (rules, laws)

pub returns-then-n-eq0 : goal.returns-then-n-eq0
returns-then-n-eq0 c = search (rules, laws)

pub returns-then-m-eq0 : goal.returns-then-m-eq0
returns-then-m-eq0 c = search (rules, laws)

pub returns-then-n-m : goal.returns-then-n-m
returns-then-n-m c = search (rules, laws)

pub returns-then-q-gt256 : goal.returns-then-q-gt256
returns-then-q-gt256 c = search (rules, laws)

pub returns-then-not-body_fits : goal.returns-then-not-body_fits
returns-then-not-body_fits c = search (rules, laws)

pub returns : goal.returns
returns c = search (rules, laws)
