-- `builder::page::write_rows` meets its contract: because its tests are those of `writable`, and past them
-- `put_page` writes.
-- Assumes nothing.
use Rattle.std.proofs.Common.{rules}
use Rattle.builder.proofs.page.write_rows.Goals as goal
use Rattle.builder.proofs.WriteLaws.{no_page, no_rows, done}

pub returns-then-out-ne-PAGE_SIZE : goal.returns-then-out-ne-PAGE_SIZE
returns-then-out-ne-PAGE_SIZE c = search (rules, no_page)

pub returns-in_default : goal.returns-in_default
returns-in_default c = no_rows _ _ _ _ _ _ c.in_default.ensures.answer

pub returns : goal.returns
returns c =
    let rows = c.in-Some.ensures.answer in
    let chosen = c.in-Some.chosen in
    rw (← rows.1, ← rows.2, ← rows.3, ← rows.4)
    (done _ _ _ _ _ _ _ (search rules) chosen.some chosen.short chosen.fits c.put_page.ensures.written)
