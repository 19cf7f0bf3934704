-- `builder::page::write_page_over` meets its contract: because `Base::helping` tells what `usable` does, and
-- `write_rows` or `write_page` does the rest.
-- Assumes nothing.
use Rattle.builder.proofs.page.write_page_over.Goals as goal
use Rattle.builder.proofs.WriteLaws.{wrote_over, wrote_alone}

pub returns-in-Some : goal.returns-in-Some
returns-in-Some c =
    let base = c.in-Some.ensures.answer in
    wrote_over _ _ _ _ _ _ _ _ _ _ _ _ base.0 (rw (← base.1, ← base.2, ← base.3) c.write_rows.ensures)

pub returns-in-None : goal.returns-in-None
returns-in-None c = wrote_alone _ _ _ _ _ _ _ _ _ _ _ _ c.in-None.ensures.answer c.write_page.ensures
