-- `builder::page::write_page` meets its contract: because without a base each row has its own bits.
-- Assumes nothing.
use mathlib.Core.Bool.{Bool}
use mathlib.Core.List.{List}
use mathlib.Core.Path.{◌≡◌}
use Prim.Native.Nat.{ℕ}
use Rattle.format.specs.Normal.{page_under}
use Rattle.rows.specs.declared.table.Row.{Row}
use Rattle.rows.specs.Rows.{rows}
use Rattle.builder.specs.Writes.{laid_out, Wrote}
use Rattle.builder.specs.Over.{over_bits}
use Rattle.builder.proofs.page.write_page.Goals as goal
use Rattle.builder.proofs.WriteLaws.{wrote_none}

alone : (out base : List ℕ) (t : List Row) (number bn bm n m q : ℕ) (r : Bool) (after : List ℕ) → bm ≡ 0
    → Wrote out t n m q (laid_out number t n m q (over_bits base bn bm t m q)) r after
    → Wrote out t n m q (page_under number (rows n t) m q) r after
alone out base t number bn bm n m q r after e w = wrote_none out base t number bn n m q r after (rw e at w)

pub returns : goal.returns
returns c =
    let none = c.none.result in
    alone _ none.page.now _ _ none.n none.m _ _ _ _ _ c.none.ensures.answer c.write_rows.ensures
