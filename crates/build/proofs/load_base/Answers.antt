-- `build::load_base` meets its contract: because a base of no bytes has no entries, and else the rows read are the page's.
-- Assumes nothing.
use Rattle.std.proofs.Common.{rules}
use Rattle.build.proofs.load_base.Goals as goal
use mathlib.Core.Path.{sym, ◌∙◌}
use native.Mathlib.Omega.{arith}
use borrow.Author.Tests.{eqb-true}
use lib.ListN.{length}
use Rattle.facts.proofs.BitsLaws.{at_below}
use Rattle.build.proofs.LoadLaws.{no_base, base_known}

pub returns-then-is_empty : goal.returns-then-is_empty
returns-then-is_empty c =
    record {
      known = no_base _ _ (eqb-true (length c.args.base.now) 0 (sym c.is_empty.ensures ∙ c.if-is_empty.true)) (search rules);
    }

pub returns : goal.returns
returns c =
    record {
      known =
          base_known c.args.base.now c.args.t.now _ c.load_page.result (search rules)
          (at_below 256 _ (λ k. omega (arith, c.shared_slice_known-1.given k))) (search rules) (search rules) (search rules);
    }
