-- `builder::page::put_bits` meets its contract: because the prefix, the bits of each row and zeros go one behind the
-- other.
-- Assumes nothing.
use Rattle.std.proofs.Common.{rules}
use Rattle.builder.proofs.page.put_bits.Goals as goal
use Rattle.builder.proofs.PushLaws.{pushed_start, pushed_sum, pushed_end}

pub loop-b-init : goal.loop-b-init
loop-b-init c = (
  search rules,
  pushed_start _ _ _ _ _ _ _ _ _ _ (search rules) (search rules) (search rules) (search rules) (search rules)
      c.key_of.ensures.answer c.put_key.ensures.written (search rules) (search rules) (search rules),
)

pub overflow_add-rows : goal.overflow_add-rows
overflow_add-rows c = search (rules, pushed_sum)

pub returns : goal.returns
returns c = record {
  written =
      let l = c.loop-b.invariant.1 in
      pushed_end _ _ _ _ _ _ _ _ _ l _ (search rules) c.clear_from.ensures.written _ (search rules);
}
