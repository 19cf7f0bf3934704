-- `parts::bits::put_whole` meets its contract: because each word that is stored has the last bits of one word of the key and the first of the next.
-- Assumes nothing.
use Rattle.std.proofs.Common.{rules}
use Rattle.parts.proofs.bits.put_whole.Goals as goal
use Rattle.parts.proofs.BitLaws.{whole-key}

pub returns : goal.returns
returns c = record {
  written =
      let pre = c.requires in
      whole-key _ _ _ _ _ _ _ _ _ _ _ _ _ pre.0 pre.1 c.put_in_word.ensures.written c.across.ensures.answer
      c.store.ensures.written c.across-2.ensures.answer c.store-2.ensures.written c.across-3.ensures.answer c.store-3.ensures.written
      c.across-4.ensures.answer c.put_in_word-2.ensures.written (search rules);
}
