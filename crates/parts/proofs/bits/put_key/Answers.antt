-- `parts::bits::put_key` meets its contract: because the bits are those of the first word, or all, or are copied from the key's bytes.
-- Assumes nothing.
use Rattle.std.proofs.Common.{rules}
use Rattle.parts.proofs.bits.put_key.Goals as goal
use Rattle.parts.proofs.BitLaws.{key-first, key-whole}

ruleset laws = (key-first, key-whole)

pub returns-then-len-from : goal.returns-then-len-from
returns-then-len-from c = search (rules, laws)

pub returns-then-at-saturating_sub : goal.returns-then-at-saturating_sub
returns-then-at-saturating_sub c = search (rules, laws)

pub returns : goal.returns
returns c = search (rules, laws)
