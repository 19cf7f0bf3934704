-- `parts::bits::put_first` meets its contract: because no bits are none, bits that are not there are not written, and others are.
-- Assumes nothing.
use Rattle.std.proofs.Common.{rules}
use Rattle.parts.proofs.bits.put_first.Goals as goal
use Rattle.parts.proofs.BitLaws.{first-none, first_past, first_room, first-put}

ruleset laws = (first-none, first_past, first_room, first-put)

pub returns-then-n-eq0 : goal.returns-then-n-eq0
returns-then-n-eq0 c = search (rules, laws)

pub returns-then-d-bytes_for : goal.returns-then-d-bytes_for
returns-then-d-bytes_for c = search (rules, laws)

pub returns : goal.returns
returns c = search (rules, laws)

pub put_word-requires : goal.put_word-requires
put_word-requires c = search (rules, laws)
