-- `parts::bits::put_by_bytes` meets its contract: because the 32 bytes that it copies from hold the key's bits.
-- Assumes nothing.
use Rattle.std.proofs.Common.{rules}
use Rattle.parts.proofs.bits.put_by_bytes.Goals as goal
use Rattle.parts.proofs.BitLaws.{length-key, copied_key}

ruleset laws = (length-key, copied_key)

pub returns : goal.returns
returns c = search (rules, laws)
