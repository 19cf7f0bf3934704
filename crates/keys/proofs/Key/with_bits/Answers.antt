-- `keys::Key::with_bits` meets its contract: word by word (`key_bits_behind`).
-- Assumes nothing.
use Rattle.keys.proofs.BehindLaws.{key_bits_behind}
use Rattle.std.proofs.Common.{rules}
use Rattle.keys.proofs.Key.with_bits.Goals as goal

pub returns : goal.returns
returns c = search (rules, key_bits_behind)
