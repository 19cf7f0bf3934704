-- `node::reader::Page::get_key` meets its contract: the bits of the prefix and of the separator (`key_of-read`).
-- Assumes nothing.
use Rattle.node.proofs.KeyLaws.{key_of-read}
use Rattle.std.proofs.Common.{rules}
use Rattle.node.proofs.reader.Page.get_key.Goals as goal

pub returns : goal.returns
returns c = search (rules, key_of-read)
