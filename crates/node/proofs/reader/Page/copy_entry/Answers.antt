-- `node::reader::Page::copy_entry` meets its contract: the key's bytes, then the pointer.
-- Assumes nothing.
use mathlib.Core.List.{List}
use mathlib.Core.Path.{◌≡◌, ap, ◌∙◌}
use Prim.Native.Nat.{ℕ}
use Rattle.format.specs.Bits.{pack}
use Rattle.format.specs.Page.{key_of}
use Rattle.keys.specs.declared.Key.{Key}
use Rattle.keys.specs.Keys.{key_bits}
use Rattle.node.proofs.KeyLaws.{key_of-read}
use Rattle.std.proofs.Common.{rules}
use Rattle.node.proofs.reader.Page.copy_entry.Goals as goal

key : (p k : List ℕ) (i : ℕ) (r : Key) → key_bits r ≡ key_of p i → k ≡ pack 32 (key_bits r) → k ≡ pack 32 (key_of p i)
key p k i r er ek = ek ∙ ap (pack 32) er

pub returns : goal.returns
returns c = search (rules, key, key_of-read)
