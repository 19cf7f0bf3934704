-- `node::reader::Page::prefix` meets its contract: the prefix begins behind the end offsets.
-- Assumes nothing.
use mathlib.Core.List.{List, ◌++◌}
use mathlib.Core.Path.{◌≡◌, ap, ap₂, ◌∙◌}
use Prim.Native.Nat.{ℕ, ◌+◌, ◌*◌}
use lib.ListN.{take, drop}
use Rattle.format.specs.Bits.{bits_of, fill}
use Rattle.format.specs.Page.{body, count, prefix_length}
use Rattle.words.proofs.WindowLaws.{drop-bits_of}
use Rattle.keys.specs.declared.Key.{Key}
use Rattle.keys.specs.Keys.{key_bits}
use Rattle.shape.specs.declared.Header.{Header}
use Rattle.shape.specs.Shape.{SizesFit}
use Rattle.std.proofs.Common.{rules}
use Rattle.node.proofs.reader.Page.prefix.Goals as goal

read : (p : List ℕ) (h : Header) (k z : Key) → SizesFit p h
    → key_bits k ≡ fill 256 (take 0 (key_bits z) ++ take h.q (drop (8 * (10 + 2 * h.n)) (bits_of p)))
    → key_bits k ≡ fill 256 (take (prefix_length p) (body p))
unfolding body
read p h k z f e =
    e
    ∙ ap₂ (λ (q n : ℕ). fill 256 (take q (drop (8 * (10 + 2 * n)) (bits_of p)))) f.q_is f.n_is
    ∙ ap (λ (l : List ℕ). fill 256 (take (prefix_length p) l)) (drop-bits_of (10 + 2 * count p) p)

ruleset laws = (read)

pub returns : goal.returns
returns c = search (rules, laws)
