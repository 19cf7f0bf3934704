-- `node::reader::Page::node_pointer` meets its contract: the four bytes of pointer i, of which a page that fits has n.
-- Assumes nothing.
use mathlib.Core.List.{List}
use mathlib.Core.Path.{◌≡◌, ap, ◌∙◌}
use Prim.Native.Nat.{ℕ, ◌+◌, ◌-◌, ◌*◌}
use lib.ListN.{take, drop}
use Rattle.format.specs.Bits.{unle}
use Rattle.format.specs.Page.{pointer_of}
use Rattle.shape.specs.declared.Header.{Header}
use Rattle.shape.specs.Shape.{SizesFit}
use Rattle.std.proofs.Common.{rules}
use Rattle.node.proofs.reader.Page.node_pointer.Goals as goal

read : (p : List ℕ) (h : Header) (i r : ℕ) → SizesFit p h → r ≡ unle (take 4 (drop ((4096 - 4 * h.n) + 4 * i) p))
    → r ≡ pointer_of p i
unfolding pointer_of
read p h i r f e = e ∙ ap (λ (n : ℕ). unle (take 4 (drop ((4096 - 4 * n) + 4 * i) p))) f.n_is

ruleset laws = (read)

pub returns : goal.returns
returns c = search (rules, laws)
