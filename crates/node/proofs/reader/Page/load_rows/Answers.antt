-- `node::reader::Page::load_rows` meets its contract. The loop's invariant: the table has the first i entries in its rows,
-- `found` tells whether one of their keys is not above the one before, `before` is the last of them, and the next
-- separator starts at `start`.
-- Assumes nothing.
use mathlib.Core.Bool.{Bool, false, cond, not, ◌||◌}
use mathlib.Core.List.{List}
use mathlib.Core.Path.{◌≡◌, ap, ap₂, ◌∙◌}
use Prim.Native.Nat.{ℕ, ◌+◌, ◌≤◌}
use native.Mathlib.Omega.{arith}
use lib.Dec.{eqb}
use Rattle.format.specs.Key.{below}
use Rattle.format.specs.Page.{each, entries, entry_of, key_of, pointer_of}
use Rattle.keys.specs.declared.Key.{Key}
use Rattle.keys.specs.Keys.{key_bits}
use Rattle.rows.specs.Rows.{with_row, with_rows}
use Rattle.rows.specs.declared.table.Row.{Row}
use Rattle.shape.specs.declared.Header.{Header}
use Rattle.shape.specs.Shape.{SizesFit, unordered}
use Rattle.shape.proofs.TestsLaws.{start_first, start_next}
use Rattle.node.proofs.RisingLaws.{Rising, rising_none, rising_more}
use Rattle.node.proofs.LoadedLaws.{Filled, filled_none, filled_more, filled_length, filled_all}
use Rattle.std.proofs.Common.{rules}
use Rattle.node.proofs.reader.Page.load_rows.Goals as goal

begin : (p : List ℕ) (t : List Row) → Filled (entry_of p) t 0 t
begin p t = filled_none (entry_of p) t

begin_rising : (p : List ℕ) (k : Key) → Rising (key_of p) 0 k false
begin_rising p k = rising_none (key_of p) k

-- one entry more in its row
more : (p : List ℕ) (t₀ t u : List Row) (i : ℕ) (k : Key) (x : ℕ) → Filled (entry_of p) t₀ i t → key_bits k ≡ key_of p i
    → x ≡ pointer_of p i
    → u ≡ with_row t i (record { key = key_bits k; pointer = x }) i → Filled (entry_of p) t₀ (i + 1) u
unfolding entry_of
more p t₀ t u i k x f ek ex eu =
    filled_more (entry_of p) t₀ t u i (record { key = key_bits k; pointer = x }) f
    (ap₂ (λ (y : List ℕ) (z : ℕ). record { key = y; pointer = z }) ek ex) eu

-- one key more
higher : (p : List ℕ) (i : ℕ) (k l : Key) (b r : Bool) → Rising (key_of p) i k b → key_bits l ≡ key_of p i
    → r ≡ cond (eqb i 0) b (not (below (key_bits k) (key_bits l)) || b) → Rising (key_of p) (i + 1) l r
higher p i k l b r so e er = rising_more (key_of p) i k l b r so e er

all : (p : List ℕ) (t₀ t : List Row) (h : Header) (i : ℕ) → SizesFit p h → Filled (entry_of p) t₀ i t → i ≤ h.n → h.n ≤ i
    → t ≡ with_rows t₀ 0 (entries p)
unfolding entries
all p t₀ t h i s f l l' =
    filled_all (entry_of p) t₀ t h.n i f l l' ∙ ap (λ (n : ℕ). with_rows t₀ 0 (each n (entry_of p))) s.n_is

all_rising : (p : List ℕ) (n i : ℕ) (k : Key) (b : Bool) → Rising (key_of p) i k b → i ≤ n → n ≤ i
    → b ≡ unordered (key_of p) n
all_rising p n i k b so l l' =
    let e : i ≡ n = omega arith in
    so.found ∙ ap (unordered (key_of p)) e

ruleset laws = (start_first, start_next, begin, begin_rising, more, higher, filled_length, all, all_rising)

pub loop-i-init : goal.loop-i-init
loop-i-init c = search (rules, laws)

pub loop-i-preserved : goal.loop-i-preserved
loop-i-preserved c = search (rules, laws)

pub returns : goal.returns
returns c = search (rules, laws)
