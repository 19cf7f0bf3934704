-- `builder::page::BranchNodeBuilder::push` meets its contract: because it copies what is stored of the key behind
-- the entries before.
-- Assumes nothing.
use Rattle.std.proofs.Common.{rules}
use Rattle.builder.proofs.page.BranchNodeBuilder.push.Goals as goal
use mathlib.Core.List.{List}
use mathlib.Core.Path.{◌≡◌, ap, ap₂, ◌∙◌}
use Prim.Native.Nat.{ℕ, ◌+◌, ◌-◌, ◌*◌, ◌≤◌}
use native.Mathlib.Omega.{arith}
use lib.ListN.{drop, length}
use lib.Seq.{paste}
use Rattle.format.specs.Bits.{bits_of}
use Rattle.format.specs.Key.{IsKey, separator_length}
use Rattle.parts.specs.Parts.{left_out, with_key}
use Rattle.parts.proofs.BitLaws.{bits_of-with_key}
use Rattle.rows.proofs.RowsLaws.{IsKey-row_key}

-- x bits of k past its first s are laid, where k is the row's key
laid : (key k d d' : List ℕ) (m q i n s x at : ℕ) → IsKey key → k ≡ key → s ≡ left_out m q i → s ≤ q → q ≤ 256
    → n ≡ separator_length k → n ≤ 256 → x ≡ n - s
    → at + (separator_length key - left_out m q i) ≤ 8 * length d
    → d' ≡ with_key d at k s x
    → bits_of d' ≡ paste (bits_of d) at (drop (left_out m q i) key) (separator_length key - left_out m q i)
laid key k d d' m q i n s x at y ek es hs hq en hn ex room e =
    let len : x ≡ separator_length key - left_out m q i = ex ∙ ap₂ ◌-◌ (en ∙ ap separator_length ek) es in
    ap bits_of (e ∙ ap (λ (l : List ℕ). with_key d at l s x) ek)
    ∙ bits_of-with_key d at key s x y (omega (arith, len)) (omega arith)
    ∙ ap₂ (λ (a b : ℕ). paste (bits_of d) at (drop a key) b) es len

pub returns-clause-written : goal.returns-clause-written
returns-clause-written c = search (rules, laid, IsKey-row_key)
