-- `keys::Key::from_bytes` meets its contract: 256 bits are four times 64, and 32 bytes have no more.
-- Assumes nothing.
use mathlib.Core.List.{List, ◌++◌}
use mathlib.Core.Path.{◌≡◌, refl, sym, ap₂, ◌∙◌}
use Prim.Native.Nat.{ℕ}
use native.Mathlib.Omega.{arith}
use lib.ListN.{length, drop}
use Rattle.format.specs.Bits.{bits, bits_of, fill}
use Rattle.facts.proofs.BitsLaws.{length-bits_of, fill-add, fill_exact}
use Rattle.keys.specs.Keys.{key_bits}
use Rattle.std.proofs.Common.{rules}
use Rattle.keys.proofs.Key.from_bytes.Goals as goal

read : (s : List ℕ) (a b c d : ℕ) → length s ≡ 32 → bits 64 a ≡ fill 64 (drop 0 (bits_of s))
    → bits 64 b ≡ fill 64 (drop 64 (bits_of s)) → bits 64 c ≡ fill 64 (drop 128 (bits_of s))
    → bits 64 d ≡ fill 64 (drop 192 (bits_of s)) → key_bits (record { a = a; b = b; c = c; d = d }) ≡ bits_of s
unfolding key_bits
read s a b c d l ea eb ec ed =
    ap₂ ◌++◌ (ap₂ ◌++◌ (ap₂ ◌++◌ ea eb) ec) ed
    ∙ sym (sym (fill_exact (bits_of s) 256 (length-bits_of s ∙ omega arith)) ∙ fill-add 192 64 (bits_of s)
    ∙ ap₂ ◌++◌ (fill-add 128 64 (bits_of s) ∙ ap₂ ◌++◌ (fill-add 64 64 (bits_of s)) refl) refl)

ruleset laws = (read)

pub returns : goal.returns
returns c = search (rules, laws)
