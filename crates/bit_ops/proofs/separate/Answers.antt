-- `bit_ops::separate` meets its contract: because its test is that of the refusal, and past it the shared bits of b and
-- one more are stored.
-- Assumes nothing.
use Rattle.std.proofs.Common.{rules}
use Rattle.bit_ops.proofs.separate.Goals as goal
use mathlib.Core.Bool.{Bool, true, false, not}
use mathlib.Core.List.{List}
use mathlib.Core.Path.{◌≡◌, sym, ap, ◌∙◌}
use Prim.Native.Nat.{ℕ, ◌+◌}
use borrow.Author.Tests.{not-true, not-false}
use lib.ListN.{take}
use Rattle.format.specs.Bits.{bits_of, fill, pack}
use Rattle.format.specs.Key.{below, shared_bits, separator}
use Rattle.format.specs.Answer.{refusal_of, afterwards, first, unless}
use Rattle.format.specs.Ranges.{separate}
use Rattle.std.specs.Prelude.{Ok, Err}
use Rattle.format.specs.declared.refusal.Refusal.TheVariants.{NotBelow}
use Rattle.bit_ops.specs.Calls.{Separated}

-- f is whether a is below b
module _ (a b out : List ℕ) (f : Bool) (ef : f ≡ below (bits_of a) (bits_of b)) where
  refused : not f ≡ true → Separated a b out (Err NotBelow) out
  unfolding separate unless first refusal_of afterwards
  refused t =
      let p : below (bits_of a) (bits_of b) ≡ false = sym ef ∙ not-true f t in
      record { answer = rw p; written = rw p }

  made : not f ≡ false → (n : ℕ) → n ≡ shared_bits (bits_of a) (bits_of b) → (k : List ℕ)
      → k ≡ pack 32 (fill 256 (take (n + 1) (bits_of b)))
      → Separated a b out (Ok tt) k
  unfolding separate unless first refusal_of afterwards separator
  made t n en k ek =
      let p : below (bits_of a) (bits_of b) ≡ true = sym ef ∙ not-false f t in
      record { answer = rw p; written = rw p (ek ∙ ap (λ (j : ℕ). pack 32 (fill 256 (take (j + 1) (bits_of b)))) en) }

ruleset laws = (refused, made)

pub returns-then-not-is_below : goal.returns-then-not-is_below
returns-then-not-is_below c = search (rules, laws)

pub returns : goal.returns
returns c = search (rules, laws)
