-- `words::first_bits` meets its contract: behind the first bits stand those of 0 (`bits-zero`).
-- Assumes nothing.
use mathlib.Core.List.{List, ◌++◌}
use mathlib.Core.Path.{ap₂, ◌∙◌}
use Prim.Native.Nat.{ℕ}
use native.Mathlib.Omega.{arith}
use lib.ListN.{take}
use Rattle.format.specs.Bits.{bits, fill}
use Rattle.words.proofs.NumberLaws.{bits-zero}
use Rattle.words.proofs.first_bits.Goals as goal

pub returns : goal.returns
unfolding fill
returns c =
    record {
      answer =
          c.joined.ensures.answer
          ∙ ap₂ (λ (j : ℕ) (l : List ℕ). take 64 (take j (bits 64 c.args.x) ++ l)) (omega arith) (bits-zero 64);
    }
