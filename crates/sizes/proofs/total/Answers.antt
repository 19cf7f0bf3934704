-- `sizes::total` meets its contract: what is left of 64 bits is compared with the next part.
-- Assumes nothing.
use Prim.Native.Nat.{◌+◌}
use native.Mathlib.Omega.{arith}
use Rattle.sizes.proofs.SizesLaws.{size_checked, size_past}
use Rattle.sizes.proofs.total.Goals as goal

pub returns-in_default : goal.returns-in_default
returns-in_default c = record { answer = size_past (c.args.a + c.args.b) _ 0 c.in_default.ensures (omega arith) }

pub returns : goal.returns
returns c =
    record {
      answer =
          size_checked _ c.checked_add-2.result (c.in-Some.two + c.args.c) _ 0 c.ok_or.ensures.value c.checked_add-2.ensures
          (omega (arith, c.in-Some.ensures));
    }
