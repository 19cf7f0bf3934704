-- `sizes::body_size` meets its contract: six for each entry, and the bytes of the bits, where both fit.
-- Assumes nothing.
use mathlib.Core.Path.{◌≡◌, ◌∙◌}
use Prim.Native.Nat.{ℕ, ◌+◌, ◌*◌}
use native.Mathlib.Omega.{arith}
use Rattle.format.specs.Bits.{bytes_for}
use Rattle.format.specs.Page.{body_bytes}
use Rattle.format.specs.Sizes.{difference, body_size}
use Rattle.sizes.proofs.SizesLaws.{size_checked, size_past}
use Rattle.sizes.proofs.body_size.Goals as goal

size_is : (q sum n b : ℕ) → b ≡ bytes_for (q + sum) → difference (n * 6 + b) 0 ≡ body_size q sum n
unfolding body_size body_bytes
size_is q sum n b e = rw e (let x : n * 6 ≡ 6 * n = omega arith in rw x)

pub returns-in_default : goal.returns-in_default
returns-in_default c =
    record {
      answer =
          size_past (c.args.n * 6) (c.args.n * 6 + c.bytes_for-bytes.result) 0 c.in_default.ensures (omega arith)
          ∙ size_is _ _ _ _ c.bytes_for-bytes.ensures.answer;
    }

pub returns : goal.returns
returns c =
    record {
      answer =
          size_checked _ _ _ (c.args.n * 6 + c.bytes_for-bytes.result) 0
          c.ok_or.ensures.value c.checked_add.ensures (omega (arith, c.in-Some.ensures))
          ∙ size_is _ _ _ _ c.bytes_for-bytes.ensures.answer;
    }
