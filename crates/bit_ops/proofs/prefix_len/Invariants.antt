-- `bit_ops::prefix_len` meets its contract: because n bits are shared so far, n being the bits of the bytes and of the
-- byte's bits gone through, and a mask of one bit tells whether the next is. The measures are what is left of the bytes
-- and of the byte's bits.
-- Assumes nothing.
use Rattle.bit_ops.proofs.prefix_len.Given as goal
use mathlib.Core.Path.{◌≡◌}
use Prim.Native.Nat.{◌+◌, ◌-◌, ◌*◌, ◌≤◌}
use Rattle.bit_ops.proofs.SharedLaws.{SharedTo}

abbrev pub invariant-loop-bit : goal.invariant-loop-bit
invariant-loop-bit l = (l.bit ≤ 8) × (l.n ≡ 8 * l.byte + l.bit) × SharedTo l.x l.y l.n

abbrev pub decreases-loop-bit : goal.decreases-loop-bit
decreases-loop-bit l = 8 - l.bit

abbrev pub invariant-bytes : goal.invariant-bytes
invariant-bytes l = (l.byte ≤ 32) × (l.n ≡ 8 * l.byte) × SharedTo l.x l.y l.n

abbrev pub decreases-bytes : goal.decreases-bytes
decreases-bytes l = 32 - l.byte
