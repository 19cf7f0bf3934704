-- `shape::body_fits` meets its contract: more than 681 entries take over 4,086 bytes without any bits.
-- Assumes nothing.
use mathlib.Core.Bool.{false}
use mathlib.Core.Path.{◌≡◌, sym, ap}
use Prim.Native.Nat.{ℕ, ◌+◌, ◌*◌, ◌≤◌, ◌<◌}
use native.Mathlib.Omega.{arith}
use borrow.Author.Tests.{lt-leb}
use lib.Dec.{leb}
use mir.Syntax.{w64}
use mir.Val.{Fits}
use Rattle.format.specs.Bits.{bytes_for}
use Rattle.format.specs.Page.{body_bytes}
use Rattle.std.proofs.Common.{rules}
use Rattle.shape.proofs.body_fits.Goals as goal

many : (n q s : ℕ) → 681 < n → false ≡ leb (body_bytes n q s) 4086
unfolding body_bytes
many n q s h = sym (lt-leb (body_bytes n q s) 4086 (omega arith))

read : (n q s b : ℕ) → b ≡ bytes_for (q + s) → leb (6 * n + b) 4086 ≡ leb (body_bytes n q s) 4086
unfolding body_bytes
read n q s b e = ap (λ (x : ℕ). leb (6 * n + x) 4086) e

fits : (n q s b : ℕ) → b ≡ bytes_for (q + s) → n ≤ 681 → Fits w64 q → Fits w64 s → Fits w64 (6 * n + b)
unfolding bytes_for
fits n q s b e h hq hs = omega arith

ruleset laws = (many, read, fits)

pub returns-then-n-gt-MOST_ENTRIES : goal.returns-then-n-gt-MOST_ENTRIES
returns-then-n-gt-MOST_ENTRIES c = search (rules, laws)

pub overflow_add-result : goal.overflow_add-result
overflow_add-result c = search (rules, laws)

pub returns : goal.returns
returns c = search (rules, laws)
