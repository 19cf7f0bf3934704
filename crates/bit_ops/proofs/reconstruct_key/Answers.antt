-- `bit_ops::reconstruct_key` meets its contract: because its tests are those of the refusals in their order, and past
-- them the key of the prefix's bits, the separator's behind them and zeros is stored.
-- Assumes nothing.
use Rattle.std.proofs.Common.{rules}
use Rattle.bit_ops.proofs.reconstruct_key.Goals as goal
use mathlib.Core.Bool.{Bool, true, false, not}
use mathlib.Core.List.{List, ◌++◌}
use mathlib.Core.Path.{◌≡◌, sym, ap, ◌∙◌}
use Prim.Native.Nat.{ℕ, ◌+◌, ◌-◌, ◌≤◌, ◌<◌}
use native.Mathlib.Omega.{arith}
use borrow.Author.Tests.{le-ltb, lt-ltb, not-true, not-false}
use lib.ListN.{length, take, drop}
use lib.Seq.{length-take-le}
use Rattle.format.specs.Bits.{bits_of, fill, pack}
use Rattle.format.specs.Answer.{refusal_of, afterwards, first, unless}
use Rattle.format.specs.Ranges.{inside, rebuild_key}
use Rattle.std.specs.Prelude.{Ok, Err}
use Rattle.format.specs.declared.refusal.Refusal.TheVariants.{RangeOutside, Unrepresentable}
use Rattle.facts.proofs.BitsLaws.{fill_exact, take-fill}
use Rattle.bit_ops.specs.Calls.{Rebuilt}
use Rattle.bit_copy.proofs.RunLaws.{inside_room}

module _ (x : List ℕ) (p : ℕ) (y : List ℕ) (at n : ℕ) (out : List ℕ) (f : Bool) (ef : f ≡ inside (length x) 0 p) where
  out_prefix : not f ≡ true → Rebuilt x p y at n out (Err RangeOutside) out
  unfolding rebuild_key unless first refusal_of afterwards
  out_prefix t =
      let i : inside (length x) 0 p ≡ false = sym ef ∙ not-true f t in
      record { answer = rw i; written = rw i }

  module _ (tf : not f ≡ false) (g : Bool) (eg : g ≡ inside (length y) at n) where
    ix : inside (length x) 0 p ≡ true
    ix = sym ef ∙ not-false f tf

    out_separator : not g ≡ true → Rebuilt x p y at n out (Err RangeOutside) out
    unfolding rebuild_key unless first refusal_of afterwards
    out_separator t =
        let i : inside (length y) at n ≡ false = sym eg ∙ not-true g t in
        record { answer = rw (ix, i); written = rw (ix, i) }

    module _ (tg : not g ≡ false) where
      iy : inside (length y) at n ≡ true
      iy = sym eg ∙ not-false g tg

      too_long : 256 < p + n → Rebuilt x p y at n out (Err Unrepresentable) out
      unfolding rebuild_key unless first refusal_of afterwards
      too_long l = record { answer = rw (ix, iy, lt-ltb 256 (p + n) l); written = rw (ix, iy, lt-ltb 256 (p + n) l) }

      long_prefix : 256 < p → Rebuilt x p y at n out (Err Unrepresentable) out
      long_prefix l = too_long (omega arith)

      long_separator : p ≤ 256 → 256 - p < n → Rebuilt x p y at n out (Err Unrepresentable) out
      long_separator l m = too_long (omega arith)

      made : p ≤ 256 → n ≤ 256 - p → (k w : List ℕ) → k ≡ pack 32 w → (v : List ℕ)
          → w ≡ fill 256 (take p v ++ take n (drop at (bits_of y)))
          → v ≡ fill 256 (take p (bits_of x))
          → Rebuilt x p y at n out (Ok tt) k
      unfolding rebuild_key unless first refusal_of afterwards
      made l m k w ek v ew ev =
          let h : p + n ≤ 256 = omega arith in
          let front : List ℕ = take p (bits_of x) in
          let lf : length front ≡ p = length-take-le p (bits_of x) (inside_room x 0 p ix) in
          let ef : take p v ≡ front = ap (take p) ev ∙ take-fill p 256 front l ∙ fill_exact front p lf in
          record {
            answer = rw (ix, iy, le-ltb 256 (p + n) h);
            written =
                rw (ix, iy, le-ltb 256 (p + n) h)
                (ek ∙ ap (pack 32) (ew ∙ ap (λ (z : List ℕ). fill 256 (z ++ take n (drop at (bits_of y)))) ef));
          }

ruleset laws = (out_prefix, out_separator, long_prefix, long_separator, made)

pub returns-then-not-lies_inside : goal.returns-then-not-lies_inside
returns-then-not-lies_inside c = search (rules, laws)

pub returns-then-not-lies_inside-2 : goal.returns-then-not-lies_inside-2
returns-then-not-lies_inside-2 c = search (rules, laws)

pub returns-then-prefix_bits-gt256 : goal.returns-then-prefix_bits-gt256
returns-then-prefix_bits-gt256 c = search (rules, laws)

pub returns-then-prefix_bits-bits : goal.returns-then-prefix_bits-bits
returns-then-prefix_bits-bits c = search (rules, laws)

pub returns : goal.returns
returns c = search (rules, laws)
