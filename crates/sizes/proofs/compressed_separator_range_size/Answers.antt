-- `sizes::compressed_separator_range_size` meets its contract: what is taken off is (m - 1) q.
-- Assumes nothing.
use mathlib.Core.Path.{◌≡◌, sym, ap, ◌∙◌}
use Prim.Native.Nat.{ℕ, suc, ◌+◌, ◌-◌, ◌*◌, ◌^◌, ◌<◌, ◌≤◌}
use native.Mathlib.Omega.{arith}
use Rattle.format.specs.Answer.{Answer}
use Rattle.format.specs.Sizes.{difference, stored_from_whole}
use Rattle.std.specs.Prelude.{Result}
use Rattle.format.specs.declared.refusal.Refusal.{Refusal}
use Rattle.sizes.specs.Sizes.{size_answer}
use Rattle.sizes.proofs.SizesLaws.{diff_same}
use Rattle.std.proofs.Common.{rules}
use Rattle.sizes.proofs.compressed_separator_range_size.Goals as goal

no_items : (first m others q : ℕ) → (1 ≤ m → ⊥) → Answer.Refused 19 ≡ stored_from_whole first m others q
unfolding stored_from_whole
no_items first m others q z =
    let e : m ≡ 0 = omega (arith, z) in
    sym (ap (λ (x : ℕ). stored_from_whole first x others q) e)

head_fits : (first q h : ℕ) → h ≡ first - q → first < 2 ^ 64 → q < 2 ^ 64 → h + q < 2 ^ 64
head_fits first q h eh k kq = omega arith

module _ (first m others q h : ℕ) (eh : h ≡ first - q) (n : ℕ) (some : (1 ≤ m) × (n ≡ m - 1)) (r : Result ℕ Refusal) where
  shaped : stored_from_whole first m others q ≡ difference (first - q + others) (n * q)
  unfolding stored_from_whole
  shaped =
      let e : m ≡ suc n = omega (arith, some.0, some.1) in
      ap (λ (x : ℕ). stored_from_whole first x others q) e

  no_prefix : q ≡ 0 → size_answer r ≡ difference (h + others + 0) 0 → size_answer r ≡ stored_from_whole first m others q
  no_prefix z e =
      let p : n * q ≡ 0 = ap (λ (x : ℕ). n * x) z ∙ omega arith in
      e ∙ diff_same (first - q + others) (n * q) (h + others + 0) (omega arith) ∙ sym shaped

  less : size_answer r ≡ difference (h + others) (n * q) → size_answer r ≡ stored_from_whole first m others q
  less e = e ∙ ap (λ (x : ℕ). difference (x + others) (n * q)) eh ∙ sym shaped

ruleset laws = (no_items, head_fits, no_prefix, less)

pub returns-in_default : goal.returns-in_default
returns-in_default c = search (rules, laws)

pub returns-then-prefix_len-eq0 : goal.returns-then-prefix_len-eq0
returns-then-prefix_len-eq0 c = search (rules, laws)

pub returns : goal.returns
returns c = search (rules, laws)
