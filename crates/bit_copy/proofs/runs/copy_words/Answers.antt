-- `bit_copy::runs::copy_words` meets its contract: because after k turns k words have been moved, and a turn moves the
-- next. The measure is what is left of n.
-- Assumes nothing.
use Rattle.std.proofs.Common.{rules}
use Rattle.bit_copy.proofs.runs.copy_words.Goals as goal
use mathlib.Core.List.{List}
use mathlib.Core.Path.{◌≡◌, refl, ap, subst, ◌∙◌}
use Prim.Native.Nat.{ℕ, ◌+◌, ◌*◌, ◌%◌, ◌≤◌, ◌<◌}
use native.Mathlib.Omega.{arith}
use lib.ListN.{length}
use Rattle.format.specs.Bits.{bits}
use Rattle.words.specs.Words.{with_word, window_bits}
use Rattle.bit_copy.specs.Runs.{Moved}
use Rattle.bit_copy.proofs.RunLaws.{moved_add}
use Rattle.bit_copy.proofs.WordLaws.{moved_word}

turn : (d : List ℕ) (to : ℕ) (s : List ℕ) (f h i k x : ℕ) (d' d'' : List ℕ) → Moved d (8 * to) s f (64 * k) d'
    → bits 64 x ≡ window_bits s (8 * (i + 8 * k) + h % 8) → d'' ≡ with_word d' (to + 8 * k) x
    → 8 * i + h % 8 ≡ f
    → length d' ≡ length d → to + 8 * (k + 1) ≤ length d → f + 64 * (k + 1) < 8 * length s
    → Moved d (8 * to) s f (64 * (k + 1)) d''
turn d to s f h i k x d' d'' p ex e ef l hd hs =
    let g : 8 * (i + 8 * k) + h % 8 ≡ f + 64 * k = omega arith in
    moved_add d (8 * to) s f (64 * k) 64 d' d'' (8 * (to + 8 * k)) (f + 64 * k) (64 * (k + 1)) p
    (moved_word d' s (to + 8 * k) (f + 64 * k) x d'' (omega arith) (omega arith) (ex ∙ ap (window_bits s) g) e)
    (omega arith) refl (omega arith) (omega arith) (omega arith)

end : (d : List ℕ) (at : ℕ) (s : List ℕ) (f n k : ℕ) (d' : List ℕ) → k ≤ n → n ≤ k → Moved d at s f (64 * k) d'
    → Moved d at s f (64 * n) d'
end d at s f n k d' h h' p =
    let e : 64 * k ≡ 64 * n = omega arith in
    subst (λ (m : ℕ). Moved d at s f m d') e p

pub loop-k-preserved : goal.loop-k-preserved
loop-k-preserved c = search (rules, turn)

pub returns : goal.returns
returns c = search (rules, end)
