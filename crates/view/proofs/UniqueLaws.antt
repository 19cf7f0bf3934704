-- An entry that was read is known by what it means: two answers that mean the same are one.
-- Assumes nothing.
use mathlib.Core.Path.{◌≡◌, sym, ap, ap₂}
use Prim.Native.Nat.{ℕ}
use Rattle.std.specs.Prelude.{Result, Ok, Err}
use Rattle.format.specs.Answer.{Answer}
use Rattle.format.specs.Page.{Entry}
use Rattle.format.specs.declared.refusal.Refusal.{Refusal}
use Rattle.facts.proofs.RefusalLaws.{refused_same, value-refused, value_or}
use Rattle.keys.specs.declared.Key.{Key}
use Rattle.keys.specs.Keys.{key_bits}
use Rattle.keys.proofs.UniqueLaws.{InWords, key_bits_inj}
use Rattle.view.specs.Seen.{entry_meant, seen_answer}

-- the words of a key have 64 bits, as their type says
pub Typed : Result (Key × ℕ) Refusal → Type 0
Typed (Ok e) = InWords e.0
Typed (Err r) = Unit {0}

pub seen_answer_inj : (a b : Result (Key × ℕ) Refusal) → Typed a → Typed b → seen_answer a ≡ seen_answer b → a ≡ b
unfolding Typed value_or
seen_answer_inj (Ok (k, x)) (Ok (l, y)) v w e =
    let d : Entry = record { key = key_bits k; pointer = x } in
    ap₂ (λ (i : Key) (j : ℕ). Ok (i, j)) (key_bits_inj k l v w (ap (λ (a : Answer Entry). (value_or d a).key) e))
    (ap (λ (a : Answer Entry). (value_or d a).pointer) e)
seen_answer_inj (Ok x) (Err s) v w e = absurd (value-refused (entry_meant x) s e)
seen_answer_inj (Err r) (Ok y) v w e = absurd (value-refused (entry_meant y) r (sym e))
seen_answer_inj (Err r) (Err s) v w e = ap Err (refused_same r s e)
