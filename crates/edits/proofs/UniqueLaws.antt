-- An edit is known by what it means: two that mean the same are one.
-- Assumes nothing.
use mathlib.Core.Path.{◌≡◌, ap₂}
use Prim.Native.Nat.{ℕ}
use native.Mathlib.Omega.{arith}
use Rattle.keys.specs.Keys.{key_bits}
use Rattle.keys.proofs.UniqueLaws.{InWords, key_bits_inj}
use Rattle.edits.specs.declared.edit.Edit.{Edit as CodeEdit}
use Rattle.edits.specs.declared.edit.Edit.TheVariants.{Insert, Update, KeepChunk}
use Rattle.edits.specs.Record.{edit_meant}

-- the words of an Insert's key have 64 bits, as their type says
pub Typed : CodeEdit → Type 0
Typed (Insert k p) = InWords k
Typed (Update i p) = Unit {0}
Typed (KeepChunk s e) = Unit {0}

pub edit_meant_inj : (a b : CodeEdit) → Typed a → Typed b → edit_meant a ≡ edit_meant b → a ≡ b
unfolding Typed
edit_meant_inj (Insert k p) (Insert l q) v w e =
    let f : key_bits k ≡ key_bits l = cc in
    let g : p ≡ q = cc in
    ap₂ Insert (key_bits_inj k l v w f) g
edit_meant_inj (Insert k p) (Update i q) v w e = let z : ◌≡◌ {A = ℕ} 0 1 = cc in absurd (omega arith)
edit_meant_inj (Insert k p) (KeepChunk s f) v w e = let z : ◌≡◌ {A = ℕ} 0 1 = cc in absurd (omega arith)
edit_meant_inj (Update i p) (Insert k q) v w e = let z : ◌≡◌ {A = ℕ} 0 1 = cc in absurd (omega arith)
edit_meant_inj (Update i p) (Update j q) v w e =
    let f : i ≡ j = cc in
    let g : p ≡ q = cc in
    ap₂ Update f g
edit_meant_inj (Update i p) (KeepChunk s f) v w e = let z : ◌≡◌ {A = ℕ} 0 1 = cc in absurd (omega arith)
edit_meant_inj (KeepChunk s f) (Insert k p) v w e = let z : ◌≡◌ {A = ℕ} 0 1 = cc in absurd (omega arith)
edit_meant_inj (KeepChunk s f) (Update i p) v w e = let z : ◌≡◌ {A = ℕ} 0 1 = cc in absurd (omega arith)
edit_meant_inj (KeepChunk s f) (KeepChunk t g) v w e =
    let x : s ≡ t = cc in
    let y : f ≡ g = cc in
    ap₂ KeepChunk x y
