-- Laws of little-endian numbers stored in a slice, byte by byte, and one behind the other as the header has them.
-- Assumes nothing.
use mathlib.Core.List.{List, [], ◌∷◌, ◌++◌}
use mathlib.Core.Path.{◌≡◌, refl, sym, ap, ap₂, ◌∙◌}
use native.Mathlib.Nat.{pow-suc, div-div-eq-div-mul}
use Rattle.std.specs.Int.{w64, byte_at, bytes_low_first, to_le_bytes}
use Rattle.std.proofs.lemmas.Slice.{put_mid-paste}
use borrow.Rule.Slice.PartMut.{put_mid}
use Prim.Native.Nat.{ℕ, zero, suc, ◌+◌, ◌-◌, ◌/◌, ◌%◌, ◌^◌, ◌≤◌, ◌<◌}
use native.Mathlib.Omega.{arith}
use borrow.Author.Tests.{le-leb, lt-leb}
use lib.ListN.{length, take, drop}
use lib.ListN.{length-append}
use lib.Seq.{paste, take_all, take_at, drop_at, drop-drop}
use Rattle.format.specs.Bits.{le}
use Rattle.facts.proofs.BitsLaws.{length-le}
use Rattle.parts.specs.Parts.{header_bytes, with_header}

-- ---- numbers

byte_at-is : (i n : ℕ) → byte_at i n ≡ n / 256 ^ i % 256
byte_at-is zero n = omega arith
byte_at-is (suc i) n = refl

-- std's bytes of a number from the i-th on, lowest first
low_first : (i k n : ℕ) → bytes_low_first i k n ≡ le k (n / 256 ^ i)
unfolding le
low_first i zero n = refl
low_first i (suc k) n =
    let e : n / 256 ^ suc i ≡ n / 256 ^ i / 256 =
    ap (λ (m : ℕ). n / m) (pow-suc 256 i) ∙ sym (div-div-eq-div-mul n (256 ^ i) 256) in
    ap₂ ◌∷◌ (byte_at-is i n) (low_first (suc i) k n ∙ ap (le k) e)

take-le : (w k n : ℕ) → w ≤ k → take w (le k n) ≡ le w n
unfolding le
take-le zero k n h = refl
take-le (suc w) zero n h = absurd (omega arith)
take-le (suc w) (suc k) n h = ap (λ (l : List ℕ). n % 256 ∷ l) (take-le w k (n / 256) (omega arith))

-- a number's first w bytes in their place
pub stored : (w i x : ℕ) (d b ys : List ℕ) → w ≤ 8 → b ≡ to_le_bytes w64 x → ys ≡ take w b
    → put_mid i ((i + w) - i) d ys ≡ paste d i (le w x) w
stored w i x d b ys h eb e =
    let z : x / 256 ^ 0 ≡ x = omega arith in
    put_mid-paste i ((i + w) - i) d ys (le w x) w
    (e ∙ ap (take w) (eb ∙ low_first 0 8 x ∙ ap (le 8) z) ∙ take-le w 8 x h) (omega arith) (sym (length-le w x))

-- ---- fields one behind the other

-- h stands before what was there, and one number more is stored behind it
field_more : (h d₀ d d' : List ℕ) (k w x : ℕ) → length h ≡ k → k + w ≤ length d₀ → d ≡ h ++ drop k d₀
    → d' ≡ paste d k (le w x) w
    → d' ≡ (h ++ le w x) ++ drop (k + w) d₀
field_more h d₀ d d' k w x lh hl e e' =
    let t : take k d ≡ h = ap (take k) e ∙ take_at h (drop k d₀) k lh in
    let r : drop (k + w) d ≡ drop (k + w) d₀ =
    sym (drop-drop w k d) ∙ ap (drop w) (ap (drop k) e ∙ drop_at h (drop k d₀) k lh) ∙ drop-drop w k d₀ in
    let l : take w (le w x) ≡ le w x = take_all w (le w x) (omega (arith, length-le w x)) in
    e' ∙ ap₂ ◌++◌ (ap₂ ◌++◌ t l) r

-- the header, where there are ten bytes
header_is : (d₀ d₁ d₂ d₃ d₄ : List ℕ) (number n m q : ℕ) → 10 ≤ length d₀ → d₁ ≡ paste d₀ 0 (le 4 number) 4
    → d₂ ≡ paste d₁ 4 (le 2 n) 2
    → d₃ ≡ paste d₂ 6 (le 2 m) 2
    → d₄ ≡ paste d₃ 8 (le 2 q) 2
    → d₄ ≡ header_bytes number n m q ++ drop 10 d₀
unfolding header_bytes
header_is d₀ d₁ d₂ d₃ d₄ number n m q h e₁ e₂ e₃ e₄ =
    let f₁ : List ℕ = le 4 number in
    let f₂ : List ℕ = f₁ ++ le 2 n in
    let f₃ : List ℕ = f₂ ++ le 2 m in
    let l₂ : length f₂ ≡ 6 = omega (arith, length-append f₁ (le 2 n), length-le 4 number, length-le 2 n) in
    let l₃ : length f₃ ≡ 8 = omega (arith, length-append f₂ (le 2 m), length-le 2 m) in
    let a₁ : d₁ ≡ f₁ ++ drop 4 d₀ = field_more [] d₀ d₀ d₁ 0 4 number refl (omega arith) refl e₁ in
    let a₂ : d₂ ≡ f₂ ++ drop 6 d₀ = field_more f₁ d₀ d₁ d₂ 4 2 n (length-le 4 number) (omega arith) a₁ e₂ in
    let a₃ : d₃ ≡ f₃ ++ drop 8 d₀ = field_more f₂ d₀ d₂ d₃ 6 2 m l₂ (omega arith) a₂ e₃ in
    field_more f₃ d₀ d₃ d₄ 8 2 q l₃ (omega arith) a₃ e₄

-- what callers cite
pub with_header_in : (d : List ℕ) (number n m q : ℕ) → 10 ≤ length d
    → with_header d number n m q ≡ header_bytes number n m q ++ drop 10 d
unfolding with_header
with_header_in d number n m q h = rw (le-leb 10 (length d) h)

pub header_in : (d₀ d₁ d₂ d₃ d₄ : List ℕ) (number n m q : ℕ) → 10 ≤ length d₀ → d₁ ≡ paste d₀ 0 (le 4 number) 4
    → d₂ ≡ paste d₁ 4 (le 2 n) 2
    → d₃ ≡ paste d₂ 6 (le 2 m) 2
    → d₄ ≡ paste d₃ 8 (le 2 q) 2
    → d₄ ≡ with_header d₀ number n m q
header_in d₀ d₁ d₂ d₃ d₄ number n m q h e₁ e₂ e₃ e₄ =
    header_is d₀ d₁ d₂ d₃ d₄ number n m q h e₁ e₂ e₃ e₄ ∙ sym (with_header_in d₀ number n m q h)

-- and where there are fewer
pub header_out : (d : List ℕ) (number n m q : ℕ) → length d < 10 → d ≡ with_header d number n m q
unfolding with_header
header_out d number n m q h = rw (lt-leb 10 (length d) h)
