-- `keys::Key::with_few_bits` meets its contract: where the first word holds all, it is that word alone, and else as
-- `with_bits` has it.
-- Assumes nothing.
use mathlib.Core.List.{List, ◌++◌}
use mathlib.Core.Bool.{Bool, cond}
use mathlib.Core.Path.{◌≡◌, sym, ap, ap₂, ◌∙◌}
use Prim.Native.Nat.{ℕ, ◌+◌, ◌-◌, ◌/◌, ◌≤◌, ◌<◌}
use native.Mathlib.Omega.{arith}
use borrow.Author.Tests.{lt-ltb}
use lib.ListN.{length, take, drop, replicate}
use Rattle.format.specs.Bits.{bits, bits_of, fill}
use Rattle.facts.proofs.BitsLaws.{fill-nil}
use Rattle.words.specs.Words.{window_bits}
use Rattle.words.proofs.NumberLaws.{bits-zero}
use Rattle.words.proofs.WindowLaws.{fill-take-fill, take-fill-append}
use Rattle.keys.specs.declared.Key.{Key}
use Rattle.keys.specs.Keys.{key_bits}
use Rattle.keys.proofs.BehindLaws.{key_bits_behind}
use Rattle.std.proofs.Common.{rules}
use Rattle.keys.proofs.Key.with_few_bits.Goals as goal

-- no bits of the word from lo on
none : (s : List ℕ) (x lo q start len r : ℕ) → q ≤ lo → len ≤ lo - q → r ≡ 0
    → bits 64 r ≡ fill 64 (take (q - lo) (bits 64 x) ++ take (len - (lo - q)) (drop (start + (lo - q)) (bits_of s)))
none s x lo q start len r h l e =
    let y : 0 ≡ q - lo = omega arith in
    let z : 0 ≡ len - (lo - q) = omega arith in
    ap (bits 64) e ∙ bits-zero 64 ∙ sym (fill-nil 64)
    ∙ ap₂ (λ (i j : ℕ). fill 64 (take i (bits 64 x) ++ take j (drop (start + (lo - q)) (bits_of s)))) y z

few : (s : List ℕ) (k : Key) (q start len n w y a b c d : ℕ) → q ≤ 64 → len ≤ 64 - q → n ≡ length s - 8 → start / 8 < n
    → bits 64 w ≡ window_bits s start → bits 64 y ≡ fill 64 (take len (bits 64 w))
    → bits 64 a ≡ take 64 (take q (bits 64 k.a) ++ bits 64 y)
    → b ≡ 0 → c ≡ 0 → d ≡ 0 → key_bits (record { a = a; b = b; c = c; d = d })
    ≡ fill 256 (take q (key_bits k) ++ take len (drop start (bits_of s)))
unfolding window_bits
few s k q start len n w y a b c d h l en i ew ey ea eb ec ed =
    let z : List ℕ = drop start (bits_of s) in
    let j : start / 8 + 8 < length s = omega arith in
    let x : bits 64 w ≡ fill 64 z =
    ew ∙ ap (λ (b : Bool). cond b (fill 64 z) (replicate 64 0)) (lt-ltb (start / 8 + 8) (length s) j) in
    let q0 : q ≡ q - 0 = omega arith in
    let l0 : len ≡ len - (0 - q) = omega arith in
    let s0 : start ≡ start + (0 - q) = omega arith in
    let first : bits 64 a
    ≡ fill 64 (take (q - 0) (bits 64 k.a) ++ take (len - (0 - q)) (drop (start + (0 - q)) (bits_of s))) =
    ea
    ∙ ap (λ (u : List ℕ). take 64 (take q (bits 64 k.a) ++ u))
    (ey ∙ ap (λ (u : List ℕ). fill 64 (take len u)) x ∙ fill-take-fill 64 len z)
    ∙ take-fill-append 64 64 (take q (bits 64 k.a)) (take len z) (omega arith)
    ∙ ap₂ (λ (i j : ℕ). fill 64 (take i (bits 64 k.a) ++ take j z)) q0 l0
    ∙ ap (λ (j : ℕ). fill 64 (take (q - 0) (bits 64 k.a) ++ take (len - (0 - q)) (drop j (bits_of s)))) s0 in
    key_bits_behind s k q start len a b c d first (none s k.b 64 q start len b h l eb)
    (none s k.c 128 q start len c (omega arith) (omega arith) ec)
    (none s k.d 192 q start len d (omega arith) (omega arith) ed)

pub returns-then-start-saturating_sub : goal.returns-then-start-saturating_sub
returns-then-start-saturating_sub c = search (rules, few)
