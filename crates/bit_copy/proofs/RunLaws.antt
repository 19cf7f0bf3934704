-- Laws of ranges (format's `inside`), of runs of bits that have been copied (`Moved` of specs/Runs.antt) and of the
-- bytes that then stand there (format's `bits_copied`).
-- In order: ranges; runs one after the other; the bytes.
-- Assumes nothing.
use mathlib.Core.Bool.{Bool, true, false, ◌||◌}
use mathlib.Core.List.{List, ◌++◌, append_assoc}
use mathlib.Core.Path.{◌≡◌, refl, sym, ap, ap₂, ◌∙◌}
use Prim.Native.Nat.{ℕ, ◌+◌, ◌*◌, ◌≤◌}
use native.Mathlib.Omega.{arith}
use borrow.Author.Tests.{eqb-true, le-leb, leb-true, ne_eqb}
use lib.Dec.{eqb, leb}
use lib.ListN.{length, get_or, take, drop, length-drop}
use lib.Seq.{drop-drop, drop-paste, paste, paste-zero, take-add}
use lib.Seq.{take-paste}
use mir.Syntax.{w8}
use mir.Val.{Fits}
use Rattle.format.specs.Bits.{bits_of, pack}
use Rattle.format.specs.Ranges.{inside, bits_copied}
use Rattle.facts.proofs.BitsLaws.{at_below}
use Rattle.facts.proofs.BitsLaws.{length-bits_of, packed}
use Rattle.bit_copy.specs.Runs.{Moved}

-- ---- ranges

-- a range with bits in it that lies inside ends inside
pub inside-end : (size at n : ℕ) → inside size at n ≡ true → (n ≡ 0 → ⊥) → at + n ≤ 8 * size
unfolding inside
inside-end size at n e z = leb-true (at + n) (8 * size) (rw (ne_eqb n 0 z) at e)

pub end-inside : (size at n : ℕ) → at + n ≤ 8 * size → inside size at n ≡ true
unfolding inside
end-inside size at n h = go (eqb n 0)
  where
    go : (t : Bool) → (t || leb (at + n) (8 * size)) ≡ true
    go true = refl
    go false = le-leb (at + n) (8 * size) h

-- so many bits are there
pub inside_room : (s : List ℕ) (at n : ℕ) → inside (length s) at n ≡ true → n ≤ length (drop at (bits_of s))
unfolding inside
inside_room s at n e = go (eqb n 0) refl e
  where
    go : (t : Bool) → eqb n 0 ≡ t → (t || leb (at + n) (8 * length s)) ≡ true → n ≤ length (drop at (bits_of s))
    go true q i =
        let z : n ≡ 0 = eqb-true n 0 q in
        omega arith
    go false q i = omega (arith, leb-true (at + n) (8 * length s) i, length-drop at (bits_of s), length-bits_of s)

-- ---- runs

-- n bits from `at` on, and m behind them, are n + m
pub paste_add : (d : List ℕ) (at : ℕ) (s : List ℕ) (n m : ℕ) → (at + n) + m ≤ length d → n ≤ length s
    → paste (paste d at s n) (at + n) (drop n s) m ≡ paste d at s (n + m)
paste_add d at s n m hd hs =
    let t : take (at + n) (paste d at s n) ≡ take at d ++ take n s = take-paste d at s n (omega arith) (omega arith) in
    let r : drop ((at + n) + m) (paste d at s n) ≡ drop ((at + n) + m) d =
    sym (drop-drop m (at + n) (paste d at s n)) ∙ ap (drop m) (drop-paste d at s n (omega arith) (omega arith))
    ∙ drop-drop m (at + n) d in
    let e : (at + n) + m ≡ at + (n + m) = omega arith in
    ap₂ (λ (l l' : List ℕ). l ++ take m (drop n s) ++ l') t r
    ∙ ap₂ ◌++◌ (append_assoc (take at d) (take n s) (take m (drop n s))
    ∙ ap (λ (l : List ℕ). take at d ++ l) (sym (take-add n m s)))
    (ap (λ (k : ℕ). drop k d) e)

module _ (d : List ℕ) (at : ℕ) (s : List ℕ) (from : ℕ) where
  pub moved_none : Moved d at s from 0 d
  moved_none = record { moved = paste-zero (bits_of d) at (drop from (bits_of s)) }

  -- a run, and the next
  pub moved_add : (n m : ℕ) (d' d'' : List ℕ) (at' from' k : ℕ) → Moved d at s from n d' → Moved d' at' s from' m d''
      → at' ≡ at + n → from' ≡ from + n
      → k ≡ n + m → at + k ≤ 8 * length d → from + k ≤ 8 * length s → Moved d at s from k d''
  moved_add n m d' d'' at' from' k p q ea ef ek hd hs =
      let t : List ℕ = drop from (bits_of s) in
      let ld : (at + n) + m ≤ length (bits_of d) = omega (arith, length-bits_of d) in
      let ls : n ≤ length t = omega (arith, length-drop from (bits_of s), length-bits_of s) in
      let u : drop from' (bits_of s) ≡ drop n t =
      ap (λ (j : ℕ). drop j (bits_of s)) ef ∙ sym (drop-drop n from (bits_of s)) in
      record {
        moved =
            q.moved ∙ ap₂ (λ (l : List ℕ) (j : ℕ). paste l j (drop from' (bits_of s)) m) p.moved ea
            ∙ ap (λ (l : List ℕ). paste (paste (bits_of d) at t n) (at + n) l m) u ∙ paste_add (bits_of d) at t n m ld ls
            ∙ ap (paste (bits_of d) at t) (sym ek);
      }

-- ---- the bytes

module _ (d : List ℕ) (at : ℕ) (s : List ℕ) (from n : ℕ) where
  -- bytes are known by their bits
  pub moved_bytes : (d' : List ℕ) → Moved d at s from n d' → length d' ≡ length d → ((j : ℕ) → Fits w8 (get_or d' j 0))
      → d' ≡ bits_copied d at s from n
  unfolding bits_copied
  moved_bytes d' p l b =
      packed d' (paste (bits_of d) at (drop from (bits_of s)) n) (at_below 256 d' (λ j. (b j).fits)) p.moved
      ∙ ap (λ (k : ℕ). pack k (paste (bits_of d) at (drop from (bits_of s)) n)) l
