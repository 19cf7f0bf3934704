-- Laws of the page's parts while they are written: words one behind the other; the sum of stored lengths; the end
-- offsets; the pointers.
-- Assumes nothing.
use mathlib.Core.List.{List, [], ◌∷◌, ◌++◌, append_assoc, append-nil}
use mathlib.Core.Path.{◌≡◌, refl, sym, ap, ap₂, subst, ◌∙◌}
use Prim.Native.Nat.{ℕ, suc, ◌+◌, ◌-◌, ◌*◌, ◌≤◌, ◌<◌}
use native.Mathlib.Nat.{mul-suc, mul-le-mul_left}
use native.Mathlib.Omega.{arith}
use borrow.Author.Tests.{eq-eqb, ne_eqb, le-leb, lt-leb}
use lib.ListN.{length, get_or, take, drop, drop_of_length-le}
use lib.Seq.{paste, take-paste, length-paste, drop-cons, take_all}
use Rattle.format.specs.Bits.{le}
use Rattle.format.specs.Key.{separator_length}
use Rattle.format.specs.Normal.{words, running, sum, pointers}
use Rattle.facts.proofs.BitsLaws.{length-le}
use Rattle.facts.proofs.StoredLaws.{length-running, running_at, sum-take-suc}
use Rattle.rows.specs.declared.table.Row.{Row}
use Rattle.rows.specs.Rows.{row_key, row_pointer, rows}
use Rattle.parts.specs.Parts.{left_out, row_lengths, stored_sum, with_offsets, with_pointers}
use Rattle.parts.proofs.RowLaws.{length_row_pointers, row_pointers_at, length-row_lengths}
use Rattle.parts.proofs.RowLaws.{row_lengths_at}

-- ---- words of w bytes one behind the other

-- part has i of those of xs
pub record Written (w : ℕ) (xs part : List ℕ) (i : ℕ) : Type 0 where
  pub len : length part ≡ w * length xs
  pub done : take (w * i) part ++ words w (drop i xs) ≡ words w xs

written_start : (w : ℕ) (xs part : List ℕ) → length part ≡ w * length xs → Written w xs part 0
written_start w xs part e =
    let z : w * 0 ≡ 0 = omega arith in
    record { len = e; done = ap (λ (x : ℕ). take x part ++ words w xs) z }

written_more : (w : ℕ) (xs part part' : List ℕ) (i x : ℕ) → Written w xs part i → i < length xs → x ≡ get_or xs i 0
    → part' ≡ paste part (w * i) (le w x) w
    → Written w xs part' (suc i)
unfolding words
written_more w xs part part' i x r h ex e =
    let room : w * i + w ≤ length part = subst (λ (y : ℕ). w * i + w ≤ y) (sym r.len) (fits i (length xs) h) in
    let ll : w ≤ length (le w x) = omega (arith, length-le w x) in
    let a : w * suc i ≡ w * i + w = omega arith in
    let t : take (w * suc i) part' ≡ take (w * i) part ++ le w x =
    ap₂ take a e ∙ take-paste part (w * i) (le w x) w (omega arith) ll
    ∙ ap (λ (l : List ℕ). take (w * i) part ++ l) (take_all w (le w x) (omega (arith, length-le w x))) in
    let d : drop i xs ≡ x ∷ drop (suc i) xs =
    drop-cons xs i 0 h ∙ ap (λ (y : ℕ). y ∷ drop (suc i) xs) (sym ex) in
    record {
      len = ap length e ∙ length-paste part (w * i) (le w x) w room ll ∙ r.len;
      done =
          ap (λ (l : List ℕ). l ++ words w (drop (suc i) xs)) t
          ∙ append_assoc (take (w * i) part) (le w x) (words w (drop (suc i) xs))
          ∙ sym (ap (λ (l : List ℕ). take (w * i) part ++ words w l) d) ∙ r.done;
    }
  where
    fits : (i n : ℕ) → i < n → w * i + w ≤ w * n
    fits i n g = subst (λ (y : ℕ). y ≤ w * n) (mul-suc w i) (mul-le-mul_left w g)

written_end : (w : ℕ) (xs part : List ℕ) (i : ℕ) → Written w xs part i → i ≡ length xs → part ≡ words w xs
unfolding words
written_end w xs part i r e =
    let g : length xs ≤ i = omega arith in
    let d : drop i xs ≡ [] = drop_of_length-le xs g in
    let a : length part ≤ w * i = subst (λ (y : ℕ). length part ≤ w * y) (sym e) (omega (arith, r.len)) in
    sym (ap₂ (λ (p l : List ℕ). p ++ words w l) (take_all (w * i) part a) d ∙ append-nil part) ∙ r.done

-- ---- the sum of the stored lengths

-- end is the sum of i of them
pub record Summed (t : List Row) (n m q end i : ℕ) : Type 0 where
  pub most : i ≤ n
  pub small : n ≤ 681
  pub bound : end ≤ 256 * i
  pub is_sum : end ≡ sum (take i (row_lengths n t m q))

module _ (t : List Row) (n m q : ℕ) where
  pub summed_start : n ≤ 681 → Summed t n m q 0 0
  unfolding sum
  summed_start h = record { most = omega arith; small = h; bound = omega arith; is_sum = refl }

  pub summed_more : (end i r : ℕ) → Summed t n m q end i → i < n → r ≡ separator_length (row_key t i) - left_out m q i
      → r ≤ 256
      → Summed t n m q (end + r) (i + 1)
  summed_more end i r s h e b =
      let a : i + 1 ≡ suc i = omega arith in
      let l : i < length (row_lengths n t m q) = omega (arith, length-row_lengths n t m q) in
      record {
        most = omega arith;
        small = s.small;
        bound = omega (arith, s.bound);
        is_sum =
            ap₂ ◌+◌ s.is_sum (e ∙ sym (row_lengths_at n t m q i h)) ∙ sym (sum-take-suc i (row_lengths n t m q) l)
            ∙ sym (ap (λ (x : ℕ). sum (take x (row_lengths n t m q))) a);
      }

  -- what callers cite
  pub stored_sum_in : n ≤ 681 → stored_sum t n m q ≡ sum (row_lengths n t m q)
  unfolding stored_sum
  stored_sum_in h = rw (le-leb n 681 h)

  pub summed_many : 681 < n → 0 ≡ stored_sum t n m q
  unfolding stored_sum
  summed_many h = rw (lt-leb n 681 h)

  pub summed_end : (end i : ℕ) → Summed t n m q end i → n ≤ i → end ≡ stored_sum t n m q
  summed_end end i s h =
      s.is_sum ∙ ap sum (take_all i (row_lengths n t m q) (omega (arith, length-row_lengths n t m q)))
      ∙ sym (stored_sum_in s.small)

  pub summed_small : (end i : ℕ) → Summed t n m q end i → end ≤ 174336
  summed_small end i s = omega (arith, s.bound, s.most, s.small)

  -- ---- the end offsets

  abbrev ends : List ℕ
  ends = running 0 (row_lengths n t m q)

  length_ends : length ends ≡ n
  length_ends = length-running 0 (row_lengths n t m q) ∙ length-row_lengths n t m q

  pub offsets_start : (part : List ℕ) → length part ≡ 2 * n → Written 2 ends part 0
  offsets_start part e = written_start 2 ends part (omega (arith, length_ends))

  pub offsets_more : (part part' : List ℕ) (end i r : ℕ) → Summed t n m q end i → Written 2 ends part i → i < n
      → r ≡ separator_length (row_key t i) - left_out m q i
      → part' ≡ paste part (2 * i) (le 2 (end + r)) 2
      → Written 2 ends part' (i + 1)
  offsets_more part part' end i r s w h e p =
      let ls : List ℕ = row_lengths n t m q in
      let l : i < length ls = omega (arith, length-row_lengths n t m q) in
      let v : end + r ≡ sum (take (suc i) ls) =
      ap₂ ◌+◌ s.is_sum (e ∙ sym (row_lengths_at n t m q i h)) ∙ sym (sum-take-suc i ls l) in
      let x : end + r ≡ get_or (running 0 ls) i 0 = omega (arith, running_at 0 ls i l) in
      let a : suc i ≡ i + 1 = omega arith in
      subst (λ (j : ℕ). Written 2 (running 0 ls) part' j) a
      (written_more 2 (running 0 ls) part part' i (end + r) w (omega (arith, length_ends)) x p)

  pub offsets_room : (part : List ℕ) (i : ℕ) → Written 2 ends part i → i < n → 2 * i + 2 ≤ length part
  offsets_room part i w h = omega (arith, w.len, length_ends)

  -- what callers cite
  pub with_offsets_in : (part : List ℕ) → n ≤ 681 → length part ≡ 2 * n → with_offsets part t n m q ≡ words 2 ends
  unfolding with_offsets
  with_offsets_in part h e = rw (le-leb n 681 h, eq-eqb (length part) (2 * n) e)

  pub offsets_end : (part₀ part : List ℕ) (end i : ℕ) → Summed t n m q end i → Written 2 ends part i → n ≤ i
      → length part₀ ≡ 2 * n
      → part ≡ with_offsets part₀ t n m q
  offsets_end part₀ part end i s w h e =
      written_end 2 ends part i w (omega (arith, s.most, length_ends)) ∙ sym (with_offsets_in part₀ s.small e)

  pub offsets_many : (part : List ℕ) → 681 < n → part ≡ with_offsets part t n m q
  unfolding with_offsets
  offsets_many part h = rw (lt-leb n 681 h)

  pub offsets_other : (part : List ℕ) → n ≤ 681 → (length part ≡ 2 * n → ⊥) → part ≡ with_offsets part t n m q
  unfolding with_offsets
  offsets_other part h e = rw (le-leb n 681 h, ne_eqb (length part) (2 * n) e)

-- ---- the pointers

module _ (t : List Row) (n : ℕ) where
  pub pointers_start_lem : (part : List ℕ) → length part ≡ 4 * n → Written 4 (pointers (rows n t)) part 0
  pointers_start_lem part e = written_start 4 (pointers (rows n t)) part (omega (arith, length_row_pointers n t))

  pub pointers_more : (part part' : List ℕ) (i r : ℕ) → Written 4 (pointers (rows n t)) part i → i < n
      → r ≡ row_pointer t i
      → part' ≡ paste part (4 * i) (le 4 r) 4
      → Written 4 (pointers (rows n t)) part' (i + 1)
  pointers_more part part' i r w h e p =
      let l : i < length (pointers (rows n t)) = omega (arith, length_row_pointers n t) in
      let a : suc i ≡ i + 1 = omega arith in
      subst (λ (j : ℕ). Written 4 (pointers (rows n t)) part' j) a
      (written_more 4 (pointers (rows n t)) part part' i r w l (e ∙ sym (row_pointers_at n t i h)) p)

  pub pointers_room : (part : List ℕ) (i : ℕ) → Written 4 (pointers (rows n t)) part i → i < n
      → 4 * i + 4 ≤ length part
  pointers_room part i w h = omega (arith, w.len, length_row_pointers n t)

  -- what callers cite
  pub with_pointers_in : (part : List ℕ) → n ≤ 681 → length part ≡ 4 * n
      → with_pointers part t n ≡ words 4 (pointers (rows n t))
  unfolding with_pointers
  with_pointers_in part h e = rw (le-leb n 681 h, eq-eqb (length part) (4 * n) e)

  pub pointers-end : (part₀ part : List ℕ) (i : ℕ) → Written 4 (pointers (rows n t)) part i → i ≤ n → n ≤ 681 → n ≤ i
      → length part₀ ≡ 4 * n
      → part ≡ with_pointers part₀ t n
  pointers-end part₀ part i w g l h e =
      written_end 4 (pointers (rows n t)) part i w (omega (arith, length_row_pointers n t))
      ∙ sym (with_pointers_in part₀ l e)

  pub pointers_many : (part : List ℕ) → 681 < n → part ≡ with_pointers part t n
  unfolding with_pointers
  pointers_many part h = rw (lt-leb n 681 h)

  pub pointers_other : (part : List ℕ) → n ≤ 681 → (length part ≡ 4 * n → ⊥) → part ≡ with_pointers part t n
  unfolding with_pointers
  pointers_other part h e = rw (le-leb n 681 h, ne_eqb (length part) (4 * n) e)
