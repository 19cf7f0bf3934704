-- Laws of the choice in one pass (`specs/Choice.antt`).
-- In order: sums of lengths (`whole`); the pass over rows (`Choosing`), and its answer; that for ascending keys it is
-- the normal page's choice.
-- Not here: what the normal page's choice is (format's `ChoiceLaws`).
-- Assumes nothing.
use mathlib.Core.Bool.{Bool, true, false, cond, not}
use mathlib.Core.List.{List, [], ◌∷◌, ◌++◌, map}
use mathlib.Core.Path.{◌≡◌, refl, sym, ap, ap₂, subst, ◌∙◌}
use Prim.Native.Nat.{ℕ, suc, ◌+◌, ◌-◌, ◌*◌, ◌/◌, ◌≤◌, ◌<◌, min}
use native.Mathlib.Nat.{suc-mul}
use native.Mathlib.Numerals.{add-one}
use native.Mathlib.Omega.{arith}
use borrow.Author.Tests.{leb-true, leb-false, le-leb, lt-leb, not-true, not-false}
use lib.Dec.{leb}
use lib.ListN.{length, get_or, take, drop, drop_of_length-le}
use lib.Seq.{drop-cons, take-suc, take_all}
use Rattle.format.specs.Answer.{Answer, refuse, first, unless}
use Rattle.format.specs.Bits.{bytes_for}
use Rattle.format.specs.Key.{shared_bits, separator_length}
use Rattle.format.specs.Normal.{Choice, sum, candidate, best_up_to, choice, first_key, keys, fits}
use Rattle.format.specs.Page.{Entry, body_bytes}
use Rattle.facts.proofs.ChoiceLaws.{candidate_m, candidate-one, candidate-shared, candidate-sum}
use Rattle.facts.proofs.EntryLaws.{Ascending, first_key_at, keys_at, length-keys}
use Rattle.keys.specs.declared.Key.{Key}
use Rattle.keys.specs.Keys.{key_bits}
use Rattle.rows.specs.Rows.{row_key, row_entry, rows}
use Rattle.rows.specs.declared.table.Row.{Row}
use Rattle.rows.proofs.RowsLaws.{length-rows, rows_at}
use Rattle.branch_ops.specs.declared.choice.Saving.{Saving}
use Rattle.branch_ops.specs.Choice.{whole, better, saving_at, saving_from, one_pass, chosen_of}

-- ---- sums of lengths

sum-append : (xs ys : List ℕ) → sum (xs ++ ys) ≡ sum xs + sum ys
unfolding sum
sum-append [] ys = omega arith
sum-append (x ∷ xs) ys = omega (arith, sum-append xs ys)

map-append : (f : List ℕ → ℕ) (xs ys : List (List ℕ)) → map f (xs ++ ys) ≡ map f xs ++ map f ys
map-append f [] ys = refl
map-append f (x ∷ xs) ys = ap (λ (l : List ℕ). f x ∷ l) (map-append f xs ys)

whole_more : (ks : List (List ℕ)) (i : ℕ) → i < length ks
    → whole (take (i + 1) ks) ≡ whole (take i ks) + separator_length (get_or ks i [])
unfolding whole sum
whole_more ks i h =
    ap (λ (k : ℕ). sum (map separator_length (take k ks))) (add-one i)
    ∙ ap (λ (l : List (List ℕ)). sum (map separator_length l)) (take-suc ks i [] h)
    ∙ ap sum (map-append separator_length (take i ks) (get_or ks i [] ∷ []))
    ∙ sum-append (map separator_length (take i ks)) (separator_length (get_or ks i []) ∷ [])
    ∙ omega arith

whole-none : whole [] ≡ 0
unfolding whole sum
whole-none = refl

-- ---- the pass over rows

-- what the pass over all of ks finds
abbrev saving_of : List (List ℕ) → Saving
saving_of ks = saving_from (first_key ks) 1 (record { m = 1; q = 0; bits = 0 }) (drop 1 ks)

-- i keys are behind the pass: their lengths are total, and c is the best so far
pub record Choosing (ks : List (List ℕ)) (i total : ℕ) (c : Saving) : Type 0 where
  pub total_is : total ≡ whole (take i ks)
  pub same : saving_of ks ≡ saving_from (first_key ks) i c (drop i ks)

saving_at_is : (first k : List ℕ) (i q g len : ℕ) → q ≡ shared_bits first k → len ≡ separator_length first
    → g ≡ (i - 1) * q + min len q
    → record { m = i + 1; q = q; bits = g } ≡ saving_at first i k
unfolding saving_at
saving_at_is first k i q g len eq el eg = rw (eg, eq, el)

saving_from-nil : (first : List ℕ) (i : ℕ) (c : Saving) → saving_from first i c [] ≡ c
unfolding saving_from
saving_from-nil first i c = refl

saving_from-cons : (first : List ℕ) (i : ℕ) (c : Saving) (k : List ℕ) (ks : List (List ℕ))
    → saving_from first i c (k ∷ ks) ≡ saving_from first (i + 1) (better c (saving_at first i k)) ks
unfolding saving_from
saving_from-cons first i c k ks = refl

one_pass_saving : (ks : List (List ℕ)) → one_pass ks
    ≡ record { m = (saving_of ks).m; q = (saving_of ks).q; bits = whole ks - (saving_of ks).bits }
unfolding one_pass
one_pass_saving ks = refl

-- a choice c for n keys, or refusal 14
given : ℕ → Choice → Answer Choice
given n c = unless (first (refuse 14 (not (leb (body_bytes n 0 c.bits) 4086)) ∷ [])) c

chosen_of_given : (ks : List (List ℕ)) (c : Choice) → one_pass ks ≡ c → chosen_of ks ≡ given (length ks) c
unfolding chosen_of given
chosen_of_given ks c e =
    ap (λ (x : Choice). unless (first (refuse 14 (not (leb (body_bytes (length ks) 0 x.bits) 4086)) ∷ [])) x) e

given_taken : (n : ℕ) (c : Choice) → body_bytes n 0 c.bits ≤ 4086 → given n c ≡ Answer.Value c
unfolding given first unless
given_taken n c h = rw (le-leb (body_bytes n 0 c.bits) 4086 h)

given_refused : (n : ℕ) (c : Choice) → 4086 < body_bytes n 0 c.bits → given n c ≡ Answer.Refused 14
unfolding given first unless
given_refused n c h = rw (lt-leb (body_bytes n 0 c.bits) 4086 h)

given_fits : (es : List Entry)
    → given (length es) (choice (keys es)) ≡ unless (first (refuse 14 (not (fits es)) ∷ [])) (choice (keys es))
unfolding given fits
given_fits es = refl

body_of : (n b : ℕ) → body_bytes n 0 b ≡ 6 * n + (b + 7) / 8
unfolding body_bytes bytes_for
body_of n b = omega arith

chosen_of-nil : Answer.Value (record { m = 1; q = 0; bits = 0 }) ≡ chosen_of []
unfolding chosen_of
chosen_of-nil = refl

module _ (t : List Row) (n : ℕ) where
  length_row_keys : length (keys (rows n t)) ≡ n
  length_row_keys = length-keys (rows n t) ∙ length-rows n t

  row_key_lem : (i : ℕ) → i < n → get_or (keys (rows n t)) i [] ≡ row_key t i
  unfolding row_entry
  row_key_lem i h =
      let d : Entry = record { key = []; pointer = 0 } in
      keys_at (rows n t) i d (omega (arith, length-rows n t)) ∙ ap (λ (e : Entry). e.key) (rows_at n t i d h)

  module _ (z : n ≡ 0 → ⊥) (k0 : Key) (len : ℕ) (e0 : key_bits k0 ≡ row_key t 0)
      (el : len ≡ separator_length (key_bits k0)) where
    first_is : first_key (keys (rows n t)) ≡ key_bits k0
    first_is = let p : 0 < n = omega arith in first_key_at (keys (rows n t)) ∙ row_key_lem 0 p ∙ sym e0

    pub choosing_start : Choosing (keys (rows n t)) 1 len (record { m = 1; q = 0; bits = 0 })
    choosing_start =
        let ks : List (List ℕ) = keys (rows n t) in
        let p : 0 < length ks = omega (arith, length_row_keys) in
        let f : get_or ks 0 [] ≡ key_bits k0 = sym (first_key_at ks) ∙ first_is in
        record { total_is = omega (arith, whole_more ks 0 p, whole-none, ap separator_length f); same = refl }

    pub choosing_next : (i total l q g : ℕ) (k : Key) (c d : Saving) → Choosing (keys (rows n t)) i total c → i < n
        → key_bits k ≡ row_key t i → l ≡ separator_length (key_bits k) → q ≡ shared_bits (key_bits k0) (key_bits k)
        → g ≡ (i - 1) * q + min len q → d ≡ better c (record { m = i + 1; q = q; bits = g })
        → Choosing (keys (rows n t)) (i + 1) (total + l) d
    choosing_next i total l q g k c d s h ek es eq eg ed =
        let ks : List (List ℕ) = keys (rows n t) in
        let p : i < length ks = omega (arith, length_row_keys) in
        let ki : get_or ks i [] ≡ key_bits k = row_key_lem i h ∙ sym ek in
        let b : saving_at (first_key ks) i (get_or ks i []) ≡ record { m = i + 1; q = q; bits = g } =
        ap₂ (λ (x y : List ℕ). saving_at x i y) first_is ki
        ∙ sym (saving_at_is (key_bits k0) (key_bits k) i q g len eq el eg) in
        record {
          total_is = omega (arith, whole_more ks i p, s.total_is, ap separator_length ki);
          same =
              s.same ∙ ap (saving_from (first_key ks) i c) (drop-cons ks i [] p)
              ∙ saving_from-cons (first_key ks) i c (get_or ks i []) (drop (suc i) ks)
              ∙ ap₂ (λ (x : Saving) (j : ℕ). saving_from (first_key ks) (i + 1) (better c x) (drop j ks)) b
              (sym (add-one i))
              ∙ ap (λ (x : Saving). saving_from (first_key ks) (i + 1) x (drop (i + 1) ks)) (sym ed);
        }

  one_pass-end : (i total : ℕ) (c : Saving) → Choosing (keys (rows n t)) i total c → i ≤ n → n ≤ i
      → one_pass (keys (rows n t)) ≡ record { m = c.m; q = c.q; bits = total - c.bits }
  one_pass-end i total c s h l =
      let ks : List (List ℕ) = keys (rows n t) in
      let w : total ≡ whole ks = s.total_is ∙ ap whole (take_all i ks (omega (arith, length_row_keys))) in
      let f : saving_of ks ≡ c =
      s.same ∙ ap (saving_from (first_key ks) i c) (drop_of_length-le ks {i = i} (omega (arith, length_row_keys)))
      ∙ saving_from-nil (first_key ks) i c in
      one_pass_saving ks ∙ ap₂ (λ (x : Saving) (y : ℕ). record { m = x.m; q = x.q; bits = y - x.bits }) f (sym w)

  module _ (i total b : ℕ) (c : Saving) (s : Choosing (keys (rows n t)) i total c) (h : i ≤ n) (l : n ≤ i)
      (eb : b ≡ total - c.bits) where
    end_is : one_pass (keys (rows n t)) ≡ record { m = c.m; q = c.q; bits = b }
    end_is =
        one_pass-end i total c s h l
        ∙ ap (λ (x : ℕ). record { m = c.m; q = c.q; bits = x }) (sym eb)

    module _ (r : Bool) (er : r ≡ leb (body_bytes n 0 b) 4086) where
      body_is : r ≡ leb (body_bytes (length (keys (rows n t))) 0 b) 4086
      body_is = er ∙ ap (λ (x : ℕ). leb (body_bytes x 0 b) 4086) (sym length_row_keys)

      pub end_taken : not r ≡ false → Answer.Value (record { m = c.m; q = c.q; bits = b }) ≡ chosen_of (keys (rows n t))
      end_taken f =
          sym (chosen_of_given (keys (rows n t)) (record { m = c.m; q = c.q; bits = b }) end_is
          ∙ given_taken (length (keys (rows n t))) (record { m = c.m; q = c.q; bits = b })
          (leb-true (body_bytes (length (keys (rows n t))) 0 b) 4086 (sym body_is ∙ not-false r f)))

      pub end_refused : not r ≡ true → Answer.Refused 14 ≡ chosen_of (keys (rows n t))
      end_refused f =
          sym (chosen_of_given (keys (rows n t)) (record { m = c.m; q = c.q; bits = b }) end_is
          ∙ given_refused (length (keys (rows n t))) (record { m = c.m; q = c.q; bits = b })
          (leb-false (body_bytes (length (keys (rows n t))) 0 b) 4086 (sym body_is ∙ not-true r f)))

  pub too_many : 681 < n → Answer.Refused 14 ≡ chosen_of (keys (rows n t))
  too_many h =
      sym (chosen_of_given (keys (rows n t)) (one_pass (keys (rows n t))) refl
      ∙ given_refused (length (keys (rows n t))) (one_pass (keys (rows n t)))
      (omega (arith, body_of (length (keys (rows n t))) (one_pass (keys (rows n t))).bits, length_row_keys)))

  pub no_rows : n ≡ 0 → Answer.Value (record { m = 1; q = 0; bits = 0 }) ≡ chosen_of (keys (rows n t))
  no_rows e =
      let z : keys (rows n t) ≡ [] = nothing (keys (rows n t)) (length_row_keys ∙ e) in
      chosen_of-nil ∙ ap chosen_of (sym z)
    where
      nothing : (ks : List (List ℕ)) → length ks ≡ 0 → ks ≡ []
      nothing [] q = refl
      nothing (k ∷ ks) q = absurd (omega arith)

-- ---- the better of two choices

pub better_second : (c d : Saving) → c.bits ≤ d.bits → d ≡ better c d
unfolding better
better_second c d h = rw (le-leb c.bits d.bits h)

pub better-first : (c d : Saving) → d.bits < c.bits → c ≡ better c d
unfolding better
better-first c d h = rw (lt-leb c.bits d.bits h)

-- ---- for ascending keys it is the normal page's

-- the choice that saves so much
abbrev under : List (List ℕ) → Saving → Choice
under ks c = record { m = c.m; q = c.q; bits = whole ks - c.bits }

choice_same : (a b : Choice) → a.m ≡ b.m → a.q ≡ b.q → a.bits ≡ b.bits → a ≡ b
choice_same a b em eq eb = made a.m b.m a.q b.q a.bits b.bits em eq eb
  where
    made : (m n q r b c : ℕ) → m ≡ n → q ≡ r → b ≡ c
        → ◌≡◌ {A = Choice} (record { m = m; q = q; bits = b }) (record { m = n; q = r; bits = c })
    made m n q r b c em eq eb = rw (em, eq, eb)

best_up_to-suc : (ks : List (List ℕ)) (j : ℕ) (x y : Choice) → candidate ks (suc (suc j)) ≡ x → best_up_to ks j ≡ y
    → best_up_to ks (suc j) ≡ cond (leb x.bits y.bits) x y
unfolding best_up_to
best_up_to-suc ks j x y ex ey = ap₂ (λ (b a : Choice). cond (leb b.bits a.bits) b a) ex ey

under_better : (ks : List (List ℕ)) (c d : Saving) → c.bits ≤ whole ks → d.bits ≤ whole ks
    → cond (leb (under ks d).bits (under ks c).bits) (under ks d) (under ks c) ≡ under ks (better c d)
under_better ks c d hc hd = go (leb c.bits d.bits) refl
  where
    go : (t : Bool) → leb c.bits d.bits ≡ t
        → cond (leb (whole ks - d.bits) (whole ks - c.bits)) (under ks d) (under ks c) ≡ under ks (better c d)
    go true e =
        let l : whole ks - d.bits ≤ whole ks - c.bits = omega (arith, leb-true c.bits d.bits e) in
        rw (le-leb (whole ks - d.bits) (whole ks - c.bits) l)
        (ap (under ks) (better_second c d (leb-true c.bits d.bits e)))
    go false e =
        let l : whole ks - c.bits < whole ks - d.bits = omega (arith, leb-false c.bits d.bits e) in
        rw (lt-leb (whole ks - d.bits) (whole ks - c.bits) l)
        (ap (under ks) (better-first c d (leb-false c.bits d.bits e)))

better_most : (c d : Saving) (n : ℕ) → c.bits ≤ n → d.bits ≤ n → (better c d).bits ≤ n
unfolding better
better_most c d n hc hd = go (leb c.bits d.bits)
  where
    go : (t : Bool) → (cond t d c).bits ≤ n
    go true = hd
    go false = hc

-- a candidate, from what it saves
module _ (ks : List (List ℕ)) (a : Ascending ks) (i : ℕ) (h : i < length ks) (one : 1 ≤ i) where
  abbrev d : Saving
  d = saving_at (get_or ks 0 []) i (get_or ks i [])

  is_q : (candidate ks (suc i)).q ≡ d.q
  unfolding saving_at
  is_q = candidate-shared ks a i h one

  counted : (candidate ks (suc i)).bits + d.bits ≡ whole ks
  unfolding whole saving_at
  counted =
      let q : ℕ = shared_bits (get_or ks 0 []) (get_or ks i []) in
      let f : ℕ = separator_length (get_or ks 0 []) in
      let s : (candidate ks (suc i)).bits + min f q + i * q ≡ sum (map separator_length ks) + q =
      subst (λ (x : ℕ). (candidate ks (suc i)).bits + min f x + i * x ≡ sum (map separator_length ks) + x)
      (candidate-shared ks a i h one) (candidate-sum ks a i h) in
      let e : i ≡ suc (i - 1) = omega arith in
      let p : i * q ≡ (i - 1) * q + q = ap (λ (x : ℕ). x * q) e ∙ suc-mul (i - 1) q in
      regroup (candidate ks (suc i)).bits (min f q) (i * q) ((i - 1) * q) q (sum (map separator_length ks)) s p
    where
      regroup : (b f m n q w : ℕ) → b + f + m ≡ w + q → m ≡ n + q → b + (n + f) ≡ w
      regroup b f m n q w s p = omega arith

  is_candidate : candidate ks (suc i) ≡ under ks d
  unfolding saving_at
  is_candidate =
      choice_same (candidate ks (suc i)) (under ks d) (candidate_m ks (suc i) ∙ sym (add-one i)) is_q
      (omega (arith, counted))

  next_best : (c : Saving) → c.bits ≤ whole ks → best_up_to ks (i - 1) ≡ under ks c
      → best_up_to ks ((i + 1) - 1) ≡ under ks (better c d)
  next_best c r b =
      let e : (i + 1) - 1 ≡ suc (i - 1) = omega arith in
      let f : suc (suc (i - 1)) ≡ suc i = omega arith in
      ap (best_up_to ks) e ∙ best_up_to-suc ks (i - 1) (under ks d) (under ks c) (ap (candidate ks) f ∙ is_candidate) b
      ∙ under_better ks c d r (omega (arith, counted))

  next_most : (c : Saving) → c.bits ≤ whole ks → (better c d).bits ≤ whole ks
  next_most c r = better_most c d (whole ks) r (omega (arith, counted))

-- the pass from the i-th key on
choice_from : (ks : List (List ℕ)) (a : Ascending ks) (rest : List (List ℕ)) (i : ℕ) (c : Saving) → 1 ≤ i
    → drop i ks ≡ rest
    → i + length rest ≡ length ks → c.bits ≤ whole ks → best_up_to ks (i - 1) ≡ under ks c
    → best_up_to ks (length ks - 1) ≡ under ks (saving_from (get_or ks 0 []) i c rest)
choice_from ks a [] i c one e l r b =
    let q : length ks - 1 ≡ i - 1 = omega arith in
    ap (best_up_to ks) q ∙ b ∙ ap (under ks) (sym (saving_from-nil (get_or ks 0 []) i c))
choice_from ks a (k ∷ rest) i c one e l r b =
    let h : i < length ks = omega arith in
    let s : get_or ks i [] ∷ drop (suc i) ks ≡ k ∷ rest = sym (drop-cons ks i [] h) ∙ e in
    let ek : get_or ks i [] ≡ k = cc in
    let er : drop (suc i) ks ≡ rest = cc in
    let o : 1 ≤ i + 1 = omega arith in
    let x : Saving = saving_at (get_or ks 0 []) i (get_or ks i []) in
    choice_from ks a rest (i + 1) (better c x) o (ap (λ (j : ℕ). drop j ks) (add-one i) ∙ er) (omega arith)
    (next_most ks a i h one c r) (next_best ks a i h one c r b)
    ∙ ap (λ (y : List ℕ). under ks (saving_from (get_or ks 0 []) (i + 1) (better c (saving_at (get_or ks 0 []) i y)) rest)) ek
    ∙ ap (under ks) (sym (saving_from-cons (get_or ks 0 []) i c k rest))

choice-nil : one_pass [] ≡ choice []
unfolding one_pass choice
choice-nil = refl

-- the pass finds the normal page's choice
module _ (k : List ℕ) (rest : List (List ℕ)) where
  first-bits : Ascending (k ∷ rest) → (candidate (k ∷ rest) 1).bits ≡ whole (k ∷ rest) - 0
  unfolding whole
  first-bits a =
      let p : 0 < length (k ∷ rest) = omega arith in
      omega (arith, candidate-sum (k ∷ rest) a 0 p, candidate-one (k ∷ rest))

  choice-last : choice (k ∷ rest) ≡ best_up_to (k ∷ rest) (length (k ∷ rest) - 1)
  unfolding choice
  choice-last = refl

  best_up_to-one : best_up_to (k ∷ rest) (1 - 1) ≡ candidate (k ∷ rest) 1
  unfolding best_up_to
  best_up_to-one = refl

  one_pass-cons : one_pass (k ∷ rest) ≡ under (k ∷ rest) (saving_from k 1 (record { m = 1; q = 0; bits = 0 }) rest)
  unfolding one_pass first_key
  one_pass-cons = refl

pub one_pass-choice : (ks : List (List ℕ)) → Ascending ks → one_pass ks ≡ choice ks
one_pass-choice [] a = choice-nil
one_pass-choice (k ∷ rest) a =
    let ks : List (List ℕ) = k ∷ rest in
    let z : Saving = record { m = 1; q = 0; bits = 0 } in
    let s : candidate ks 1 ≡ under ks z =
    choice_same (candidate ks 1) (under ks z) (candidate_m ks 1) (candidate-one ks) (first-bits k rest a) in
    let l : 1 + length rest ≡ length ks = omega arith in
    one_pass-cons k rest
    ∙ sym (choice-last k rest ∙ choice_from ks a rest 1 z (omega arith) refl l (omega arith) (best_up_to-one k rest ∙ s))

-- and so its answer is the normal page's choice, refused with 14 exactly where the page has no room
pub chosen_of_normal : (es : List Entry) → Ascending (keys es)
    → chosen_of (keys es) ≡ unless (first (refuse 14 (not (fits es)) ∷ [])) (choice (keys es))
chosen_of_normal es a =
    chosen_of_given (keys es) (choice (keys es)) (one_pass-choice (keys es) a)
    ∙ ap (λ (n : ℕ). given n (choice (keys es))) (length-keys es) ∙ given_fits es
