-- The normal page of entries: the choice of m and q with the fewest bits, and the bytes. Document 01, "The normal
-- page".
-- In order: sum keys pointers · shared_with shared_by_all Permitted · stored_lengths stored_bits bits_under · Choice
-- candidate best_up_to choice · first_key running words page_under normal_page · fits.
-- Assumes nothing.
use Rattle.std.specs.Prelude.{ℕ, zero, suc, ◌+◌, ◌-◌, ◌*◌, ◌≤◌, min, Bool, cond, List, [], ◌∷◌, ◌++◌, length, take, drop, leb}
use Rattle.format.specs.Bits.{pack, le}
use Rattle.format.specs.Key.{separator_length, shared_bits}
use Rattle.format.specs.Page.{Entry, body_bytes}

-- All of xs added.
unfoldable pub sum : List ℕ → ℕ
sum [] = 0
sum (x ∷ xs) = x + sum xs

-- The keys of entries.
unfoldable pub keys : List Entry → List (List ℕ)
keys [] = []
keys (e ∷ es) = e.key ∷ keys es

-- The pointers of entries.
unfoldable pub pointers : List Entry → List ℕ
pointers [] = []
pointers (e ∷ es) = e.pointer ∷ pointers es

-- The bits that k shares with each of ks; 256 where there are none.
unfoldable pub shared_with : List ℕ → List (List ℕ) → ℕ
unfolding shared_bits
shared_with k [] = 256
shared_with k (j ∷ ks) = min (shared_bits k j) (shared_with k ks)

-- The shared bits of all of ks; 256 for one key alone, and for none.
unfoldable pub shared_by_all : List (List ℕ) → ℕ
unfolding shared_with
shared_by_all [] = 256
shared_by_all (k ∷ ks) = shared_with k ks

-- A permitted choice: m from 1 to n, and q no more than the shared bits of the first m keys.
unfoldable pub Permitted : List (List ℕ) → ℕ → ℕ → Type 0
unfolding shared_by_all
Permitted ks m q = (1 ≤ m) × (m ≤ length ks) × (q ≤ shared_by_all (take m ks))

-- The stored length of each key: max(length - q, 0) below m, the whole length from m on.
unfoldable pub stored_lengths : ℕ → ℕ → List (List ℕ) → List ℕ
unfolding separator_length
stored_lengths m q [] = []
stored_lengths zero q (k ∷ ks) = separator_length k ∷ stored_lengths zero q ks
stored_lengths (suc m) q (k ∷ ks) = (separator_length k - q) ∷ stored_lengths m q ks

-- The stored bits of all keys, one key after the other: below m those behind the prefix, from m on all of them.
unfoldable pub stored_bits : ℕ → ℕ → List (List ℕ) → List ℕ
unfolding separator_length
stored_bits m q [] = []
stored_bits zero q (k ∷ ks) = take (separator_length k) k ++ stored_bits zero q ks
stored_bits (suc m) q (k ∷ ks) = take (separator_length k - q) (drop q k) ++ stored_bits m q ks

-- The bits of a choice: q plus all stored lengths.
unfoldable pub bits_under : List (List ℕ) → ℕ → ℕ → ℕ
unfolding sum stored_lengths
bits_under ks m q = q + sum (stored_lengths m q ks)

-- A choice, and the bits that it takes.
pub record Choice : Type 0 where
  pub m : ℕ
  pub q : ℕ
  pub bits : ℕ

-- The one candidate for m: q is 0 for m = 1, else all the shared bits of the first m keys.
unfoldable pub candidate : List (List ℕ) → ℕ → Choice
unfolding shared_by_all bits_under
candidate ks m =
    let q : ℕ = cond (leb m 1) 0 (shared_by_all (take m ks)) in
    record { m = m; q = q; bits = bits_under ks m q }

-- The candidate with the fewest bits among those for 1 to m + 1; ties go to the largest.
unfoldable pub best_up_to : List (List ℕ) → ℕ → Choice
unfolding candidate
best_up_to ks zero = candidate ks 1
best_up_to ks (suc m) =
    let a : Choice = best_up_to ks m in
    let b : Choice = candidate ks (suc (suc m)) in
    cond (leb b.bits a.bits) b a

-- The normal page's choice: the best of all candidates, 1 to n; of no keys, the candidate for 1.
unfoldable pub choice : List (List ℕ) → Choice
unfolding best_up_to
choice ks = best_up_to ks (length ks - 1)

-- The first of ks; no bits where there is none.
unfoldable pub first_key : List (List ℕ) → List ℕ
first_key [] = []
first_key (k ∷ ks) = k

-- Each of xs with a and all before it added: from 0, the end offsets of separators that are xs long.
unfoldable pub running : ℕ → List ℕ → List ℕ
running a [] = []
running a (x ∷ xs) = (a + x) ∷ running (a + x) xs

-- Each of xs as w bytes, little-endian.
unfoldable pub words : ℕ → List ℕ → List ℕ
unfolding le
words w [] = []
words w (x ∷ xs) = le w x ++ words w xs

-- The page that lays entries out under a choice of m and q, field by field as in `Page`, with zeros between the last
-- separator and the pointers.
unfoldable pub page_under : ℕ → List Entry → ℕ → ℕ → List ℕ
unfolding le words running stored_lengths stored_bits pack keys first_key pointers
page_under number es m q =
    le 4 number ++ le 2 (length es) ++ le 2 m ++ le 2 q
    ++ words 2 (running 0 (stored_lengths m q (keys es)))
    ++ pack (4086 - 6 * length es) (take q (first_key (keys es)) ++ stored_bits m q (keys es))
    ++ words 4 (pointers es)

-- The normal page: the one under `choice`.
unfoldable pub normal_page : ℕ → List Entry → List ℕ
unfolding page_under choice keys
normal_page number es = let c : Choice = choice (keys es) in page_under number es c.m c.q

-- The normal page has room: its body bytes are at most 4,086 (its bits have the prefix in them already).
unfoldable pub fits : List Entry → Bool
unfolding body_bytes choice keys
fits es = leb (body_bytes (length es) 0 (choice (keys es)).bits) 4086
