-- Laws of any page, accepted or not (format's `specs/Page.antt`).
-- In order: entries by position; the keys that a page holds, and how long they are; pointers and the page number, of
-- a page of bytes; sound entries.
-- Not here: a page that none of 1 to 8 refuses (`AcceptedLaws`); a page that was laid out (`NormalLaws`).
-- Assumes nothing.
use mathlib.Core.Bool.{Bool, cond, false, true}
use mathlib.Core.List.{◌++◌, List, []}
use mathlib.Core.Path.{ap, refl, ◌∙◌, ◌≡◌}
use Prim.Native.Nat.{◌*◌, ◌+◌, ◌-◌, ◌<◌, ◌^◌, suc, ℕ, ◌≤◌}
use native.Mathlib.Nat.{le_trans, pow-le-pow_right, zero-lt-suc}
use native.Mathlib.Omega.{arith}
use native.Mathlib.Decide.{dec_lt}
use borrow.Author.Tests.{le-ltb, lt-ltb}
use lib.Dec.{ltb}
use lib.ListN.{get_or-eq_default, drop, get_or, length, length-append, length-drop, length-take, take}
use Rattle.format.specs.Bits.{AllBelow, fill}
use Rattle.format.specs.Key.{IsKey, separator_length}
use Rattle.format.specs.Page.{Entry, Sound, body, compressed, count, each, end_of, entries, entry_bits, entry_of, key_of, page_number, pointer_of, pointers_start, prefix_length, prefix_of, separator_of, start_of, stored_length}
use Rattle.format.specs.Normal.{keys}
use Rattle.facts.proofs.BitsLaws.{AllBelow-append, AllBelow-bits_of, AllBelow-drop, AllBelow-fill, AllBelow-take, get_or-fill, length-bits_of, length-fill, unle-lt}
use Rattle.facts.proofs.KeyLaws.{separator_length-least}
use Rattle.facts.proofs.EntryLaws.{get_or-each, keys-each, length-each, length-keys, sound_each}

-- ---- entries by position

pub keys-entries : (p : List ℕ) → keys (entries p) ≡ each (count p) (key_of p)
unfolding entries entry_of
keys-entries p = keys-each (count p) (entry_of p)

pub length-entries : (p : List ℕ) → length (entries p) ≡ count p
unfolding entries
length-entries p = length-each (count p) (entry_of p)

pub length-keys-entries : (p : List ℕ) → length (keys (entries p)) ≡ count p
length-keys-entries p = length-keys (entries p) ∙ length-entries p

pub get_or-keys-entries : (p : List ℕ) (i : ℕ) → i < count p → get_or (keys (entries p)) i [] ≡ key_of p i
get_or-keys-entries p i h = ap (λ (ks : List (List ℕ)). get_or ks i []) (keys-entries p) ∙ get_or-each (count p) (key_of p) i [] h

pub entries_at : (p : List ℕ) (i : ℕ) (d : Entry) → i < count p → get_or (entries p) i d ≡ entry_of p i
unfolding entries
entries_at p i d h = get_or-each (count p) (entry_of p) i d h

-- ---- keys

AllBelow-body : (p : List ℕ) → AllBelow 2 (body p)
unfolding body
AllBelow-body p = AllBelow-bits_of (drop (10 + 2 * count p) p)

AllBelow-prefix_of : (p : List ℕ) (i : ℕ) → AllBelow 2 (prefix_of p i)
unfolding prefix_of AllBelow
AllBelow-prefix_of p i = go (ltb i (compressed p))
  where
    go : (t : Bool) → AllBelow 2 (cond t (take (prefix_length p) (body p)) [])
    go true = AllBelow-take 2 (prefix_length p) (body p) (AllBelow-body p)
    go false = tt

AllBelow-separator_of : (p : List ℕ) (i : ℕ) → AllBelow 2 (separator_of p i)
unfolding separator_of
AllBelow-separator_of p i =
    AllBelow-take 2 (stored_length p i) (drop (prefix_length p + start_of p i) (body p))
    (AllBelow-drop 2 (prefix_length p + start_of p i) (body p) (AllBelow-body p))

pub key_of-key : (p : List ℕ) (i : ℕ) → IsKey (key_of p i)
unfolding key_of
key_of-key p i = record {
  size = length-fill 256 (prefix_of p i ++ separator_of p i);
  bits =
      AllBelow-fill 2 256 (prefix_of p i ++ separator_of p i) (omega arith)
      (AllBelow-append 2 (prefix_of p i) (separator_of p i) (AllBelow-prefix_of p i) (AllBelow-separator_of p i));
}

prefix_of_bound : (p : List ℕ) (i : ℕ) → length (prefix_of p i) ≤ cond (ltb i (compressed p)) (prefix_length p) 0
unfolding prefix_of
prefix_of_bound p i = go (ltb i (compressed p))
  where
    go : (t : Bool) → length (cond t (take (prefix_length p) (body p)) []) ≤ cond t (prefix_length p) 0
    go true = omega (arith, length-take (prefix_length p) (body p))
    go false = omega arith

separator_of_bound : (p : List ℕ) (i : ℕ) → length (separator_of p i) ≤ stored_length p i
unfolding separator_of
separator_of_bound p i = omega (arith, length-take (stored_length p i) (drop (prefix_length p + start_of p i) (body p)))

entry_bits_is : (p : List ℕ) (i : ℕ) → entry_bits p i ≡ cond (ltb i (compressed p)) (prefix_length p) 0 + stored_length p i
unfolding entry_bits
entry_bits_is p i = refl

pub entry_bits-compressed : (p : List ℕ) (i : ℕ) → i < compressed p → entry_bits p i ≡ prefix_length p + stored_length p i
entry_bits-compressed p i h =
    entry_bits_is p i ∙ ap (λ (t : Bool). cond t (prefix_length p) 0 + stored_length p i) (lt-ltb i (compressed p) h)

pub entry_bits_plain : (p : List ℕ) (i : ℕ) → compressed p ≤ i → entry_bits p i ≡ stored_length p i
entry_bits_plain p i h =
    let z : 0 + stored_length p i ≡ stored_length p i = omega arith in
    entry_bits_is p i ∙ ap (λ (t : Bool). cond t (prefix_length p) 0 + stored_length p i) (le-ltb i (compressed p) h) ∙ z

entry_bits-holds : (p : List ℕ) (i : ℕ) → length (prefix_of p i ++ separator_of p i) ≤ entry_bits p i
entry_bits-holds p i =
    omega (arith, length-append (prefix_of p i) (separator_of p i), prefix_of_bound p i, separator_of_bound p i, entry_bits_is p i)

-- from there on the key's bits are zero
pub key_of-zero : (p : List ℕ) (i j : ℕ) → entry_bits p i ≤ j → get_or (key_of p i) j 0 ≡ 0
unfolding key_of
key_of-zero p i j h = go (dec_lt j 256)
  where
    bs : List ℕ
    bs = prefix_of p i ++ separator_of p i

    go : Dec (j < 256) → get_or (fill 256 bs) j 0 ≡ 0
    go (yes l) = get_or-fill 256 bs j l ∙ get_or-eq_default bs 0 {n = j} (omega (arith, entry_bits-holds p i))
    go (no l) = get_or-eq_default (fill 256 bs) 0 {n = j} (omega (arith, length-fill 256 bs))

-- so an entry has no fewer bits than its key's separator
pub entry_bits_enough : (p : List ℕ) (i : ℕ) → 1 ≤ entry_bits p i → separator_length (key_of p i) ≤ entry_bits p i
entry_bits_enough p i h = separator_length-least (key_of p i) (entry_bits p i) h (key_of-key p i).bits (λ j l. key_of-zero p i j l)

-- ---- the body

pub length-body : (p : List ℕ) → length (body p) ≡ 8 * (length p - (10 + 2 * count p))
unfolding body
length-body p = length-bits_of (drop (10 + 2 * count p) p) ∙ ap (λ (n : ℕ). 8 * n) (length-drop (10 + 2 * count p) p)

pub start_of-zero : (p : List ℕ) → start_of p 0 ≡ 0
unfolding start_of
start_of-zero p = refl

pub start_of-suc : (p : List ℕ) (i : ℕ) → start_of p (suc i) ≡ end_of p i
unfolding start_of
start_of-suc p i = refl

pub stored_length_is : (p : List ℕ) (i : ℕ) → stored_length p i ≡ start_of p (suc i) - start_of p i
unfolding stored_length
stored_length_is p i = refl

pub prefix_of-compressed : (p : List ℕ) (i : ℕ) → i < compressed p → prefix_of p i ≡ take (prefix_length p) (body p)
unfolding prefix_of
prefix_of-compressed p i h = rw (lt-ltb i (compressed p) h)

pub prefix_of_plain : (p : List ℕ) (i : ℕ) → compressed p ≤ i → prefix_of p i ≡ []
unfolding prefix_of
prefix_of_plain p i h = rw (le-ltb i (compressed p) h)

-- ---- pointers, page number, sound entries

pub pointer_of_bound : (p : List ℕ) (i : ℕ) → AllBelow 256 p → pointer_of p i < 2 ^ 32
unfolding pointer_of
pointer_of_bound p i b =
    let k : ℕ = pointers_start (count p) + 4 * i in
    let l : length (take 4 (drop k p)) ≤ 4 = omega (arith, length-take 4 (drop k p)) in
    let w : 256 ^ length (take 4 (drop k p)) ≤ 256 ^ 4 = pow-le-pow_right (zero-lt-suc 255) l in
    le_trans (unle-lt (take 4 (drop k p)) (AllBelow-take 256 4 (drop k p) (AllBelow-drop 256 k p b))) w

pub page_number_bound : (p : List ℕ) → AllBelow 256 p → page_number p < 2 ^ 32
unfolding page_number
page_number_bound p b =
    let l : length (take 4 p) ≤ 4 = omega (arith, length-take 4 p) in
    le_trans (unle-lt (take 4 p) (AllBelow-take 256 4 p b)) (pow-le-pow_right (zero-lt-suc 255) l)

pub entries_sound : (p : List ℕ) → AllBelow 256 p → Sound (entries p)
unfolding entries entry_of
entries_sound p b = sound_each (count p) (entry_of p) (λ i. key_of-key p i) (λ i. pointer_of_bound p i b)
