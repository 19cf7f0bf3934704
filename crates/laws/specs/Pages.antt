-- What is promised of pages and of the choice of m and q.
--      1  ReadBack CheckedBack                          a normal page reads back
--      2  Fewest Tie PermittedChoice                    the choice of m and q
--      3  Room                                          when there is none
--      4  LaterLonger SumFormula StoredFromWhole WholeFromStored    lengths below the prefix, and sums
--      5  BaseFits BaseBits                             what an accepted page holds
-- Assumes nothing.
use Rattle.std.specs.Prelude.{true, false, List, [], ◌∷◌, map, ◌↔◌, ◌≡◌, ℕ, suc, ◌+◌, ◌*◌, ◌^◌, ◌≤◌, ◌<◌, min, length, get_or}
use Rattle.format.specs.Bits.{AllBelow}
use Rattle.format.specs.Key.{separator_length}
use Rattle.format.specs.Answer.{Answer}
use Rattle.format.specs.Page.{Entry, Sound, page_number, count, prefix_length, start_of, entries, body_bytes, page_refusal, check_page, read_entry}
use Rattle.format.specs.Sizes.{whole_from_stored, stored_from_whole}
use Rattle.format.specs.Normal.{sum, Permitted, stored_lengths, bits_under, candidate, choice, keys, normal_page, fits}
use Rattle.format.specs.Edit.{no_entry, ascending}

-- ---- 1. Reading back

-- At least one entry, keys of 256 bits and pointers of 32, in strictly ascending order.
pub record Rising (es : List Entry) : Type 0 where
  pub one : 1 ≤ length es
  pub sound : Sound es
  pub rises : ascending es ≡ true

-- A page that reads as a page number and entries: it has 4,096 bytes, none of 1 to 8 refuses it, and every index
-- answers its entry.
pub record ReadsAs (p : List ℕ) (number : ℕ) (es : List Entry) : Type 0 where
  pub size : length p ≡ 4096
  pub bytes : AllBelow 256 p
  pub accepted : page_refusal p ≡ 0
  pub has_number : page_number p ≡ number
  pub all : entries p ≡ es
  pub each : (i : ℕ) → i < length es → read_entry p i ≡ Answer.Value (get_or es i no_entry)
  pub past : (i : ℕ) → length es ≤ i → read_entry p i ≡ Answer.Refused 16

-- The normal page of entries that fit reads as them.
abbrev pub ReadBack : Type 0
ReadBack = (number : ℕ) (es : List Entry) → number < 2 ^ 32 → Rising es → fits es ≡ true
    → ReadsAs (normal_page number es) number es

-- A check of the normal page answers the m, q and bits of the choice.
abbrev pub CheckedBack : Type 0
CheckedBack = (number : ℕ) (es : List Entry) → number < 2 ^ 32 → Rising es → fits es ≡ true
    → check_page (normal_page number es)
    ≡ Answer.Value (record {
      number = number;
      n = length es;
      m = (choice (keys es)).m;
      q = (choice (keys es)).q;
      bits = (choice (keys es)).bits;
    })

-- ---- 2. The choice

-- No permitted choice has fewer bits than the normal page's.
abbrev pub Fewest : Type 0
Fewest = (es : List Entry) → Rising es → (m q : ℕ) → Permitted (keys es) m q
    → (choice (keys es)).bits ≤ bits_under (keys es) m q

-- The choice is a candidate, no candidate has fewer bits, and each with a larger m has more: ties go to the largest
-- m.
abbrev pub Tie : Type 0
Tie = (ks : List (List ℕ)) → 1 ≤ length ks
    → (choice ks ≡ candidate ks (choice ks).m)
    × ((m : ℕ) → 1 ≤ m → m ≤ length ks → (choice ks).bits ≤ (candidate ks m).bits)
    × ((m : ℕ) → (choice ks).m < m → m ≤ length ks → (choice ks).bits < (candidate ks m).bits)

-- The choice is permitted, and has the bits that it says.
abbrev pub PermittedChoice : Type 0
PermittedChoice = (ks : List (List ℕ)) → 1 ≤ length ks
    → Permitted ks (choice ks).m (choice ks).q × ((choice ks).bits ≡ bits_under ks (choice ks).m (choice ks).q)

-- ---- 3. Room

-- Entries do not fit exactly where no permitted choice has body bytes of at most 4,086.
abbrev pub Room : Type 0
Room = (es : List Entry) → Rising es
    → (fits es ≡ false)
    ↔ ((m q : ℕ) → Permitted (keys es) m q → 4086 < body_bytes (length es) q (sum (stored_lengths m q (keys es))))

-- ---- 4. Lengths below the prefix, and sums

-- Each key but the first that leaves out q bits has more than q.
abbrev pub LaterLonger : Type 0
LaterLonger = (es : List Entry) → Rising es → (m q i : ℕ) → Permitted (keys es) m q
    → suc i < m → q < separator_length (get_or (keys es) (suc i) [])

-- The bits of a permitted choice come from the whole lengths: max(first - q, 0) + the others - (m - 1) * q, and q for
-- the prefix.
abbrev pub SumFormula : Type 0
SumFormula = (es : List Entry) → Rising es → (m q : ℕ) → Permitted (keys es) (suc m) q
    → bits_under (keys es) (suc m) q + min (separator_length (get_or (keys es) 0 [])) q + m * q
    ≡ sum (map separator_length (keys es)) + q

-- The size formula answers the stored lengths of a permitted choice from the whole ones, if these fit 64 bits.
abbrev pub StoredFromWhole : Type 0
StoredFromWhole = (e : Entry) (es : List Entry) → Rising (e ∷ es) → sum (map separator_length (keys (e ∷ es))) < 2 ^ 64
    → (m q : ℕ) → Permitted (keys (e ∷ es)) m q
    → stored_from_whole (separator_length e.key) m (sum (map separator_length (keys es))) q
    ≡ Answer.Value (sum (stored_lengths m q (keys (e ∷ es))))

-- And the whole lengths from the stored ones, where all keys leave out the prefix.
abbrev pub WholeFromStored : Type 0
WholeFromStored = (e : Entry) (es : List Entry) → Rising (e ∷ es) → sum (map separator_length (keys (e ∷ es))) < 2 ^ 64
    → (n q : ℕ) → n ≡ length (e ∷ es) → Permitted (keys (e ∷ es)) n q
    → whole_from_stored q (sum (stored_lengths n q (keys (e ∷ es)))) n (separator_length e.key)
    ≡ Answer.Value (sum (map separator_length (keys (e ∷ es))))

-- ---- 5. An accepted page

-- The entries of an accepted page are strictly ascending and fit a normal page.
abbrev pub BaseFits : Type 0
BaseFits = (p : List ℕ) → AllBelow 256 p → page_refusal p ≡ 0 → Rising (entries p) × (fits (entries p) ≡ true)

-- An accepted page has no fewer bits than the normal page of its entries.
abbrev pub BaseBits : Type 0
BaseBits = (p : List ℕ) → page_refusal p ≡ 0 → (choice (keys (entries p))).bits ≤ prefix_length p + start_of p (count p)
