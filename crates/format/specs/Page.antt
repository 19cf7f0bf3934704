-- A page: 4,096 bytes. Document 01, "The page", and the refusals 1 to 8 and 16 of "Refusal numbers".
--     OFFSET       SIZE    WHAT
--          0          4    page number
--          4          2    n, the count of entries
--          6          2    m, how many of them leave out the prefix
--          8          2    q, the prefix's length in bits
--         10         2n    where each separator ends, in bits from the prefix's end
--    10 + 2n         ..    q bits of prefix, the separators with no gap, and ignored bits
--  4096 - 4n         4n    the pointers
-- Numbers are little-endian. Entry i is the prefix, if i < m, its separator, and zero bits up to 256.
-- In order: Entry Sound · page_number count compressed prefix_length · bits_start pointers_start · end_of start_of last_end
-- stored_length · body prefix_of separator_of key_of pointer_of entry_of · each entries · body_bytes entry_bits page_tests
-- page_refusal · Header check_page read_entry.
-- What a page of any other length "has" is defined too (bytes past the end count as 0), and never answered: refusal 1
-- comes first.
-- Assumes nothing.
use Rattle.std.specs.Prelude.{ℕ, zero, suc, ◌+◌, ◌-◌, ◌*◌, ◌^◌, ◌<◌, not, cond, ◌||◌, List, [], ◌∷◌, ◌++◌, length, take, drop, eqb, ltb, leb}
use Rattle.format.specs.Bits.{bits_of, fill, bytes_for, unle}
use Rattle.format.specs.Key.{IsKey, below}
use Rattle.format.specs.Answer.{Answer, Test, refuse, first, unless, some}

-- What a page maps: a key to a pointer.
pub record Entry : Type 0 where
  pub key : List ℕ
  pub pointer : ℕ

-- Entries that a page can hold: keys of 256 bits, pointers of 32.
unfoldable pub Sound : List Entry → Type 0
Sound [] = Unit {0}
Sound (e ∷ es) = IsKey e.key × (e.pointer < 2 ^ 32) × Sound es

-- The page's number.
unfoldable pub page_number : List ℕ → ℕ
unfolding unle
page_number p = unle (take 4 p)

-- n.
unfoldable pub count : List ℕ → ℕ
unfolding unle
count p = unle (take 2 (drop 4 p))

-- m.
unfoldable pub compressed : List ℕ → ℕ
unfolding unle
compressed p = unle (take 2 (drop 6 p))

-- q.
unfoldable pub prefix_length : List ℕ → ℕ
unfolding unle
prefix_length p = unle (take 2 (drop 8 p))

-- The byte behind n end offsets, where the prefix begins.
abbrev pub bits_start : ℕ → ℕ
bits_start n = 10 + 2 * n

-- The byte at which n pointers begin, so that they fill the page's last 4n bytes.
abbrev pub pointers_start : ℕ → ℕ
pointers_start n = 4096 - 4 * n

-- The end offset of separator i.
unfoldable pub end_of : List ℕ → ℕ → ℕ
unfolding unle
end_of p i = unle (take 2 (drop (10 + 2 * i) p))

-- Where separator i starts: where the one before ends, and the first at 0.
unfoldable pub start_of : List ℕ → ℕ → ℕ
unfolding end_of
start_of p zero = 0
start_of p (suc i) = end_of p i

-- The last end offset; 0 where there is none.
abbrev pub last_end : List ℕ → ℕ
last_end p = start_of p (count p)

-- How many bits separator i has; 0 where it ends before it starts.
unfoldable pub stored_length : List ℕ → ℕ → ℕ
unfolding end_of start_of
stored_length p i = end_of p i - start_of p i

-- The bits behind the end offsets: the prefix, the separators, and whatever follows them.
unfoldable pub body : List ℕ → List ℕ
unfolding bits_of count
body p = bits_of (drop (bits_start (count p)) p)

-- The prefix of entry i; from m on, no bits.
unfoldable pub prefix_of : List ℕ → ℕ → List ℕ
unfolding compressed prefix_length body
prefix_of p i = cond (ltb i (compressed p)) (take (prefix_length p) (body p)) []

-- The bits that are stored of entry i.
unfoldable pub separator_of : List ℕ → ℕ → List ℕ
unfolding stored_length start_of prefix_length body
separator_of p i = take (stored_length p i) (drop (prefix_length p + start_of p i) (body p))

-- The key of entry i: its prefix, its separator, zero bits up to 256.
unfoldable pub key_of : List ℕ → ℕ → List ℕ
unfolding fill prefix_of separator_of
key_of p i = fill 256 (prefix_of p i ++ separator_of p i)

-- The pointer of entry i.
unfoldable pub pointer_of : List ℕ → ℕ → ℕ
unfolding unle count
pointer_of p i = unle (take 4 (drop (pointers_start (count p) + 4 * i) p))

-- Entry i as it reads.
unfoldable pub entry_of : List ℕ → ℕ → Entry
unfolding key_of pointer_of
entry_of p i = record { key = key_of p i; pointer = pointer_of p i }

-- f at 0, 1, .. n - 1.
unfoldable pub each {ℓ} : {X : Type ℓ} → ℕ → (ℕ → X) → List X
each zero f = []
each (suc n) f = f 0 ∷ each n (λ i. f (suc i))

-- The entries of a page; of no bytes, which stand for no page, none.
unfoldable pub entries : List ℕ → List Entry
unfolding each entry_of count
entries p = each (count p) (entry_of p)

-- Body bytes: 6 for each entry, and the q bits of prefix and the stored bits rounded up to bytes.
unfoldable pub body_bytes : ℕ → ℕ → ℕ → ℕ
unfolding bytes_for
body_bytes n q sum = 6 * n + bytes_for (q + sum)

-- The bits of entry i: q if compressed, plus its separator.
unfoldable pub entry_bits : List ℕ → ℕ → ℕ
unfolding compressed prefix_length stored_length
entry_bits p i = cond (ltb i (compressed p)) (prefix_length p) 0 + stored_length p i

-- The refusals 1 to 8, each tested over all entries before the next.
unfoldable pub page_tests : List ℕ → List Test
unfolding count compressed prefix_length end_of start_of some body_bytes entry_bits key_of below
page_tests p =
    let n : ℕ = count p in
    let m : ℕ = compressed p in
    let q : ℕ = prefix_length p in
    refuse 1 (not (eqb (length p) 4096))
    ∷ refuse 2 (eqb n 0)
    ∷ refuse 3 (eqb m 0 || ltb n m)
    ∷ refuse 4 (ltb 256 q)
    ∷ refuse 5 (ltb 4086 (6 * n) || ltb 4086 (body_bytes n q (last_end p)))
    ∷ refuse 6 (some n (λ i. ltb (end_of p i) (start_of p i)))
    ∷ refuse 7 (some n (λ i. eqb (entry_bits p i) 0 || ltb 256 (entry_bits p i)))
    ∷ refuse 8 (some (n - 1) (λ i. not (below (key_of p i) (key_of p (suc i)))))
    ∷ []

-- The first of them that holds; 0 for a page that is accepted.
unfoldable pub page_refusal : List ℕ → ℕ
unfolding first page_tests
page_refusal p = first (page_tests p)

-- What a check answers: the page's number, n, m, q, and the bits of prefix and separators.
pub record Header : Type 0 where
  pub number : ℕ
  pub n : ℕ
  pub m : ℕ
  pub q : ℕ
  pub bits : ℕ

-- The header of a page.
unfoldable pub header_of : List ℕ → Header
unfolding page_number count compressed prefix_length start_of
header_of p =
    record {
      number = page_number p;
      n = count p;
      m = compressed p;
      q = prefix_length p;
      bits = prefix_length p + last_end p;
    }

-- Check: the header, or one of 1 to 8.
unfoldable pub check_page : List ℕ → Answer Header
unfolding unless page_refusal header_of
check_page p = unless (page_refusal p) (header_of p)

-- Entry reading: entry i, or one of 1 to 8, or 16 from n on.
unfoldable pub read_entry : List ℕ → ℕ → Answer Entry
unfolding unless first page_tests entry_of count
read_entry p i = unless (first (page_tests p ++ refuse 16 (leb (count p) i) ∷ [])) (entry_of p i)
