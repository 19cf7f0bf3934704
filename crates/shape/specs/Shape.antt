-- What the tests of a page's shape answer, and what they tell each other. Document 01, "The page", and the refusals 1
-- to 8.
-- In order: header_meant checked_answer · check_shape · falling misfit unordered · Early SizesFit Sizing ShapeFits Shaping.
-- Assumes nothing.
use Rattle.std.specs.Prelude.{◌≡◌, ℕ, suc, ◌+◌, ◌-◌, ◌≤◌, ◌<◌, Bool, false, ◌||◌, cond, not, List, Result, Ok, Err, eqb, ltb, length}
use Rattle.format.specs.Answer.{Answer, some, unless}
use Rattle.format.specs.Key.{below}
use Rattle.format.specs.Page.{
  Header,
  end_of,
  start_of,
  entry_bits,
  page_number,
  count,
  compressed,
  prefix_length,
  body_bytes,
  header_of,
  page_refusal,
  check_page,
}
use Rattle.format.specs.Refusals.{refusal_number, answer_of}
use Rattle.format.specs.declared.refusal.Refusal.{Refusal}
use Rattle.shape.specs.declared.Header.{Header as Numbers}

-- The header that the code's numbers stand for.
abbrev pub header_meant : Numbers → Header
header_meant h = record { number = h.number; n = h.n; m = h.m; q = h.q; bits = h.bits }

-- What a check answers: the header, or the number of the refusal.
abbrev pub checked_answer : Result Numbers Refusal → Answer Header
checked_answer r = answer_of header_meant r

-- What a check answers but for the order of the keys: the header, unless one of 1 to 7 holds.
unfoldable pub check_shape : List ℕ → Answer Header
unfolding page_refusal header_of unless
check_shape p = unless (cond (eqb (page_refusal p) 8) 0 (page_refusal p)) (header_of p)

-- Refusal 6 over the first n entries: an end offset is below the one before.
unfoldable pub falling : List ℕ → ℕ → Bool
unfolding some end_of start_of
falling p n = some n (λ i. ltb (end_of p i) (start_of p i))

-- Refusal 7 over the first n entries: one has no bits, or over 256.
unfoldable pub misfit : List ℕ → ℕ → Bool
unfolding some entry_bits
misfit p n = some n (λ i. eqb (entry_bits p i) 0 || ltb 256 (entry_bits p i))

-- Refusal 8 over the keys f 0 to f (n - 1): one is not above the one before.
unfoldable pub unordered : (ℕ → List ℕ) → ℕ → Bool
unfolding some below
unordered f n = some (n - 1) (λ i. not (below (f i) (f (suc i))))

-- A check answers r, one of 1 to 7.
pub record Early (p : List ℕ) (r : ℕ) : Type 0 where
  pub answered : Answer.Refused r ≡ check_page p
  pub early : r < 8

-- Refusals 1 to 5 do not hold, and h has the numbers of the header.
pub record SizesFit (p : List ℕ) (h : Numbers) : Type 0 where
  pub size : length p ≡ 4096
  pub number_is : h.number ≡ page_number p
  pub n_is : h.n ≡ count p
  pub m_is : h.m ≡ compressed p
  pub q_is : h.q ≡ prefix_length p
  pub bits_is : h.bits ≡ prefix_length p + start_of p (count p)
  pub entry : 1 ≤ h.n
  pub compresses : 1 ≤ h.m
  pub no_more : h.m ≤ h.n
  pub prefix : h.q ≤ 256
  pub entries_fit : h.n ≤ 681
  pub fits : body_bytes (count p) (prefix_length p) (start_of p (count p)) ≤ 4086

-- What the tests for 1 to 5 tell: that, or the first that holds.
abbrev pub Sizing : List ℕ → Result Numbers Refusal → Type 0
Sizing p (Ok h) = SizesFit p h
Sizing p (Err r) = Early p (refusal_number r)

-- Refusals 1 to 7 do not hold, and h has the numbers of the header.
pub record ShapeFits (p : List ℕ) (h : Numbers) : Type 0 where
  pub sizes : SizesFit p h
  pub none_falls : falling p h.n ≡ false
  pub none_misfits : misfit p h.n ≡ false

-- What the tests for 1 to 7 tell: that, or the first that holds.
abbrev pub Shaping : List ℕ → Result Numbers Refusal → Type 0
Shaping p (Ok h) = ShapeFits p h
Shaping p (Err r) = Early p (refusal_number r)
