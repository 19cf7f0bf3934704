-- The page's parts, lent one after the other and put back, are the page.
-- In order: parts put back; the length of the bit part, and its room; the page.
-- Assumes nothing.
use mathlib.Core.List.{List, [], ◌++◌, append_assoc, append-nil}
use mathlib.Core.Path.{◌≡◌, refl, sym, ap, ap₂, ◌∙◌}
use Prim.Native.Nat.{ℕ, ◌+◌, ◌-◌, ◌*◌, ◌≤◌}
use native.Mathlib.Omega.{arith}
use borrow.Rule.Slice.PartMut.{put_mid, mid_of, mid_len, same_len_mid}
use lib.ListN.{length, take, drop, length-append, length-drop, drop_of_length-le}
use lib.Seq.{take_at}
use Rattle.format.specs.Bits.{pack, le}
use Rattle.format.specs.Page.{body_bytes}
use Rattle.format.specs.Normal.{words, running, sum, pointers}
use Rattle.rows.specs.declared.table.Row.{Row}
use Rattle.rows.specs.Rows.{rows}
use Rattle.facts.proofs.BitsLaws.{length-pack, bytes_for-holds}
use Rattle.facts.proofs.StoredLaws.{length-running, length-words}
use Rattle.parts.specs.Parts.{row_lengths, header_bytes}
use Rattle.builder.specs.Writes.{row_bits, laid_out}
use Rattle.parts.specs.Parts.{with_header, with_offsets, with_pointers}
use Rattle.parts.proofs.NumberLaws.{with_header_in}
use Rattle.parts.proofs.PartLaws.{with_offsets_in, with_pointers_in}
use Rattle.parts.proofs.RowLaws.{length-row_lengths}

-- ---- parts put back

-- what stands up to the end of a part that was put back
up_to : (h d part : List ℕ) (a k w : ℕ) → take a d ≡ h → length h ≡ a → length part ≡ w
    → take (a + w) (put_mid a k d part) ≡ h ++ part
up_to h d part a k w e lh lp =
    let post : List ℕ = drop k (drop a d) in
    let l : length (h ++ part) ≡ a + w = omega (arith, length-append h part) in
    ap (λ (x : List ℕ). take (a + w) (x ++ (part ++ post))) e ∙ ap (take (a + w)) (sym (append_assoc h part post))
    ∙ take_at (h ++ part) post (a + w) l

-- the last part goes to the end
to_end : (h d part : List ℕ) (a : ℕ) → take a d ≡ h → put_mid a (length d - a) d part ≡ h ++ part
to_end h d part a e =
    let l : length (drop a d) ≤ length d - a = omega (arith, length-drop a d) in
    let z : drop (length d - a) (drop a d) ≡ [] = drop_of_length-le (drop a d) l in
    ap₂ (λ (x y : List ℕ). x ++ (part ++ y)) e z ∙ ap (λ (x : List ℕ). h ++ x) (append-nil part)

-- the page with the end offsets put back, and with the bits
abbrev pub with_offsets_lem : List ℕ → List ℕ → ℕ → List ℕ
with_offsets_lem d o n = put_mid 10 ((10 + 2 * n) - 10) d o

abbrev pub with-bits : List ℕ → List ℕ → ℕ → List ℕ
with-bits d b n = put_mid (10 + 2 * n) ((4096 - 4 * n) - (10 + 2 * n)) d b

-- the part that the bits get
abbrev pub bit_part_lem : List ℕ → List ℕ → ℕ → List ℕ
bit_part_lem d o n = mid_of (10 + 2 * n) ((4096 - 4 * n) - (10 + 2 * n)) (with_offsets_lem d o n)

-- the three parts behind the header
joined : (d o b p h : List ℕ) (n : ℕ) → n ≤ 681 → take 10 d ≡ h → length h ≡ 10 → length o ≡ 2 * n
    → length b ≡ 4086 - 6 * n
    → (let d₃ : List ℕ = with-bits (with_offsets_lem d o n) b n in
    put_mid (4096 - 4 * n) (length d₃ - (4096 - 4 * n)) d₃ p ≡ ((h ++ o) ++ b) ++ p)
joined d o b p h n hn e lh lo lb =
    let d₂ : List ℕ = with_offsets_lem d o n in
    let d₃ : List ℕ = with-bits d₂ b n in
    let t₂ : take (10 + 2 * n) d₂ ≡ h ++ o = up_to h d o 10 ((10 + 2 * n) - 10) (2 * n) e lh lo in
    let l₂ : length (h ++ o) ≡ 10 + 2 * n = omega (arith, length-append h o) in
    let t₃ : take ((10 + 2 * n) + (4086 - 6 * n)) d₃ ≡ (h ++ o) ++ b =
    up_to (h ++ o) d₂ b (10 + 2 * n) ((4096 - 4 * n) - (10 + 2 * n)) (4086 - 6 * n) t₂ l₂ lb in
    let a : 4096 - 4 * n ≡ (10 + 2 * n) + (4086 - 6 * n) = omega arith in
    to_end ((h ++ o) ++ b) d₃ p (4096 - 4 * n) (ap (λ (x : ℕ). take x d₃) a ∙ t₃)

length_header : (number n m q : ℕ) → length (header_bytes number n m q) ≡ 10
unfolding header_bytes le
length_header number n m q = refl

-- ---- the bit part

module _ (d₁ o : List ℕ) (t : List Row) (n m q : ℕ) (eo : o ≡ with_offsets (mid_of 10 ((10 + 2 * n) - 10) d₁) t n m q) (hn : n ≤ 681)
    (l : length d₁ ≡ 4096) where
  is_offsets : o ≡ words 2 (running 0 (row_lengths n t m q))
  is_offsets =
      let a : length (mid_of 10 ((10 + 2 * n) - 10) d₁) ≡ 2 * n =
      omega (arith, mid_len 10 (10 + 2 * n) d₁ (omega arith)) in
      eo ∙ with_offsets_in t n m q (mid_of 10 ((10 + 2 * n) - 10) d₁) hn a

  length_offsets : length o ≡ 2 * n
  length_offsets =
      ap length is_offsets ∙ length-words 2 (running 0 (row_lengths n t m q))
      ∙ ap (λ (x : ℕ). 2 * x) (length-running 0 (row_lengths n t m q) ∙ length-row_lengths n t m q)

  length-with_offsets : length (with_offsets_lem d₁ o n) ≡ 4096
  length-with_offsets =
      let a : length (mid_of 10 ((10 + 2 * n) - 10) d₁) ≡ (10 + 2 * n) - 10 = mid_len 10 (10 + 2 * n) d₁ (omega arith) in
      same_len_mid 10 ((10 + 2 * n) - 10) d₁ o (omega (arith, length_offsets)) ∙ l

  length_bit_part : length (bit_part_lem d₁ o n) ≡ 4086 - 6 * n
  length_bit_part =
      let e : 4096 - 4 * n ≤ length (with_offsets_lem d₁ o n) = omega (arith, length-with_offsets) in
      omega (arith, mid_len (10 + 2 * n) (4096 - 4 * n) (with_offsets_lem d₁ o n) e)

  pub part_small : length (bit_part_lem d₁ o n) ≤ 4096
  part_small = omega (arith, length_bit_part)

  pub part_room : body_bytes n q (sum (row_lengths n t m q)) ≤ 4086
      → q + sum (row_lengths n t m q) ≤ 8 * length (bit_part_lem d₁ o n)
  unfolding body_bytes
  part_room h = omega (arith, length_bit_part, bytes_for-holds (q + sum (row_lengths n t m q)))

  -- ---- the page

  pub page_is : (f : ℕ → List ℕ) (d₀ b p : List ℕ) (number : ℕ) → length d₀ ≡ 4096 → d₁ ≡ with_header d₀ number n m q
      → b ≡ pack (length (bit_part_lem d₁ o n)) (row_bits f n t q)
      → (let d₃ : List ℕ = with-bits (with_offsets_lem d₁ o n) b n in
      p ≡ with_pointers (mid_of (4096 - 4 * n) (length d₃ - (4096 - 4 * n)) d₃) t n
      → put_mid (4096 - 4 * n) (length d₃ - (4096 - 4 * n)) d₃ p ≡ laid_out number t n m q f)
  unfolding laid_out
  page_is f d₀ b p number l₀ e₁ eb ep =
      let h : List ℕ = header_bytes number n m q in
      let e₁' : d₁ ≡ h ++ drop 10 d₀ = e₁ ∙ with_header_in d₀ number n m q (omega arith) in
      let b' : b ≡ pack (4086 - 6 * n) (row_bits f n t q) =
      eb ∙ ap (λ (x : ℕ). pack x (row_bits f n t q)) length_bit_part in
      let lb : length b ≡ 4086 - 6 * n = ap length b' ∙ length-pack (4086 - 6 * n) (row_bits f n t q) in
      let d₂ : List ℕ = with_offsets_lem d₁ o n in
      let d₃ : List ℕ = with-bits d₂ b n in
      let l₃ : length d₃ ≡ 4096 =
      same_len_mid (10 + 2 * n) ((4096 - 4 * n) - (10 + 2 * n)) d₂ b (omega (arith, length_bit_part))
      ∙ length-with_offsets in
      let k : ℕ = 4096 - 4 * n in
      let lp : length (mid_of k (length d₃ - k) d₃) ≡ 4 * n = omega (arith, mid_len k (length d₃) d₃ (omega arith)) in
      let p' : p ≡ words 4 (pointers (rows n t)) = ep ∙ with_pointers_in t n (mid_of k (length d₃ - k) d₃) hn lp in
      let th : take 10 d₁ ≡ h = ap (take 10) e₁' ∙ take_at h (drop 10 d₀) 10 (length_header number n m q) in
      joined d₁ o b p h n hn th (length_header number n m q) length_offsets lb
      ∙ ap₂ ◌++◌ (ap₂ ◌++◌ (ap (λ (x : List ℕ). h ++ x) is_offsets) b') p'
