-- Laws of the bits of a page while they are written: the prefix; bits more; a row more; all of them.
-- Assumes nothing.
use mathlib.Core.List.{List, ◌++◌, append_assoc, append-nil}
use mathlib.Core.Path.{◌≡◌, refl, sym, ap, ap₂, subst, ◌∙◌}
use Prim.Native.Nat.{ℕ, suc, ◌+◌, ◌-◌, ◌*◌, ◌≤◌, ◌<◌}
use native.Mathlib.Omega.{arith}
use mir.Syntax.{w64}
use mir.Val.{Fits}
use lib.ListN.{length, take, drop, length-drop}
use lib.Seq.{paste, take-paste}
use Rattle.format.specs.Bits.{bits_of, pack}
use Rattle.format.specs.Key.{IsKey, separator_length}
use Rattle.format.specs.Normal.{sum}
use Rattle.facts.proofs.BitsLaws.{length-bits_of}
use Rattle.facts.proofs.KeyLaws.{separator_length_bound}
use Rattle.facts.proofs.StoredLaws.{sum-take-le, sum-take-suc}
use Rattle.rows.specs.declared.table.Row.{Row}
use Rattle.rows.specs.Rows.{row_key}
use Rattle.parts.specs.Parts.{left_out, row_lengths, cleared, with_key}
use Rattle.parts.proofs.BitLaws.{bits_of-with_key}
use Rattle.rows.proofs.RowsLaws.{IsKey-row_key}
use Rattle.parts.proofs.RowLaws.{length-row_lengths, row_lengths_at}
use Rattle.builder.specs.Writes.{own_bits, rows_bits, row_bits, Pushed}
use Rattle.builder.proofs.RowLaws.{rows_bits_next}

-- ---- the bits

module _ (f : ℕ → List ℕ) (t : List Row) (n m q : ℕ) where
  -- the prefix
  pub pushed_start : (part₀ part k : List ℕ) (bit i : ℕ) → 0 < n → n ≤ 681 → q ≤ 256 → length part₀ ≤ 4096
      → q + sum (row_lengths n t m q) ≤ 8 * length part₀
      → k ≡ row_key t 0
      → part ≡ with_key part₀ 0 k 0 q
      → length part ≡ length part₀
      → bit ≡ 0
      → i ≡ 0
      → Pushed f t n m q (length part) part bit i
  unfolding row_bits sum
  pushed_start part₀ part k bit i hn hf hq hl hr ek ep el eb ei =
      let lk : q ≤ length k = omega (arith, ap length ek, (IsKey-row_key t 0).size) in
      let a : q + bit ≡ 0 + q = omega arith in
      let b : n - i ≡ n = omega arith in
      let y : IsKey k = subst IsKey (sym ek) (IsKey-row_key t 0) in
      let p : take (0 + q) (bits_of part) ≡ take q (row_key t 0) =
      ap (take (0 + q)) (ap bits_of ep ∙ bits_of-with_key part₀ 0 k 0 q y (omega arith) (omega arith))
      ∙ take-paste (bits_of part₀) 0 k q (omega arith) lk ∙ ap (take q) ek in
      record {
        most = omega arith;
        few = hf;
        short = hq;
        small = omega arith;
        room = omega arith;
        len = refl;
        is_sum = eb ∙ sym (ap (λ (x : ℕ). sum (take x (row_lengths n t m q))) ei);
        done =
            ap₂ (λ (x : ℕ) (y : ℕ). take x (bits_of part) ++ rows_bits f y i) a b
            ∙ ap₂ (λ (l : List ℕ) (x : ℕ). l ++ rows_bits f n x) p ei;
      }

  module _ (size : ℕ) (part : List ℕ) (bit i : ℕ) (s : Pushed f t n m q size part bit i) where
    -- x bits more, which are those of the rows up to e
    pub pushed_bits : (part' : List ℕ) (bit' i' e x : ℕ) (src : List ℕ) → e ≤ n → i' ≡ e → bit' ≡ bit + x
        → bit + x ≡ sum (take e (row_lengths n t m q))
        → x ≤ length src
        → take x src ++ rows_bits f (n - e) e ≡ rows_bits f (n - i) i
        → bits_of part' ≡ paste (bits_of part) (q + bit) src x
        → length part' ≡ length part
        → Pushed f t n m q size part' bit' i'
    pushed_bits part' bit' i' e x src he ei eb es lx er ep el =
        let lb : q + bit ≤ length (bits_of part) =
        omega (arith, length-bits_of part, sum-take-le e (row_lengths n t m q), s.room, s.len) in
        let b : q + bit' ≡ (q + bit) + x = omega arith in
        let p : take (q + bit') (bits_of part') ≡ take (q + bit) (bits_of part) ++ take x src =
        ap₂ take b ep ∙ take-paste (bits_of part) (q + bit) src x lb lx in
        record {
          most = omega arith;
          few = s.few;
          short = s.short;
          small = s.small;
          room = s.room;
          len = el ∙ s.len;
          is_sum = eb ∙ es ∙ sym (ap (λ (y : ℕ). sum (take y (row_lengths n t m q))) ei);
          done =
              ap₂ (λ (l : List ℕ) (y : ℕ). l ++ rows_bits f (n - y) y) p ei
              ∙ append_assoc (take (q + bit) (bits_of part)) (take x src) (rows_bits f (n - e) e)
              ∙ ap (λ (l : List ℕ). take (q + bit) (bits_of part) ++ l) er ∙ s.done;
        }

    -- the end of row i
    next : i < n → (k : List ℕ) → k ≡ row_key t i
        → bit + (separator_length k - left_out m q i) ≡ sum (take (suc i) (row_lengths n t m q))
    next h k e =
        let l : i < length (row_lengths n t m q) = omega (arith, length-row_lengths n t m q) in
        ap₂ ◌+◌ s.is_sum
        (ap (λ (x : List ℕ). separator_length x - left_out m q i) e ∙ sym (row_lengths_at n t m q i h))
        ∙ sym (sum-take-suc i (row_lengths n t m q) l)

    pub pushed_room : i < n → (k : List ℕ) → k ≡ row_key t i
        → q + bit + (separator_length k - left_out m q i) ≤ 8 * length part
    pushed_room h k e = omega (arith, next h k e, sum-take-le (suc i) (row_lengths n t m q), s.room, s.len)

    -- one row, from its own key
    pub pushed_more : (part' : List ℕ) (bit' i' : ℕ) (k : List ℕ) → i < n → f i ≡ own_bits t m q i → k ≡ row_key t i
        → i' ≡ i + 1
        → bit' ≡ bit + (separator_length k - left_out m q i)
        → bits_of part'
        ≡ paste (bits_of part) (q + bit) (drop (left_out m q i) k) (separator_length k - left_out m q i)
        → length part' ≡ length part
        → Pushed f t n m q size part' bit' i'
    unfolding own_bits
    pushed_more part' bit' i' k h ef e ei eb ep el =
        let o : ℕ = left_out m q i in
        let a : i' ≡ suc i = omega arith in
        let lk : length k ≡ 256 = ap length e ∙ (IsKey-row_key t i).size in
        let sk : separator_length k ≤ 256 =
        subst (λ (y : List ℕ). separator_length y ≤ 256) (sym e) (separator_length_bound (row_key t i) (IsKey-row_key t i)) in
        let r : take (separator_length k - o) (drop o k) ++ rows_bits f (n - suc i) (suc i) ≡ rows_bits f (n - i) i =
        ap (λ (l : List ℕ). l ++ rows_bits f (n - suc i) (suc i))
        (ap (λ (y : List ℕ). take (separator_length y - o) (drop o y)) e ∙ sym ef)
        ∙ sym (rows_bits_next f n i h) in
        pushed_bits part' bit' i' (suc i) (separator_length k - o) (drop o k) h a eb (next h k e)
        (omega (arith, length-drop o k)) r ep el

    pub pushed_fits : q + bit ≤ 8 * length part
    pushed_fits = omega (arith, s.is_sum, sum-take-le i (row_lengths n t m q), s.room, s.len)

    pub pushed_sum : Fits w64 (q + bit)
    pushed_sum = omega (arith, pushed_fits, s.small, s.len)

    -- all rows are written
    all : n ≤ i → take (q + bit) (bits_of part) ≡ row_bits f n t q
    unfolding rows_bits
    all h =
        let z : n - i ≡ 0 = omega arith in
        sym (ap (λ (k : ℕ). take (q + bit) (bits_of part) ++ rows_bits f k i) z
        ∙ append-nil (take (q + bit) (bits_of part))) ∙ s.done

    -- and zeros behind them
    pub pushed_end : (part' : List ℕ) → n ≤ i → part' ≡ cleared part (q + bit) → (k : ℕ) → size ≡ k
        → part' ≡ pack k (row_bits f n t q)
    unfolding cleared
    pushed_end part' h e k ek = e ∙ ap₂ pack (s.len ∙ ek) (all h)
