-- Laws of the page that lays entries out under a permitted choice: it has those entries, and is accepted
-- (format's `specs/Normal.antt`).
-- In order: what is read from a page whose parts are known; `Laid`, what is asked of entries and a choice; the parts
-- of the page; its length and header; ends, starts and stored lengths; the body; prefix, separator and key; pointers
-- and entries; that it is accepted, and what a check and a reading answer; the same for the normal page, of entries
-- that fit.
-- Not here: that `choice` is the best (`ChoiceLaws`).
-- Assumes nothing.
use mathlib.Core.Bool.{true}
use mathlib.Core.List.{◌++◌, List, [], append_assoc, append-nil}
use mathlib.Core.Path.{ap, ap₂, refl, subst, sym, ◌∙◌, ◌≡◌}
use Prim.Native.Nat.{◌*◌, ◌+◌, ◌-◌, ◌<◌, ◌^◌, suc, zero, ℕ, ◌≤◌}
use native.Mathlib.Nat.{le_trans, zero-add}
use native.Mathlib.Omega.{arith}
use native.Mathlib.Decide.{dec_lt}
use lib.ListN.{drop, get_or, length, length-append, replicate, take}
use lib.Seq.{drop-append-add, drop_at, drop-drop, length-take-le, take_all, take_at}
use Rattle.format.specs.Bits.{AllBelow, bits_of, fill, le, pack, unle}
use Rattle.format.specs.Key.{IsKey, below, separator_length}
use Rattle.format.specs.Answer.{Answer}
use Rattle.format.specs.Page.{Entry, Sound, body, body_bytes, check_page, compressed, count, end_of, entries, entry_bits, entry_of, header_of, key_of, page_number, page_refusal, pointer_of, pointers_start, prefix_length, prefix_of, read_entry, separator_of, start_of, stored_length}
use Rattle.format.specs.Normal.{Permitted, bits_under, choice, first_key, fits, keys, normal_page, page_under, pointers, running, stored_bits, stored_lengths, sum, words}
use Rattle.format.specs.Edit.{ascending, no_entry}
use Rattle.facts.proofs.BitsLaws.{AllBelow-append, AllBelow_at, AllBelow-le, AllBelow-pack, AllBelow-take, bits_of-append, bits_of-pack, bytes_for-holds, fill_short, length-pack, unle-le}
use Rattle.facts.proofs.KeyLaws.{separator_length_bound, fill-take-key, fill-prefix-key, separator_length_positive}
use Rattle.facts.proofs.EntryLaws.{AreKeys, AreKeys_at, ascending_next, each_at, first_key_at, keys_at, length-keys, length-pointers, pointers_at, sound_keys, sound_pointers}
use Rattle.facts.proofs.StoredLaws.{AllBelow-stored_bits, AllBelow-words, length-running, length-stored_bits, length-stored_lengths, length-words, running_at, shared_by_all_bound, shared_by_all-take, stored, stored-compressed, stored_plain, stored_bits_at, stored_lengths-compressed, stored_lengths_plain, sum-take-le, sum-take-suc, unle-words}
use Rattle.facts.proofs.ChoiceLaws.{choice-bits, choice_permitted, fits-true}
use Rattle.facts.proofs.PageLaws.{entry_bits-compressed, entry_bits_plain, prefix_of-compressed, prefix_of_plain}
use Rattle.facts.proofs.AcceptedLaws.{Accepted, check_page-accepted, page_refusal-accepted, read_entry-accepted}

-- ---- a page whose parts are known

-- from byte 10 on, words of 2 bytes
pub end_of_at : (p xs rest : List ℕ) (i : ℕ) → drop 10 p ≡ words 2 xs ++ rest → i < length xs → get_or xs i 0 < 2 ^ 16
    → end_of p i ≡ get_or xs i 0
unfolding end_of
end_of_at p xs rest i e h l =
    ap (λ (r : List ℕ). unle (take 2 r)) (sym (drop-drop (2 * i) 10 p) ∙ ap (drop (2 * i)) e) ∙ unle-words 2 xs rest i h l

-- at the end, words of 4 bytes
pub pointer_of_at : (p front xs : List ℕ) (i : ℕ) → p ≡ front ++ words 4 xs → length front + 4 * length xs ≡ 4096
    → count p ≡ length xs → i < length xs
    → get_or xs i 0 < 2 ^ 32 → pointer_of p i ≡ get_or xs i 0
unfolding pointer_of
pointer_of_at p front xs i e n c h l =
    let k : pointers_start (count p) + 4 * i ≡ length front + 4 * i = omega arith in
    let d : drop (pointers_start (count p) + 4 * i) p ≡ drop (4 * i) (words 4 xs ++ []) =
    ap₂ drop k e ∙ drop-append-add front (words 4 xs) (4 * i) ∙ ap (drop (4 * i)) (sym (append-nil (words 4 xs))) in
    ap (λ (r : List ℕ). unle (take 4 r)) d ∙ unle-words 4 xs [] i h l

-- ---- what is asked

-- entries that can be laid out under m and q on page pn
pub record Laid (pn : ℕ) (es : List Entry) (m q : ℕ) : Type 0 where
  pub number : pn < 2 ^ 32
  pub sound : Sound es
  pub permitted : Permitted (keys es) m q
  pub room : body_bytes (length es) q (sum (stored_lengths m q (keys es))) ≤ 4086

module _ (pn : ℕ) (es : List Entry) (m q : ℕ) (laid : Laid pn es m q) where
  are_keys_lem : AreKeys (keys es)
  are_keys_lem = sound_keys es laid.sound

  pub laid_m_pos : 1 ≤ m
  unfolding Permitted
  laid_m_pos = laid.permitted.0

  pub laid_m_le : m ≤ length es
  unfolding Permitted
  laid_m_le = omega (arith, laid.permitted.1, length-keys es)

  pub laid_q : q ≤ 256
  unfolding Permitted
  laid_q = le_trans laid.permitted.2 (shared_by_all_bound (take m (keys es)))

  pub laid-count : 6 * length es ≤ 4086
  unfolding body_bytes
  laid-count = omega (arith, laid.room)

  -- the bits that are stored, in the bytes that are left for them
  pub laid-bits : q + sum (stored_lengths m q (keys es)) ≤ 8 * (4086 - 6 * length es)
  unfolding body_bytes
  laid-bits = omega (arith, laid.room, bytes_for-holds (q + sum (stored_lengths m q (keys es))))

  first_is_key : IsKey (first_key (keys es))
  first_is_key =
      subst IsKey (sym (first_key_at (keys es)))
      (AreKeys_at (keys es) 0 are_keys_lem (omega (arith, laid_m_pos, laid_m_le, length-keys es)))

  length-first-bits : length (take q (first_key (keys es))) ≡ q
  length-first-bits = length-take-le q (first_key (keys es)) (omega (arith, laid_q, first_is_key.size))

  AllBelow-stored : AllBelow 2 (take q (first_key (keys es)) ++ stored_bits m q (keys es))
  AllBelow-stored =
      AllBelow-append 2 (take q (first_key (keys es))) (stored_bits m q (keys es)) (AllBelow-take 2 q (first_key (keys es)) first_is_key.bits)
      (AllBelow-stored_bits m q (keys es) are_keys_lem)

-- ---- the parts of the page

abbrev ends : List Entry → ℕ → ℕ → List ℕ
ends es m q = words 2 (running 0 (stored_lengths m q (keys es)))

abbrev bit_part : List Entry → ℕ → ℕ → List ℕ
bit_part es m q = pack (4086 - 6 * length es) (take q (first_key (keys es)) ++ stored_bits m q (keys es))

module _ (pn : ℕ) (es : List Entry) (m q : ℕ) where
  length_ends : length (ends es m q) ≡ 2 * length es
  length_ends =
      length-words 2 (running 0 (stored_lengths m q (keys es)))
      ∙ ap (λ (n : ℕ). 2 * n) (length-running 0 (stored_lengths m q (keys es)) ∙ length-stored_lengths m q (keys es) ∙ length-keys es)

  past_header : drop 10 (page_under pn es m q) ≡ ends es m q ++ (bit_part es m q ++ words 4 (pointers es))
  unfolding page_under le
  past_header = append_assoc (ends es m q) (bit_part es m q) (words 4 (pointers es))

  past_ends : drop (10 + 2 * length es) (page_under pn es m q) ≡ bit_part es m q ++ words 4 (pointers es)
  past_ends =
      sym (drop-drop (2 * length es) 10 (page_under pn es m q)) ∙ ap (drop (2 * length es)) past_header
      ∙ drop_at (ends es m q) (bit_part es m q ++ words 4 (pointers es)) (2 * length es) length_ends

  -- all but the pointers
  abbrev front : List ℕ
  front = le 4 pn ++ le 2 (length es) ++ le 2 m ++ le 2 q ++ ends es m q ++ bit_part es m q

  front_pointers : page_under pn es m q ≡ front ++ words 4 (pointers es)
  unfolding page_under
  front_pointers = refl

  length_front : length front ≡ 10 + 2 * length es + (4086 - 6 * length es)
  unfolding le
  length_front =
      omega (
        arith,
        length-append (ends es m q) (bit_part es m q),
        length_ends,
        length-pack (4086 - 6 * length es) (take q (first_key (keys es)) ++ stored_bits m q (keys es)),
      )

-- ---- the page is read

module _ (pn : ℕ) (es : List Entry) (m q : ℕ) (laid : Laid pn es m q) where
  pub length-page_under : length (page_under pn es m q) ≡ 4096
  length-page_under =
      ap length (front_pointers pn es m q) ∙ length-append (front pn es m q) (words 4 (pointers es))
      ∙ omega (arith, length_front pn es m q, length-words 4 (pointers es), length-pointers es, laid-count pn es m q laid)

  -- it is bytes
  pub AllBelow-page_under : AllBelow 256 (page_under pn es m q)
  unfolding page_under
  AllBelow-page_under =
      let a : List ℕ = le 4 pn in
      let b : List ℕ = a ++ le 2 (length es) in
      let c : List ℕ = b ++ le 2 m in
      let d : List ℕ = c ++ le 2 q in
      let bits : AllBelow 256 (bit_part es m q) =
      AllBelow-pack (4086 - 6 * length es) (take q (first_key (keys es)) ++ stored_bits m q (keys es)) (AllBelow-stored pn es m q laid) in
      AllBelow-append 256 (front pn es m q) (words 4 (pointers es))
      (AllBelow-append 256 (d ++ ends es m q) (bit_part es m q)
      (AllBelow-append 256 d (ends es m q)
      (AllBelow-append 256 c (le 2 q) (AllBelow-append 256 b (le 2 m) (AllBelow-append 256 a (le 2 (length es)) (AllBelow-le 4 pn) (AllBelow-le 2 (length es))) (AllBelow-le 2 m)) (AllBelow-le 2 q))
      (AllBelow-words 2 (running 0 (stored_lengths m q (keys es))))) bits) (AllBelow-words 4 (pointers es))

  -- ---- the header

  pub page_number-page_under : page_number (page_under pn es m q) ≡ pn
  unfolding page_number page_under le
  page_number-page_under = unle-le 4 pn laid.number

  pub count-page_under : count (page_under pn es m q) ≡ length es
  unfolding count page_under le
  count-page_under = unle-le 2 (length es) (omega (arith, laid-count pn es m q laid))

  pub compressed-page_under : compressed (page_under pn es m q) ≡ m
  unfolding compressed page_under le
  compressed-page_under = unle-le 2 m (omega (arith, laid-count pn es m q laid, laid_m_le pn es m q laid))

  pub prefix_length-page_under : prefix_length (page_under pn es m q) ≡ q
  unfolding prefix_length page_under le
  prefix_length-page_under = unle-le 2 q (omega (arith, laid_q pn es m q laid))

  -- ---- ends, starts and stored lengths

  in_lengths : (i : ℕ) → i < length es → i < length (stored_lengths m q (keys es))
  in_lengths i h = omega (arith, length-stored_lengths m q (keys es), length-keys es)

  pub end_of-page_under : (i : ℕ) → i < length es → end_of (page_under pn es m q) i ≡ sum (take (suc i) (stored_lengths m q (keys es)))
  end_of-page_under i h =
      let xs : List ℕ = stored_lengths m q (keys es) in
      let r : get_or (running 0 xs) i 0 ≡ sum (take (suc i) xs) =
      running_at 0 xs i (in_lengths i h) ∙ zero-add (sum (take (suc i) xs)) in
      end_of_at (page_under pn es m q) (running 0 xs) (bit_part es m q ++ words 4 (pointers es)) i (past_header pn es m q)
      (omega (arith, in_lengths i h, length-running 0 xs)) (omega (arith, sum-take-le (suc i) xs, laid-bits pn es m q laid))
      ∙ r

  pub start_of-page_under : (i : ℕ) → i ≤ length es → start_of (page_under pn es m q) i ≡ sum (take i (stored_lengths m q (keys es)))
  unfolding start_of sum
  start_of-page_under zero h = refl
  start_of-page_under (suc i) h = end_of-page_under i h

  pub stored_length-page_under : (i : ℕ) → i < length es
      → stored_length (page_under pn es m q) i ≡ get_or (stored_lengths m q (keys es)) i 0
  unfolding stored_length
  stored_length-page_under i h =
      let p : List ℕ = page_under pn es m q in
      let e : end_of p i ≡ sum (take (suc i) (stored_lengths m q (keys es))) = end_of-page_under i h in
      let s : start_of p i ≡ sum (take i (stored_lengths m q (keys es))) = start_of-page_under i (omega arith) in
      omega (arith, sum-take-suc i (stored_lengths m q (keys es)) (in_lengths i h))

  -- ---- the body

  -- what follows the last separator
  abbrev ignored : List ℕ
  ignored =
      replicate (8 * (4086 - 6 * length es) - length (take q (first_key (keys es)) ++ stored_bits m q (keys es))) 0 ++ bits_of
      (words 4 (pointers es))

  pub body-page_under : body (page_under pn es m q) ≡ take q (first_key (keys es)) ++ (stored_bits m q (keys es) ++ ignored)
  unfolding body
  body-page_under =
      let p : List ℕ = page_under pn es m q in
      let bs : List ℕ = take q (first_key (keys es)) ++ stored_bits m q (keys es) in
      let y : AreKeys (keys es) = are_keys_lem pn es m q laid in
      let l : length bs ≤ 8 * (4086 - 6 * length es) = omega (
        arith,
        length-append (take q (first_key (keys es))) (stored_bits m q (keys es)),
        length-first-bits pn es m q laid,
        length-stored_bits m q (keys es) y,
        laid-bits pn es m q laid,
      ) in
      ap (λ (n : ℕ). bits_of (drop (10 + 2 * n) p)) count-page_under ∙ ap bits_of (past_ends pn es m q) ∙ bits_of-append (bit_part es m q) (words 4 (pointers es))
      ∙ ap (λ (r : List ℕ). r ++ bits_of (words 4 (pointers es)))
      (bits_of-pack (4086 - 6 * length es) bs (AllBelow-stored pn es m q laid) ∙ fill_short (8 * (4086 - 6 * length es)) bs l)
      ∙ simp append_assoc

  -- ---- prefix, separator and key

  prefix_of-first : (i : ℕ) → i < m → prefix_of (page_under pn es m q) i ≡ take q (first_key (keys es))
  prefix_of-first i h =
      prefix_of-compressed (page_under pn es m q) i (omega (arith, compressed-page_under)) ∙ ap₂ take prefix_length-page_under body-page_under
      ∙ take_at (take q (first_key (keys es))) (stored_bits m q (keys es) ++ ignored) q (length-first-bits pn es m q laid)

  pub separator_of-page_under : (i : ℕ) → i < length es → separator_of (page_under pn es m q) i ≡ stored m q i (get_or (keys es) i [])
  unfolding separator_of
  separator_of-page_under i h =
      let p : List ℕ = page_under pn es m q in
      let xs : List ℕ = stored_lengths m q (keys es) in
      let s : prefix_length p + start_of p i ≡ length (take q (first_key (keys es))) + sum (take i xs) =
      ap₂ ◌+◌ (prefix_length-page_under ∙ sym (length-first-bits pn es m q laid)) (start_of-page_under i (omega arith)) in
      ap₂ take (stored_length-page_under i h) (ap₂ drop s body-page_under ∙ drop-append-add (take q (first_key (keys es))) (stored_bits m q (keys es) ++ ignored) (sum (take i xs)))
      ∙ stored_bits_at m q (keys es) ignored i (are_keys_lem pn es m q laid) (omega (arith, length-keys es))

  pub key_of-page_under : (i : ℕ) → i < length es → key_of (page_under pn es m q) i ≡ get_or (keys es) i []
  unfolding key_of Permitted
  key_of-page_under i h = go (dec_lt i m)
    where
      k : List ℕ
      k = get_or (keys es) i []

      y : IsKey k
      y = AreKeys_at (keys es) i (are_keys_lem pn es m q laid) (omega (arith, length-keys es))

      go : Dec (i < m) → fill 256 (prefix_of (page_under pn es m q) i ++ separator_of (page_under pn es m q) i) ≡ k
      go (yes c) =
          let shares : take q (first_key (keys es)) ≡ take q k =
          ap (take q) (first_key_at (keys es)) ∙ shared_by_all-take (keys es) m q i laid.permitted.1 laid.permitted.2 c in
          ap (fill 256) (ap₂ ◌++◌ (prefix_of-first i c ∙ shares) (separator_of-page_under i h ∙ stored-compressed m q i k c)) ∙ fill-prefix-key k q y
      go (no c) =
          let l : m ≤ i = omega arith in
          ap (fill 256) (ap₂ ◌++◌ (prefix_of_plain (page_under pn es m q) i (omega (arith, compressed-page_under))) (separator_of-page_under i h ∙ stored_plain m q i k l))
          ∙ fill-take-key k (separator_length k) y (omega arith)

  -- ---- pointers and entries

  pub pointer_of-page_under : (i : ℕ) (d : Entry) → i < length es → pointer_of (page_under pn es m q) i ≡ (get_or es i d).pointer
  pointer_of-page_under i d h =
      let l : i < length (pointers es) = omega (arith, length-pointers es) in
      pointer_of_at (page_under pn es m q) (front pn es m q) (pointers es) i (front_pointers pn es m q)
      (omega (arith, length_front pn es m q, length-pointers es, laid-count pn es m q laid))
      (count-page_under ∙ sym (length-pointers es)) l
      (AllBelow_at (2 ^ 32) (pointers es) i (sound_pointers es laid.sound) l)
      ∙ pointers_at es i d h

  pub entry_of-page_under : (i : ℕ) (d : Entry) → i < length es → entry_of (page_under pn es m q) i ≡ get_or es i d
  unfolding entry_of
  entry_of-page_under i d h = λ j. record { key = (key_of-page_under i h ∙ keys_at es i d h) j; pointer = pointer_of-page_under i d h j }

  pub entries-page_under : entries (page_under pn es m q) ≡ es
  unfolding entries
  entries-page_under =
      each_at es (entry_of (page_under pn es m q)) (count (page_under pn es m q)) no_entry count-page_under (λ i h. entry_of-page_under i no_entry h)

  -- ---- the page is accepted

  entry_bits-page_under : (i : ℕ) → i < length es
      → (1 ≤ entry_bits (page_under pn es m q) i) × (entry_bits (page_under pn es m q) i ≤ 256)
  entry_bits-page_under i h = go (dec_lt i m)
    where
      p : List ℕ
      p = page_under pn es m q

      k : List ℕ
      k = get_or (keys es) i []

      bound : separator_length k ≤ 256
      bound = separator_length_bound k (AreKeys_at (keys es) i (are_keys_lem pn es m q laid) (omega (arith, length-keys es)))

      go : Dec (i < m) → (1 ≤ entry_bits (page_under pn es m q) i) × (entry_bits (page_under pn es m q) i ≤ 256)
      go (yes c) =
          let b : entry_bits (page_under pn es m q) i ≡ prefix_length (page_under pn es m q) + stored_length (page_under pn es m q) i =
          entry_bits-compressed (page_under pn es m q) i (omega (arith, compressed-page_under)) in
          let s : stored_length (page_under pn es m q) i ≡ separator_length k - q =
          stored_length-page_under i h ∙ stored_lengths-compressed m q (keys es) i c (omega (arith, length-keys es)) in
          omega (arith, prefix_length-page_under, separator_length_positive k, bound, laid_q pn es m q laid)
      go (no c) =
          let l : m ≤ i = omega arith in
          let b : entry_bits (page_under pn es m q) i ≡ stored_length (page_under pn es m q) i =
          entry_bits_plain (page_under pn es m q) i (omega (arith, compressed-page_under)) in
          let s : stored_length (page_under pn es m q) i ≡ separator_length k =
          stored_length-page_under i h ∙ stored_lengths_plain m q (keys es) i l (omega (arith, length-keys es)) in
          omega (arith, separator_length_positive k, bound)

  last_end : start_of (page_under pn es m q) (count (page_under pn es m q)) ≡ sum (stored_lengths m q (keys es))
  last_end =
      ap (start_of (page_under pn es m q)) count-page_under ∙ start_of-page_under (length es) (omega arith)
      ∙ ap sum (take_all (length es) (stored_lengths m q (keys es)) (omega (arith, length-stored_lengths m q (keys es), length-keys es)))

  page-fits : body_bytes (count (page_under pn es m q)) (prefix_length (page_under pn es m q)) (start_of (page_under pn es m q) (count (page_under pn es m q))) ≤ 4086
  page-fits =
      subst (λ (n : ℕ). n ≤ 4086)
      (ap₂ (λ (n s : ℕ). body_bytes n q s) (sym count-page_under) (sym last_end)
      ∙ ap (λ (r : ℕ). body_bytes (count (page_under pn es m q)) r (start_of (page_under pn es m q) (count (page_under pn es m q))))
      (sym prefix_length-page_under))
      laid.room

  pub accepted-page_under : ascending es ≡ true → Accepted (page_under pn es m q)
  accepted-page_under rising =
      let p : List ℕ = page_under pn es m q in
      let n : count p ≡ length es = count-page_under in
      record {
        size = length-page_under;
        entry = omega (arith, laid_m_pos pn es m q laid, laid_m_le pn es m q laid);
        compresses = omega (arith, compressed-page_under, laid_m_pos pn es m q laid);
        compresses_no_more = omega (arith, compressed-page_under, laid_m_le pn es m q laid);
        prefix = omega (arith, prefix_length-page_under, laid_q pn es m q laid);
        entries_fit = omega (arith, laid-count pn es m q laid);
        fits = page-fits;
        rising_ends = λ i l.
            let h : i < length es = omega arith in
            omega (arith, start_of-page_under i (omega arith), end_of-page_under i h, sum-take-suc i (stored_lengths m q (keys es)) (in_lengths i h));
        some_bits = λ i l. (entry_bits-page_under i (omega arith)).0;
        no_more_bits = λ i l. (entry_bits-page_under i (omega arith)).1;
        rising_keys = λ i l.
            let h : suc i < length es = omega arith in
            ap₂ below (key_of-page_under i (omega arith)) (key_of-page_under (suc i) h) ∙ ascending_next es rising i h;
      }

  pub page_refusal-page_under : ascending es ≡ true → page_refusal (page_under pn es m q) ≡ 0
  page_refusal-page_under rising = page_refusal-accepted (page_under pn es m q) (accepted-page_under rising)

  bits-page_under : prefix_length (page_under pn es m q) + start_of (page_under pn es m q) (count (page_under pn es m q))
      ≡ bits_under (keys es) m q
  unfolding bits_under
  bits-page_under = ap₂ ◌+◌ prefix_length-page_under last_end

  pub check_page-page_under : ascending es ≡ true
      → check_page (page_under pn es m q) ≡ Answer.Value (record { number = pn; n = length es; m = m; q = q; bits = bits_under (keys es) m q })
  unfolding header_of
  check_page-page_under rising =
      check_page-accepted (page_under pn es m q) (accepted-page_under rising)
      ∙ λ j. Answer.Value (record { number = page_number-page_under j; n = count-page_under j; m = compressed-page_under j; q = prefix_length-page_under j; bits = bits-page_under j })

  pub read_entry-page_under : ascending es ≡ true → (i : ℕ) (d : Entry) → i < length es
      → read_entry (page_under pn es m q) i ≡ Answer.Value (get_or es i d)
  read_entry-page_under rising i d h =
      read_entry-accepted (page_under pn es m q) i (accepted-page_under rising) (omega (arith, count-page_under))
      ∙ ap {B = Answer Entry} Answer.Value (entry_of-page_under i d h)

-- ---- the normal page

-- entries that fit, and a page number of 32 bits
pub laid_normal : (pn : ℕ) (es : List Entry) → pn < 2 ^ 32 → 1 ≤ length es → Sound es → fits es ≡ true
    → Laid pn es (choice (keys es)).m (choice (keys es)).q
laid_normal pn es h z s f =
    record { number = h; sound = s; permitted = choice_permitted (keys es) (omega (arith, length-keys es)); room = fits-true es z f }

module _ (pn : ℕ) (es : List Entry) (small : pn < 2 ^ 32) (some : 1 ≤ length es) (sound : Sound es) (fitting : fits es ≡ true) where
  pub length-normal_page : length (normal_page pn es) ≡ 4096
  unfolding normal_page
  length-normal_page =
      length-page_under pn es (choice (keys es)).m (choice (keys es)).q (laid_normal pn es small some sound fitting)

  pub page_number-normal_page : page_number (normal_page pn es) ≡ pn
  unfolding normal_page
  page_number-normal_page =
      page_number-page_under pn es (choice (keys es)).m (choice (keys es)).q (laid_normal pn es small some sound fitting)

  pub count-normal_page : count (normal_page pn es) ≡ length es
  unfolding normal_page
  count-normal_page = count-page_under pn es (choice (keys es)).m (choice (keys es)).q (laid_normal pn es small some sound fitting)

  pub entries-normal_page : entries (normal_page pn es) ≡ es
  unfolding normal_page
  entries-normal_page =
      entries-page_under pn es (choice (keys es)).m (choice (keys es)).q (laid_normal pn es small some sound fitting)

  pub page_refusal-normal_page : ascending es ≡ true → page_refusal (normal_page pn es) ≡ 0
  unfolding normal_page
  page_refusal-normal_page =
      page_refusal-page_under pn es (choice (keys es)).m (choice (keys es)).q (laid_normal pn es small some sound fitting)

  -- the bits that a check answers are those of the choice
  pub check_page-normal_page : ascending es ≡ true
      → check_page (normal_page pn es)
      ≡ Answer.Value (record { number = pn; n = length es; m = (choice (keys es)).m; q = (choice (keys es)).q; bits = (choice (keys es)).bits })
  unfolding normal_page
  check_page-normal_page rising =
      check_page-page_under pn es (choice (keys es)).m (choice (keys es)).q (laid_normal pn es small some sound fitting) rising
      ∙ λ j. Answer.Value (record { number = pn; n = length es; m = (choice (keys es)).m; q = (choice (keys es)).q; bits = sym (choice-bits (keys es) (omega (arith, length-keys es))) j })

  pub read_entry-normal_page : ascending es ≡ true → (i : ℕ) (d : Entry) → i < length es
      → read_entry (normal_page pn es) i ≡ Answer.Value (get_or es i d)
  unfolding normal_page
  read_entry-normal_page =
      read_entry-page_under pn es (choice (keys es)).m (choice (keys es)).q (laid_normal pn es small some sound fitting)

  pub AllBelow-normal_page : AllBelow 256 (normal_page pn es)
  unfolding normal_page
  AllBelow-normal_page = AllBelow-page_under pn es (choice (keys es)).m (choice (keys es)).q (laid_normal pn es small some sound fitting)
