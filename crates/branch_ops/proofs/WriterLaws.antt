-- Laws of the record writer (`specs/Writer.antt`).
-- In order: one edit more, as the code writes it; the end, as the code writes it; what the buffer holds after some
-- edits (`Holds`), one more, and the end, where its first bytes are the record of the edits; all edits of a record
-- (`record_in`).
-- Not here: bits that are written (`PutLaws`).
-- Assumes nothing.
use mathlib.Core.Bool.{Bool, true, false, cond, ◌&&◌}
use mathlib.Core.List.{List, [], ◌∷◌, ◌++◌, append_assoc, append-nil}
use mathlib.Core.Path.{◌≡◌, refl, sym, ap, ap₂, subst, ◌∙◌}
use Prim.Native.Nat.{ℕ, ◌+◌, ◌-◌, ◌*◌, ◌^◌, ◌≤◌, ◌<◌, min, max}
use native.Mathlib.Nat.{add-zero, le_trans}
use native.Mathlib.Omega.{arith}
use borrow.Author.Tests.{lt-ltb, le-ltb, le-leb, lt-leb}
use lib.ListN.{length, take, drop, replicate, length-append, length-replicate, take-append-drop}
use lib.Seq.{length-paste, length-take-le, paste, take_all, take-append-add, take_at, take-paste}
use mir.Syntax.{w64}
use mir.Val.{Fits}
use Rattle.format.specs.Bits.{bits, bits_of, pack, bytes_for, AllBelow}
use Rattle.format.specs.Edit.{Edit, WellFormed, AllWellFormed, edit_bits, edits_bits, record_of}
use Rattle.format.specs.Edit.Edit.{Insert, Update, Keep}
use Rattle.facts.proofs.BitsLaws.{AllBelow-append, AllBelow-bits, AllBelow-bits_of, AllBelow-drop, AllBelow-pack, AllBelow-replicate, AllBelow-take, bits_of-append, bytes_for-holds, bytes_for-least, bytes_for_mono, bytes_for_slack, length-bits, length-bits_of, length-pack, pack_zeros, packed}
use Rattle.facts.proofs.RecordLaws.{AllBelow-edit_bits, edits_bits-append, headed, record_of-pack, length-edit_bits}
use Rattle.words.proofs.NumberLaws.{bits-zero}
use Rattle.words.proofs.WindowLaws.{drop-append, drop-take}
use Rattle.parts.specs.Parts.{with_number}
use Rattle.parts.proofs.BitLaws.{with_number-inside}
use Rattle.branch_ops.specs.declared.writer.RecordWriter.{RecordWriter}
use Rattle.branch_ops.specs.Writer.{
  with_bits,
  starting_writer,
  has_room,
  pushed_writer,
  pushed_bytes,
  has_end,
  finished_bytes,
  Writing,
  pushed_all,
  record_in,
}
use Rattle.branch_ops.proofs.PutLaws.{AllBelow_paste, bits_of_packed, length-with_bits}

-- ---- one edit more

module _ (w : RecordWriter) (d : List ℕ) (e : Edit) where
  room_many : 1023 ≤ w.edits → has_room w d e ≡ false
  unfolding has_room
  room_many h = rw (le-ltb w.edits 1023 h)

  room_full : w.edits < 1023 → min (length d) 37085 < bytes_for (w.bit + length (edit_bits e)) → has_room w d e ≡ false
  unfolding has_room
  room_full h l =
      ap₂ ◌&&◌ (lt-ltb w.edits 1023 h) (lt-leb (bytes_for (w.bit + length (edit_bits e))) (min (length d) 37085) l)

  pub has_room_enough : w.edits < 1023 → bytes_for (w.bit + length (edit_bits e)) ≤ min (length d) 37085
      → has_room w d e ≡ true
  unfolding has_room
  has_room_enough h l =
      ap₂ ◌&&◌ (lt-ltb w.edits 1023 h) (le-leb (bytes_for (w.bit + length (edit_bits e))) (min (length d) 37085) l)

  pub pushed_writer_room : has_room w d e ≡ true → pushed_writer w d e
      ≡ record { edits = w.edits + 1; bit = w.bit + length (edit_bits e) }
  unfolding pushed_writer
  pushed_writer_room q =
      ap (λ (b : Bool). cond b (record { edits = w.edits + 1; bit = w.bit + length (edit_bits e) }) w) q

  pub pushed_writer-none : has_room w d e ≡ false → pushed_writer w d e ≡ w
  unfolding pushed_writer
  pushed_writer-none q =
      ap (λ (b : Bool). cond b (record { edits = w.edits + 1; bit = w.bit + length (edit_bits e) }) w) q

  pub pushed_bytes_room : has_room w d e ≡ true → pushed_bytes w d e ≡ with_bits d w.bit (edit_bits e)
  unfolding pushed_bytes
  pushed_bytes_room q = ap (λ (b : Bool). cond b (with_bits d w.bit (edit_bits e)) d) q

  pub pushed_bytes-none : has_room w d e ≡ false → pushed_bytes w d e ≡ d
  unfolding pushed_bytes
  pushed_bytes-none q = ap (λ (b : Bool). cond b (with_bits d w.bit (edit_bits e)) d) q

  pub many_writer : 1023 ≤ w.edits → w ≡ pushed_writer w d e
  many_writer h = sym (pushed_writer-none (room_many h))

  pub many_bytes : 1023 ≤ w.edits → d ≡ pushed_bytes w d e
  many_bytes h = sym (pushed_bytes-none (room_many h))

  module _ (n a b : ℕ) (few : w.edits < 1023) (en : n ≡ length (edit_bits e)) (ea : a ≡ min (length d) 37085)
      (eb : b ≡ bytes_for (w.bit + n)) where
    b_is : b ≡ bytes_for (w.bit + length (edit_bits e))
    b_is = eb ∙ ap (λ (k : ℕ). bytes_for (w.bit + k)) en

    pub full_writer : a < b → w ≡ pushed_writer w d e
    full_writer h = sym (pushed_writer-none (room_full few (omega (arith, b_is))))

    pub full_bytes : a < b → d ≡ pushed_bytes w d e
    full_bytes h = sym (pushed_bytes-none (room_full few (omega (arith, b_is))))

    module _ (h : b ≤ a) where
      has_room_lem : has_room w d e ≡ true
      has_room_lem = has_room_enough few (omega (arith, b_is))

      pub push_room : w.bit + length (edit_bits e) ≤ 8 * length d
      push_room = omega (arith, b_is, bytes_for-holds (w.bit + length (edit_bits e)))

      pub push_near : w.bit < 2 ^ 30
      push_near = omega (arith, b_is, bytes_for-holds (w.bit + length (edit_bits e)))

      pub push-fits : Fits w64 (w.bit + n)
      push-fits = omega (arith, b_is, bytes_for-holds (w.bit + length (edit_bits e)))

      pub push_writer : record { edits = w.edits + 1; bit = w.bit + n } ≡ pushed_writer w d e
      push_writer =
          ap (λ (k : ℕ). record { edits = w.edits + 1; bit = w.bit + k }) en ∙ sym (pushed_writer_room has_room_lem)

      pub push_bytes : (d' : List ℕ) → d' ≡ with_bits d w.bit (edit_bits e) → d' ≡ pushed_bytes w d e
      push_bytes d' q = q ∙ sym (pushed_bytes_room has_room_lem)

-- ---- the end

module _ (w : RecordWriter) (d : List ℕ) where
  -- the bits of the buffer with padding, and then with the count
  abbrev pub padded_bits : List ℕ
  padded_bits =
      let pad : ℕ = 8 * bytes_for w.bit - w.bit in
      paste (bits_of d) w.bit (replicate pad 0) pad

  abbrev pub finished_bits : List ℕ
  finished_bits = paste padded_bits 0 (bits 10 w.edits) 10

  end_short : min (length d) 37085 < 2 → has_end w d ≡ false
  unfolding has_end
  end_short h = lt-leb (max 2 (bytes_for w.bit)) (min (length d) 37085) (omega arith)

  end_past : min (length d) 37085 < bytes_for w.bit → has_end w d ≡ false
  unfolding has_end
  end_past h = lt-leb (max 2 (bytes_for w.bit)) (min (length d) 37085) (omega arith)

  pub has_end_enough : 2 ≤ min (length d) 37085 → bytes_for w.bit ≤ min (length d) 37085 → has_end w d ≡ true
  unfolding has_end
  has_end_enough h l = le-leb (max 2 (bytes_for w.bit)) (min (length d) 37085) (omega arith)

  pub finished_bytes-end : has_end w d ≡ true → finished_bytes w d ≡ pack (length d) finished_bits
  unfolding finished_bytes
  finished_bytes-end q = ap (λ (b : Bool). cond b (pack (length d) finished_bits) d) q

  pub finished_bytes-none : has_end w d ≡ false → finished_bytes w d ≡ d
  unfolding finished_bytes
  finished_bytes-none q = ap (λ (b : Bool). cond b (pack (length d) finished_bits) d) q

  below-padded : AllBelow 2 padded_bits
  below-padded =
      let pad : ℕ = 8 * bytes_for w.bit - w.bit in
      AllBelow_paste (bits_of d) w.bit (replicate pad 0) pad (AllBelow-bits_of d)
      (AllBelow-replicate 2 pad 0 (omega arith))

  length-padded : w.bit ≤ 8 * bytes_for w.bit → bytes_for w.bit ≤ length d → length padded_bits ≡ 8 * length d
  length-padded h l =
      let pad : ℕ = 8 * bytes_for w.bit - w.bit in
      length-paste (bits_of d) w.bit (replicate pad 0) pad (omega (arith, length-bits_of d))
      (omega (arith, length-replicate {A = ℕ} pad 0))
      ∙ length-bits_of d

  length_finished : w.bit ≤ 8 * bytes_for w.bit → bytes_for w.bit ≤ length d → 2 ≤ length d
      → length finished_bits ≡ 8 * length d
  length_finished h l m =
      length-paste padded_bits 0 (bits 10 w.edits) 10 (omega (arith, length-padded h l))
      (omega (arith, length-bits 10 w.edits))
      ∙ length-padded h l

  module _ (size room : ℕ) (es : size ≡ bytes_for (w.bit + 0)) (er : room ≡ min (length d) 37085) where
    size_is : size ≡ bytes_for w.bit
    size_is = es ∙ ap bytes_for (add-zero w.bit)

    pub short_end : room < 2 → d ≡ finished_bytes w d
    short_end h = sym (finished_bytes-none (end_short (omega arith)))

    pub past_end : room < size → d ≡ finished_bytes w d
    past_end h = sym (finished_bytes-none (end_past (omega (arith, size_is))))

    module _ (two : 2 ≤ room) (h : size ≤ room) where
      pub finish-sub : w.bit ≤ 8 * size
      finish-sub = omega (arith, size_is, bytes_for-holds w.bit)

      pub finish-fits : Fits w64 (8 * size)
      finish-fits = omega arith

      pub finish_pad : 8 * size - w.bit ≤ 64
      finish_pad = omega (arith, size_is, bytes_for_slack w.bit)

      pub finish_bytes : (d₁ d₂ : List ℕ) → d₁ ≡ with_number d w.bit (8 * size - w.bit) 0
          → d₂ ≡ with_number d₁ 0 10 w.edits
          → d₂ ≡ finished_bytes w d
      finish_bytes d₁ d₂ q₁ q₂ =
          let pad : ℕ = 8 * bytes_for w.bit - w.bit in
          let c : List ℕ = bits 10 w.edits in
          let z : 8 * size - w.bit ≡ pad = ap (λ (k : ℕ). 8 * k - w.bit) size_is in
          let room : bytes_for w.bit ≤ length d = omega (arith, size_is) in
          let holds : w.bit ≤ 8 * bytes_for w.bit = bytes_for-holds w.bit in
          let r₁ : d₁ ≡ pack (length d) padded_bits =
          q₁ ∙ with_number-inside d w.bit (8 * size - w.bit) 0 finish_pad (omega (arith, finish-sub))
          ∙ ap (λ (k : ℕ). pack (length d) (paste (bits_of d) w.bit (bits k 0) k)) z
          ∙ ap (λ (x : List ℕ). pack (length d) (paste (bits_of d) w.bit x pad)) (bits-zero pad) in
          let l₁ : length d₁ ≡ length d = ap length r₁ ∙ length-pack (length d) padded_bits in
          let b₁ : bits_of d₁ ≡ padded_bits =
          ap bits_of r₁ ∙ bits_of_packed d padded_bits below-padded (length-padded holds room) in
          q₂ ∙ with_number-inside d₁ 0 10 w.edits (omega arith) (omega arith)
          ∙ ap₂ (λ (k : ℕ) (x : List ℕ). pack k (paste x 0 c 10)) l₁ b₁
          ∙ sym (finished_bytes-end (has_end_enough (omega arith) (omega (arith, size_is))))

pub size_answer_lem : (w : RecordWriter) (size : ℕ) → size ≡ bytes_for (w.bit + 0) → size ≡ bytes_for w.bit
size_answer_lem w size es = es ∙ ap bytes_for (add-zero w.bit)

-- ---- what the buffer holds

-- the edits es are written in d, behind the ten bits of the count
pub record Holds (d : List ℕ) (w : RecordWriter) (es : List Edit) : Type 0 where
  pub edits : w.edits ≡ length es
  pub bit : w.bit ≡ 10 + length (edits_bits es)
  pub body : take (length (edits_bits es)) (drop 10 (bits_of d)) ≡ edits_bits es

pub holds-none : (d : List ℕ) → Holds d starting_writer []
unfolding starting_writer edits_bits
holds-none d = record { edits = refl; bit = refl; body = refl }

-- bits behind the first n of a list, up to k
take-drop : (n k : ℕ) (x : List ℕ) → take k (drop n x) ≡ drop n (take (n + k) x)
take-drop n k x =
    let e : (n + k) - n ≡ k = omega arith in
    sym (drop-take n (n + k) x ∙ ap (λ (j : ℕ). take j (drop n x)) e)

drop_front : (n p : ℕ) (x y : List ℕ) → n ≤ p → length x ≡ p → drop n (x ++ y) ≡ drop n x ++ y
drop_front n p x y h e =
    let z : n - length x ≡ 0 = omega arith in
    drop-append n x y ∙ ap (λ (k : ℕ). drop n x ++ drop k y) z

edits_bits-one : (e : Edit) → edits_bits (e ∷ []) ≡ edit_bits e
unfolding edits_bits
edits_bits-one e = append-nil (edit_bits e)

edit_most : (e : Edit) → WellFormed e → length (edit_bits e) ≤ 290
edit_most (Insert k p) f = omega (arith, length-edit_bits (Insert k p) f)
edit_most (Update i p) f = omega (arith, length-edit_bits (Update i p) f)
edit_most (Keep s e) f = omega (arith, length-edit_bits (Keep s e) f)

edits_most : (es : List Edit) → AllWellFormed es → length (edits_bits es) ≤ 290 * length es
unfolding edits_bits
edits_most [] f = omega arith
edits_most (e ∷ es) f =
    omega (arith, length-append (edit_bits e) (edits_bits es), edit_most e f.0, edits_most es f.1)

module _ (d : List ℕ) (w : RecordWriter) (es : List Edit) (h : Holds d w es) (f : AllWellFormed es) where
  room_holds : (e : Edit) → WellFormed e → length es < 1023 → bytes_for (w.bit + length (edit_bits e)) ≤ length d
      → has_room w d e ≡ true
  room_holds e g n m =
      let b : bytes_for (w.bit + length (edit_bits e)) ≤ 37085 =
      bytes_for-least (w.bit + length (edit_bits e)) 37085 (omega (arith, h.bit, edit_most e g, edits_most es f)) in
      has_room_enough w d e (omega (arith, h.edits)) (omega arith)

  -- one edit more, where the record with it is not too long for the buffer
  pub holds-push : (e : Edit) → WellFormed e → length es < 1023 → bytes_for (w.bit + length (edit_bits e)) ≤ length d
      → Holds (pushed_bytes w d e) (pushed_writer w d e) (es ++ (e ∷ []))
  unfolding with_bits
  holds-push e g u v =
      let r : has_room w d e ≡ true = room_holds e g u v in
      let b : AllBelow 2 (edit_bits e) = AllBelow-edit_bits e g in
      let m : w.bit + length (edit_bits e) ≤ 8 * length d =
      omega (arith, bytes_for-holds (w.bit + length (edit_bits e))) in
      let n : ℕ = length (edit_bits e) in
      let l : ℕ = length (edits_bits es) in
      let x : List ℕ = bits_of d in
      let y : List ℕ = paste x w.bit (edit_bits e) n in
      let one : edits_bits (es ++ (e ∷ [])) ≡ edits_bits es ++ edit_bits e =
      edits_bits-append es (e ∷ []) ∙ ap (λ (z : List ℕ). edits_bits es ++ z) (edits_bits-one e) in
      let lone : length (edits_bits (es ++ (e ∷ []))) ≡ l + n =
      ap length one ∙ length-append (edits_bits es) (edit_bits e) in
      let ly : length y ≡ 8 * length d =
      length-paste x w.bit (edit_bits e) n (omega (arith, length-bits_of d)) (omega arith) ∙ length-bits_of d in
      let by : bits_of (pushed_bytes w d e) ≡ y =
      ap bits_of (pushed_bytes_room w d e r)
      ∙ bits_of_packed d y (AllBelow_paste x w.bit (edit_bits e) n (AllBelow-bits_of d) b) ly in
      let lt : length (take w.bit x) ≡ w.bit = length-take-le w.bit x (omega (arith, length-bits_of d)) in
      let wb : 10 + (l + n) ≡ w.bit + n = omega (arith, h.bit) in
      let front : drop 10 (take w.bit x) ≡ edits_bits es =
      ap (λ (k : ℕ). drop 10 (take k x)) h.bit ∙ sym (take-drop 10 l x) ∙ h.body in
      record {
        edits =
            ap (λ (v : RecordWriter). v.edits) (pushed_writer_room w d e r)
            ∙ omega (arith, h.edits, length-append es (e ∷ []));
        bit = ap (λ (v : RecordWriter). v.bit) (pushed_writer_room w d e r) ∙ omega (arith, h.bit, lone);
        body =
            ap₂ (λ (k : ℕ) (z : List ℕ). take k (drop 10 z)) lone by ∙ take-drop 10 (l + n) y
            ∙ ap (λ (k : ℕ). drop 10 (take k y)) wb
            ∙ ap (drop 10) (take-paste x w.bit (edit_bits e) n (omega (arith, length-bits_of d)) (omega arith)
            ∙ ap (λ (z : List ℕ). take w.bit x ++ z) (take_all n (edit_bits e) (omega arith)))
            ∙ drop_front 10 w.bit (take w.bit x) (edit_bits e) (omega (arith, h.bit)) lt
            ∙ ap (λ (z : List ℕ). z ++ edit_bits e) front ∙ sym one;
      }

  -- the end
  ends : length es ≤ 1023 → bytes_for w.bit ≤ length d → has_end w d ≡ true
  ends u v =
      let b : bytes_for w.bit ≤ 37085 = bytes_for-least w.bit 37085 (omega (arith, h.bit, edits_most es f)) in
      let t : 2 ≤ bytes_for w.bit = omega (arith, bytes_for-holds w.bit, h.bit) in
      has_end_enough w d (omega arith) (omega arith)

  finished_front : bytes_for w.bit ≤ length d
      → take (8 * bytes_for w.bit) (finished_bits w d) ≡ headed es ++ replicate (8 * bytes_for w.bit - w.bit) 0
  finished_front v =
      let k : ℕ = bytes_for w.bit in
      let pad : ℕ = 8 * k - w.bit in
      let x : List ℕ = bits_of d in
      let z : List ℕ = replicate pad 0 in
      let c : List ℕ = bits 10 w.edits in
      let pb : List ℕ = padded_bits w d in
      let l : ℕ = length (edits_bits es) in
      let kb : w.bit ≤ 8 * k = bytes_for-holds w.bit in
      let lx : length x ≡ 8 * length d = length-bits_of d in
      let lc : length c ≡ 10 = length-bits 10 w.edits in
      let lz : length z ≡ pad = length-replicate {A = ℕ} pad 0 in
      let lt : length (take w.bit x) ≡ w.bit = length-take-le w.bit x (omega arith) in
      let front : drop 10 (take w.bit x) ≡ edits_bits es =
      ap (λ (j : ℕ). drop 10 (take j x)) h.bit ∙ sym (take-drop 10 l x) ∙ h.body in
      let e₁ : 8 * k ≡ length c + (8 * k - 10) = omega (arith, h.bit) in
      let e₂ : 10 + (8 * k - 10) ≡ w.bit + pad = omega (arith, h.bit) in
      ap (λ (j : List ℕ). take (8 * k) (j ++ drop 10 pb)) (take_all 10 c (omega arith))
      ∙ ap (λ (j : ℕ). take j (c ++ drop 10 pb)) e₁ ∙ take-append-add c (drop 10 pb) (8 * k - 10)
      ∙ ap (λ (j : List ℕ). c ++ j)
      (take-drop 10 (8 * k - 10) pb ∙ ap (λ (j : ℕ). drop 10 (take j pb)) e₂
      ∙ ap (drop 10) (take-paste x w.bit z pad (omega arith) (omega arith)
      ∙ ap (λ (j : List ℕ). take w.bit x ++ j) (take_all pad z (omega arith)))
      ∙ drop_front 10 w.bit (take w.bit x) z (omega (arith, h.bit)) lt
      ∙ ap (λ (j : List ℕ). j ++ z) front)
      ∙ ap (λ (n : ℕ). bits 10 n ++ (edits_bits es ++ z)) h.edits
      ∙ sym (append_assoc (bits 10 (length es)) (edits_bits es) z)

  headed_bits : AllBelow 2 (headed es)
  headed_bits =
      AllBelow-append 2 (bits 10 (length es)) (edits_bits es) (AllBelow-bits 10 (length es))
      (subst (AllBelow 2) h.body
      (AllBelow-take 2 (length (edits_bits es)) (drop 10 (bits_of d))
      (AllBelow-drop 2 10 (bits_of d) (AllBelow-bits_of d))))

  headed_length : length (headed es) ≡ w.bit
  headed_length = length-append (bits 10 (length es)) (edits_bits es) ∙ omega (arith, length-bits 10 (length es), h.bit)

  -- the length that is answered is the record's
  pub holds-length : bytes_for w.bit ≡ length (record_of es)
  holds-length =
      sym (ap length (record_of-pack es) ∙ length-pack (bytes_for (length (headed es))) (headed es)
      ∙ ap bytes_for headed_length)

  -- and the buffer begins with the record
  pub holds-finish : length es ≤ 1023 → bytes_for w.bit ≤ length d
      → take (bytes_for w.bit) (finished_bytes w d) ≡ record_of es
  holds-finish u v =
      let k : ℕ = bytes_for w.bit in
      let pad : ℕ = 8 * k - w.bit in
      let x : List ℕ = finished_bits w d in
      let t : List ℕ = pack (length d) x in
      let two : 2 ≤ length d = omega (arith, bytes_for-holds w.bit, h.bit) in
      let bx : AllBelow 2 x =
      AllBelow_paste (padded_bits w d) 0 (bits 10 w.edits) 10 (below-padded w d) (AllBelow-bits 10 w.edits) in
      let lx : length x ≡ 8 * length d = length_finished w d (bytes_for-holds w.bit) v two in
      let lk : length (take k t) ≡ k = length-take-le k t (omega (arith, length-pack (length d) x)) in
      let whole : bits_of (take k t) ++ bits_of (drop k t) ≡ x =
      sym (bits_of-append (take k t) (drop k t)) ∙ ap bits_of (take-append-drop k t) ∙ bits_of_packed d x bx lx in
      let l8 : length (bits_of (take k t)) ≡ 8 * k = omega (arith, length-bits_of (take k t), lk) in
      let front : bits_of (take k t) ≡ headed es ++ replicate pad 0 =
      sym (take_at (bits_of (take k t)) (bits_of (drop k t)) (8 * k) l8) ∙ ap (take (8 * k)) whole ∙ finished_front v in
      ap (take k) (finished_bytes-end w d (ends u v))
      ∙ packed (take k t) (headed es ++ replicate pad 0) (AllBelow-take 256 k t (AllBelow-pack (length d) x bx)) front
      ∙ ap (λ (n : ℕ). pack n (headed es ++ replicate pad 0)) lk ∙ pack_zeros k pad (headed es) headed_bits
      ∙ sym (record_of-pack es ∙ ap (λ (n : ℕ). pack (bytes_for n) (headed es)) headed_length)

-- ---- all edits of a record

length-pushed_bytes : (w : RecordWriter) (d : List ℕ) (e : Edit) → length (pushed_bytes w d e) ≡ length d
length-pushed_bytes w d e = go (has_room w d e) refl
  where
    go : (b : Bool) → has_room w d e ≡ b → length (pushed_bytes w d e) ≡ length d
    go true q = ap length (pushed_bytes_room w d e q) ∙ length-with_bits d w.bit (edit_bits e)
    go false q = ap length (pushed_bytes-none w d e q)

length-pushed_all : (es : List Edit) (s : Writing) → length (pushed_all s es).buffer ≡ length s.buffer
unfolding pushed_all
length-pushed_all [] s = refl
length-pushed_all (e ∷ es) s =
    length-pushed_all es (record {
      writer = pushed_writer s.writer s.buffer e;
      buffer = pushed_bytes s.writer
          s.buffer e;
    })
    ∙ length-pushed_bytes s.writer s.buffer e

length-cons : (e : Edit) (es : List Edit) → length (edits_bits (e ∷ es)) ≡ length (edit_bits e) + length (edits_bits es)
unfolding edits_bits
length-cons e es = length-append (edit_bits e) (edits_bits es)

AllWellFormed_front : (es fs : List Edit) → AllWellFormed (es ++ fs) → AllWellFormed es
AllWellFormed_front [] fs f = tt
AllWellFormed_front (e ∷ es) fs f = (f.0, AllWellFormed_front es fs f.1)

AllWellFormed_next : (es : List Edit) (e : Edit) (fs : List Edit) → AllWellFormed (es ++ (e ∷ fs)) → WellFormed e
AllWellFormed_next [] e fs f = f.0
AllWellFormed_next (x ∷ es) e fs f = AllWellFormed_next es e fs f.1

holds_all : (fs es : List Edit) (s : Writing) → Holds s.buffer s.writer es → AllWellFormed (es ++ fs)
    → length (es ++ fs) ≤ 1023 → bytes_for (10 + length (edits_bits (es ++ fs))) ≤ length s.buffer
    → Holds (pushed_all s fs).buffer (pushed_all s fs).writer (es ++ fs)
unfolding pushed_all
holds_all [] es s h f u v = subst (Holds s.buffer s.writer) (sym (append-nil es)) h
holds_all (e ∷ fs) es s h f u v =
    let w : RecordWriter = s.writer in
    let d : List ℕ = s.buffer in
    let one : es ++ (e ∷ fs) ≡ (es ++ (e ∷ [])) ++ fs = sym (append_assoc es (e ∷ []) fs) in
    let bits_are : length (edits_bits (es ++ (e ∷ fs))) ≡ length (edits_bits es) +
    (length (edit_bits e) + length (edits_bits fs)) =
    ap length (edits_bits-append es (e ∷ fs)) ∙ length-append (edits_bits es) (edits_bits (e ∷ fs))
    ∙ ap (λ (k : ℕ). length (edits_bits es) + k) (length-cons e fs) in
    let fits : bytes_for (w.bit + length (edit_bits e)) ≤ length d =
    le_trans (bytes_for_mono (w.bit + length (edit_bits e)) (10 + length (edits_bits (es ++ (e ∷ fs))))
    (omega (arith, h.bit))) v in
    let n : Holds (pushed_bytes w d e) (pushed_writer w d e) (es ++ (e ∷ [])) =
    holds-push d w es h (AllWellFormed_front es (e ∷ fs) f) e (AllWellFormed_next es e fs f)
    (omega (arith, length-append es (e ∷ fs))) fits in
    let next : Writing = record { writer = pushed_writer w d e; buffer = pushed_bytes w d e } in
    subst (Holds (pushed_all next fs).buffer (pushed_all next fs).writer) (sym one)
    (holds_all fs (es ++ (e ∷ [])) next n (subst AllWellFormed one f) (subst (λ (l : List Edit). length l ≤ 1023) one u)
    (subst (λ (k : ℕ). bytes_for (10 + length (edits_bits ((es ++ (e ∷ [])) ++ fs))) ≤ k) (sym (length-pushed_bytes w d e))
    (subst (λ (l : List Edit). bytes_for (10 + length (edits_bits l)) ≤ length d) one v)))

-- edits that are written into a buffer with room for their record leave it there
holds-record_of : (d : List ℕ) (es : List Edit) → AllWellFormed es → length es ≤ 1023
    → length (record_of es) ≤ length d
    → let s : Writing = pushed_all (record { writer = starting_writer; buffer = d }) es in Holds s.buffer s.writer es
holds-record_of d es f u v =
    let z : bytes_for (10 + length (edits_bits es)) ≡ length (record_of es) =
    sym (ap length (record_of-pack es) ∙ length-pack (bytes_for (length (headed es))) (headed es)
    ∙ ap bytes_for (length-append (bits 10 (length es)) (edits_bits es)
    ∙ ap (λ (k : ℕ). k + length (edits_bits es)) (length-bits 10 (length es)))) in
    holds_all es [] (record { writer = starting_writer; buffer = d }) (holds-none d) f u (omega (arith, z))

pub record_in-record_of : (d : List ℕ) (es : List Edit) → AllWellFormed es → length es ≤ 1023
    → length (record_of es) ≤ length d
    → take (length (record_of es)) (record_in d es) ≡ record_of es
unfolding record_in
record_in-record_of d es f u v =
    let s : Writing = pushed_all (record { writer = starting_writer; buffer = d }) es in
    let h : Holds s.buffer s.writer es = holds-record_of d es f u v in
    let l : length s.buffer ≡ length d = length-pushed_all es (record { writer = starting_writer; buffer = d }) in
    ap (λ (k : ℕ). take k (finished_bytes s.writer s.buffer)) (sym (holds-length s.buffer s.writer es h f))
    ∙ holds-finish s.buffer s.writer es h f u (omega (arith, holds-length s.buffer s.writer es h f, l))

-- the writer ends where that record does
pub size-record_of : (d : List ℕ) (es : List Edit) → AllWellFormed es → length es ≤ 1023
    → length (record_of es) ≤ length d
    → bytes_for (pushed_all (record { writer = starting_writer; buffer = d }) es).writer.bit ≡ length (record_of es)
size-record_of d es f u v =
    let s : Writing = pushed_all (record { writer = starting_writer; buffer = d }) es in
    holds-length s.buffer s.writer es (holds-record_of d es f u v) f
