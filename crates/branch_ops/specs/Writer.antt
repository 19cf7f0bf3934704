-- The writing of an edit record, edit by edit. Document 01, "Edit record".
-- In order: with_bits · starting_writer has_room pushed_writer pushed_bytes · has_end finished_bytes ·
-- Writing pushed_all record_in.
-- Assumes nothing.
use Rattle.std.specs.Prelude.{Bool, cond, ◌&&◌, List, [], ◌∷◌, ℕ, ◌+◌, ◌-◌, ◌*◌, min, max, ltb, leb, length, replicate}
use Rattle.std.proofs.Math.Seq.{paste}
use Rattle.format.specs.Bits.{bits, bits_of, pack, bytes_for}
use Rattle.format.specs.Edit.{Edit, edit_bits}
use Rattle.branch_ops.specs.declared.writer.RecordWriter.{RecordWriter}

-- The bytes d with bs in the bits from p on; every other bit is as it was.
unfoldable pub with_bits : List ℕ → ℕ → List ℕ → List ℕ
unfolding bits_of pack
with_bits d p bs = pack (length d) (paste (bits_of d) p bs (length bs))

-- The writer that has written no edit: ten bits are left for the count.
unfoldable pub starting_writer : RecordWriter
starting_writer = record { edits = 0; bit = 10 }

-- There is room for one edit more: a record has at most 1,023, and its end is in the buffer and in the 37,085 bytes
-- of the longest record.
unfoldable pub has_room : RecordWriter → List ℕ → Edit → Bool
unfolding bytes_for edit_bits
has_room w d e = ltb w.edits 1023 && leb (bytes_for (w.bit + length (edit_bits e))) (min (length d) 37085)

-- The writer after one edit more; as it was where there is no room.
unfoldable pub pushed_writer : RecordWriter → List ℕ → Edit → RecordWriter
unfolding has_room edit_bits
pushed_writer w d e = cond (has_room w d e) (record { edits = w.edits + 1; bit = w.bit + length (edit_bits e) }) w

-- The buffer after one edit more; as it was where there is no room.
unfoldable pub pushed_bytes : RecordWriter → List ℕ → Edit → List ℕ
unfolding has_room with_bits edit_bits
pushed_bytes w d e = cond (has_room w d e) (with_bits d w.bit (edit_bits e)) d

-- The record's end is in the buffer and in the 37,085 bytes of the longest record; it has two bytes at least.
unfoldable pub has_end : RecordWriter → List ℕ → Bool
unfolding bytes_for
has_end w d = leb (max 2 (bytes_for w.bit)) (min (length d) 37085)

-- The buffer at the end: zeros behind the last edit up to the byte's end, and the count in the first ten bits; as it
-- was where the record has no end there.
unfoldable pub finished_bytes : RecordWriter → List ℕ → List ℕ
unfolding has_end bits bits_of pack bytes_for
finished_bytes w d =
    let pad : ℕ = 8 * bytes_for w.bit - w.bit in
    let padded : List ℕ = paste (bits_of d) w.bit (replicate pad 0) pad in
    cond (has_end w d) (pack (length d) (paste padded 0 (bits 10 w.edits) 10)) d

-- A writer and its buffer.
pub record Writing : Type 0 where
  pub writer : RecordWriter
  pub buffer : List ℕ

-- They after edits, one pushed behind the other.
unfoldable pub pushed_all : Writing → List Edit → Writing
unfolding pushed_writer pushed_bytes
pushed_all s [] = s
pushed_all s (e ∷ es) =
    let next : Writing = record {
      writer = pushed_writer s.writer s.buffer e;
      buffer = pushed_bytes s.writer s.buffer e;
    } in
    pushed_all next es

-- The buffer d after a new writer has written edits and the end.
unfoldable pub record_in : List ℕ → List Edit → List ℕ
unfolding pushed_all starting_writer finished_bytes
record_in d es =
    let s : Writing = pushed_all (record { writer = starting_writer; buffer = d }) es in
    finished_bytes s.writer s.buffer
