-- Both sides of the lines that document 01 draws, by computation; each of the refusals 1 to 19 is given at least
-- once.
-- In order: `Pages` (1 to 8, 16), `Builds` (9 to 15), `Calls` (17 to 19); the number of each refusal.
-- Not here: a full page of 108 entries, read and built (crate `cases`), and the outside cases (crate `vectors`).
-- Assumes nothing.
use mathlib.Core.List.{[], ◌∷◌, map}
use mathlib.Core.Path.{◌≡◌, refl}
use Rattle.format.specs.Answer.{Answer, refusal_of, afterwards, first}
use Rattle.format.specs.Refusals.{refusal_number}
use Rattle.format.specs.declared.refusal.Refusal.TheVariants.{PageLength, NoEntries, CompressedCount, PrefixLength, BodyTooLong, OffsetsFall, EntryBits, KeysNotAscending, OutputLength, MalformedRecord, EditOutside, NoEdits, NewKeysNotAscending, NoRoom, UndoTooShort, IndexPastEnd, NotBelow, RangeOutside, Unrepresentable}
use Rattle.format.specs.Page.{page_refusal, read_entry}
use Rattle.format.specs.Sizes.{body_size, whole_from_stored, stored_from_whole}
use Rattle.format.specs.Ranges.{separate, bit_copy, rebuild_key}
use Rattle.format.specs.Normal.{normal_page}
use Rattle.format.specs.Edit.{record_of}
use Rattle.format.specs.Edit.Edit.{Insert, Update, Keep}
use Rattle.format.specs.Undo.{undo_record}
use Rattle.format.specs.Build.{edit_tests, build}
use Rattle.format.proofs.Samples.{hex, zeros, key, two, inserts, full, blank, built}

-- ---- pages

pub record Pages : Type 0 where
  -- 1: 4,096 bytes, one less, one more, none
  pub size_4096 : page_refusal (blank 1 1 256 (0 ∷ []) [] 4084) ≡ 0
  pub size_4095 : page_refusal (blank 1 1 256 (0 ∷ []) [] 4083) ≡ 1
  pub size_4097 : page_refusal (blank 1 1 256 (0 ∷ []) [] 4085) ≡ 1
  pub size_0 : page_refusal [] ≡ 1
  -- 2: n of 0; 1 is accepted above
  pub n_0 : page_refusal (blank 0 0 0 [] [] 4086) ≡ 2
  -- 3: m of 0 and of n + 1; m = n is accepted above
  pub m_0 : page_refusal (blank 1 0 0 (1 ∷ []) [] 4084) ≡ 3
  pub m_past_n : page_refusal (blank 1 2 0 (1 ∷ []) [] 4084) ≡ 3
  -- 4: q of 256, with m = 1 and an empty separator, is accepted above; 257 is not
  pub q_257 : page_refusal (blank 1 1 257 (0 ∷ []) [] 4084) ≡ 4
  -- 5: 4,086 body bytes are too many bits for one entry, 4,087 too many bytes; 682 entries are too many, 681 are not
  -- (crate `cases`); the last end offset is taken as it stands
  pub body_4086 : page_refusal (blank 1 1 0 (32640 ∷ []) [] 4084) ≡ 7
  pub body_4087 : page_refusal (blank 1 1 0 (32641 ∷ []) [] 4084) ≡ 5
  pub n_682 : page_refusal (blank 682 1 0 [] [] 4086) ≡ 5
  pub last_end_large : page_refusal (blank 2 1 0 (3 ∷ 65535 ∷ []) [] 4082) ≡ 5
  pub last_end_small : page_refusal (blank 2 1 0 (65535 ∷ 3 ∷ []) [] 4082) ≡ 6
  -- 6: an end offset one below the one before
  pub end_below : page_refusal (blank 2 1 1 (1 ∷ 0 ∷ []) [] 4082) ≡ 6
  -- 7: an entry of 0 bits, of 1, of 256, of 257; q = 0 with an empty first separator is the first of these
  pub bits_0 : page_refusal (blank 1 1 0 (0 ∷ []) [] 4084) ≡ 7
  pub bits_1 : page_refusal (blank 1 1 0 (1 ∷ []) [] 4084) ≡ 0
  pub bits_256 : page_refusal (blank 1 1 0 (256 ∷ []) [] 4084) ≡ 0
  pub bits_257 : page_refusal (blank 1 1 0 (257 ∷ []) [] 4084) ≡ 7
  pub bits_255_and_1 : page_refusal (blank 1 1 255 (1 ∷ []) [] 4084) ≡ 0
  pub bits_256_and_1 : page_refusal (blank 1 1 256 (1 ∷ []) [] 4084) ≡ 7
  -- end offsets that repeat: the first separator empty against offset 0, a later compressed one, a later plain one
  pub repeat_first : page_refusal (blank 2 2 1 (0 ∷ 1 ∷ []) (0x40 ∷ []) 4081) ≡ 0
  pub repeat_compressed : page_refusal (blank 2 2 1 (1 ∷ 1 ∷ []) (0x40 ∷ []) 4081) ≡ 8
  pub repeat_plain : page_refusal (blank 2 1 1 (1 ∷ 1 ∷ []) (0x40 ∷ []) 4081) ≡ 7
  -- 8: equal keys, falling keys; the bits behind the last separator are ignored
  pub keys_equal : page_refusal (blank 2 1 1 (0 ∷ 1 ∷ []) [] 4082) ≡ 8
  pub keys_fall : page_refusal (blank 2 1 1 (0 ∷ 1 ∷ []) (0x80 ∷ []) 4081) ≡ 8
  pub keys_rise : page_refusal (blank 2 1 1 (0 ∷ 1 ∷ []) (0x7F ∷ []) 4081) ≡ 0
  -- 16: the last index, and n; a refused page comes first
  pub index_last : read_entry (normal_page 7 two) 1 ≡ Answer.Value (record { key = key 0xC0; pointer = 34 })
  pub index_n : read_entry (normal_page 7 two) 2 ≡ Answer.Refused 16
  pub index_n_of_none : read_entry (blank 0 0 0 [] [] 4086) 0 ≡ Answer.Refused 2

pub pages : Pages
unfolding page_refusal read_entry normal_page blank two key
pages =
    record {
      size_4096 = refl;
      size_4095 = refl;
      size_4097 = refl;
      size_0 = refl;
      n_0 = refl;
      m_0 = refl;
      m_past_n = refl;
      q_257 = refl;
      body_4086 = refl;
      body_4087 = refl;
      n_682 = refl;
      last_end_large = refl;
      last_end_small = refl;
      end_below = refl;
      bits_0 = refl;
      bits_1 = refl;
      bits_256 = refl;
      bits_257 = refl;
      bits_255_and_1 = refl;
      bits_256_and_1 = refl;
      repeat_first = refl;
      repeat_compressed = refl;
      repeat_plain = refl;
      keys_equal = refl;
      keys_fall = refl;
      keys_rise = refl;
      index_last = refl;
      index_n = refl;
      index_n_of_none = refl;
    }

-- ---- builds

pub record Builds : Type 0 where
  -- 1: no base of 0 bytes is taken, a base of 1 byte is not; 2 to 8 come before 9
  pub base_none : (build [] (record_of (inserts two)) 7 (zeros 4096) (zeros 2)).answer ≡ Answer.Value (record { n = 2; m = 2; q = 1; bits = 2; undo = 2 })
  pub base_short : (build (0 ∷ []) (record_of (inserts two)) 7 (zeros 4096) (zeros 2)).answer ≡ Answer.Refused 1
  pub base_before_output : (build (zeros 4096) [] 7 [] []).answer ≡ Answer.Refused 2
  -- 9: an output page of 4,096 bytes, one less, one more; 9 comes before 10
  pub output_4096 : (built (record_of (Update 0 5 ∷ [])) 4096 43).answer ≡ Answer.Value (record { n = 1; m = 1; q = 0; bits = 1; undo = 43 })
  pub output_4095 : (built (record_of (Update 0 5 ∷ [])) 4095 43).answer ≡ Answer.Refused 9
  pub output_4097 : (built (record_of (Update 0 5 ∷ [])) 4097 43).answer ≡ Answer.Refused 9
  pub output_before_record : (built [] 0 0).answer ≡ Answer.Refused 9
  -- 10: no byte, one byte, a byte short, a byte more, kind 3; 10 comes before 11
  pub record_empty : (built [] 4096 43).answer ≡ Answer.Refused 10
  pub record_one_byte : (built (0 ∷ []) 4096 43).answer ≡ Answer.Refused 10
  pub record_short : (built (hex 3 0x006000) 4096 43).answer ≡ Answer.Refused 10
  pub record_long : (built (hex 5 0x0060000200) 4096 43).answer ≡ Answer.Refused 10
  pub record_kind_3 : (built (hex 4 0x00700002) 4096 43).answer ≡ Answer.Refused 10
  pub record_before_outside : (built (hex 7 0x005FFC00000015) 4096 43).answer ≡ Answer.Refused 10
  -- 11: both kept, and one past them; an empty run, and one turned round; the last position, and one past it; 11
  -- comes before 13
  pub keep_all : (built (record_of (Keep 0 2 ∷ [])) 4096 4).answer ≡ Answer.Value (record { n = 2; m = 2; q = 1; bits = 2; undo = 4 })
  pub keep_past : (built (record_of (Keep 0 3 ∷ [])) 4096 4).answer ≡ Answer.Refused 11
  pub keep_none : (built (record_of (Keep 1 1 ∷ [])) 4096 43).answer ≡ Answer.Refused 11
  pub keep_turned : (built (record_of (Keep 2 1 ∷ [])) 4096 43).answer ≡ Answer.Refused 11
  pub update_last : (built (record_of (Update 1 5 ∷ [])) 4096 43).answer ≡ Answer.Value (record { n = 1; m = 1; q = 0; bits = 2; undo = 43 })
  pub update_past : (built (record_of (Update 2 5 ∷ [])) 4096 43).answer ≡ Answer.Refused 11
  pub outside_before_order : (built (record_of (Keep 0 1 ∷ Keep 0 1 ∷ Update 2 5 ∷ [])) 4096 43).answer ≡ Answer.Refused 11
  pub outside_of_none : (build [] (record_of (Update 0 5 ∷ [])) 7 (zeros 4096) (zeros 2)).answer ≡ Answer.Refused 11
  -- 12: no edits
  pub no_edits : (built (hex 2 0x0000) 4096 43).answer ≡ Answer.Refused 12
  -- 13: a key twice, keys that fall; a dropped entry is no fault
  pub keys_twice : (built (record_of (Keep 0 1 ∷ Keep 0 1 ∷ [])) 4096 43).answer ≡ Answer.Refused 13
  pub keys_fall : (built (record_of (Keep 1 2 ∷ Keep 0 1 ∷ [])) 4096 43).answer ≡ Answer.Refused 13
  pub keys_rise : (built (record_of (Keep 0 1 ∷ Insert (key 0xA0) 5 ∷ Keep 1 2 ∷ [])) 4096 7).answer ≡ Answer.Value (record { n = 3; m = 3; q = 1; bits = 4; undo = 7 })
  -- 14: 108 entries with 4,087 body bytes; with 4,086 they are built (crate `cases`); 14 comes before 15
  pub room_4087 : first (edit_tests [] (inserts (full 239)) 1) ≡ 14
  -- 15: an undo record of 43 bytes in 43 (above) and in 42; a refusal changes nothing, and behind the record nothing
  -- changes
  pub undo_42 : built (record_of (Update 0 5 ∷ [])) 4096 42 ≡ record { answer = Answer.Refused 15; page = zeros 4096; undo = zeros 42 }
  pub undo_4_in_6 : build (normal_page 7 two) (record_of (Keep 0 2 ∷ [])) 8 (zeros 4096) (hex 6 0x010203040506)
      ≡ record { answer = Answer.Value (record { n = 2; m = 2; q = 1; bits = 2; undo = 4 }); page = normal_page 8 two; undo = hex 6 0x006000020506 }
  -- the undo record: one run for what is kept, an Update at the position in the new page, an Insert for what is
  -- absent
  pub undo_kept : undo_record two two ≡ record_of (Keep 0 2 ∷ [])
  pub undo_updated : undo_record two (record { key = key 0; pointer = 1 } ∷ record { key = key 0x80; pointer = 5 } ∷ []) ≡ record_of (Update 1 17 ∷ Insert (key 0xC0) 34 ∷ [])
  pub undo_parted : undo_record two (record { key = key 0x80; pointer = 17 } ∷ record { key = key 0xA0; pointer = 5 } ∷ record { key = key 0xC0; pointer = 34 } ∷ []) ≡ record_of (Keep 0 1 ∷ Keep 2 3 ∷ [])

pub builds : Builds
unfolding build record_of normal_page undo_record first edit_tests hex key two inserts full
builds =
    record {
      base_none = refl;
      base_short = refl;
      base_before_output = refl;
      output_4096 = refl;
      output_4095 = refl;
      output_4097 = refl;
      output_before_record = refl;
      record_empty = refl;
      record_one_byte = refl;
      record_short = refl;
      record_long = refl;
      record_kind_3 = refl;
      record_before_outside = refl;
      keep_all = refl;
      keep_past = refl;
      keep_none = refl;
      keep_turned = refl;
      update_last = refl;
      update_past = refl;
      outside_before_order = refl;
      outside_of_none = refl;
      no_edits = refl;
      keys_twice = refl;
      keys_fall = refl;
      keys_rise = refl;
      room_4087 = refl;
      undo_42 = refl;
      undo_4_in_6 = refl;
      undo_kept = refl;
      undo_updated = refl;
      undo_parted = refl;
    }

-- ---- calls on keys, ranges and sizes

pub record Calls : Type 0 where
  -- 17: a < b and a = b (in the table), a > b
  pub separate_above : separate (key 0x80) (key 0) ≡ Answer.Refused 17
  -- 18: no bits lie inside wherever they start; the last bit, and one past it, in either slice; 2^64 - 1 does not
  -- wrap
  pub copy_none : bit_copy (0xFF ∷ []) 99 [] 99 0 ≡ Answer.Value (0xFF ∷ [])
  pub copy_last : bit_copy (0xFF ∷ []) 7 (0xFE ∷ []) 7 1 ≡ Answer.Value (0xFE ∷ [])
  pub copy_past : bit_copy (0xFF ∷ []) 8 (0xFE ∷ []) 7 1 ≡ Answer.Refused 18
  pub copy_past_source : bit_copy (0xFF ∷ []) 7 (0xFE ∷ []) 8 1 ≡ Answer.Refused 18
  pub copy_wraps : bit_copy (0xFF ∷ []) 18446744073709551615 (0xFE ∷ []) 0 1 ≡ Answer.Refused 18
  -- exactly the named bits change, and after a refusal none
  pub copy_exact : bit_copy (hex 2 0xFFFF) 6 (hex 2 0x0000) 1 4 ≡ Answer.Value (hex 2 0xFC3F)
  pub copy_kept : afterwards (bit_copy (0xFF ∷ []) 8 (0xFE ∷ []) 7 1) (λ d. d) (0xFF ∷ []) ≡ 0xFF ∷ []
  pub copy_written : afterwards (bit_copy (0xFF ∷ []) 7 (0xFE ∷ []) 7 1) (λ d. d) (0xFF ∷ []) ≡ 0xFE ∷ []
  -- 18 and 19 of a key: no bits, 256, 257; 18 comes before 19
  pub key_none : rebuild_key [] 0 [] 9 0 ≡ Answer.Value (key 0)
  pub key_256 : rebuild_key (0x80 ∷ zeros 31) 256 [] 9 0 ≡ Answer.Value (key 0x80)
  pub key_both : rebuild_key (0x80 ∷ []) 1 (hex 2 0x0040) 9 7 ≡ Answer.Value (key 0xC0)
  pub key_257 : refusal_of (rebuild_key (zeros 33) 257 [] 0 0) ≡ 19
  pub key_256_and_1 : refusal_of (rebuild_key (zeros 32) 256 (0 ∷ []) 0 1) ≡ 19
  pub key_outside : refusal_of (rebuild_key (zeros 32) 257 [] 0 0) ≡ 18
  -- 19 of a size: the last that fits 64 bits, and one past it; 0, and below it; m = 0
  pub body_largest : body_size 0 0 3074457345618258602 ≡ Answer.Value 18446744073709551612
  pub body_past : body_size 0 0 3074457345618258603 ≡ Answer.Refused 19
  pub body_exact : body_size 18446744073709551615 18446744073709551615 0 ≡ Answer.Value 4611686018427387904
  pub whole_0 : whole_from_stored 1 0 1 0 ≡ Answer.Value 0
  pub whole_below : whole_from_stored 1 0 0 0 ≡ Answer.Refused 19
  pub stored_0 : stored_from_whole 0 2 1 1 ≡ Answer.Value 0
  pub stored_below : stored_from_whole 0 2 0 1 ≡ Answer.Refused 19
  pub stored_m_1 : stored_from_whole 9 1 0 0 ≡ Answer.Value 9
  pub stored_m_0 : stored_from_whole 9 0 9 0 ≡ Answer.Refused 19

pub calls : Calls
unfolding separate bit_copy rebuild_key refusal_of afterwards body_size whole_from_stored stored_from_whole key hex
calls =
    record {
      separate_above = refl;
      copy_none = refl;
      copy_last = refl;
      copy_past = refl;
      copy_past_source = refl;
      copy_wraps = refl;
      copy_exact = refl;
      copy_kept = refl;
      copy_written = refl;
      key_none = refl;
      key_256 = refl;
      key_both = refl;
      key_257 = refl;
      key_256_and_1 = refl;
      key_outside = refl;
      body_largest = refl;
      body_past = refl;
      body_exact = refl;
      whole_0 = refl;
      whole_below = refl;
      stored_0 = refl;
      stored_below = refl;
      stored_m_1 = refl;
      stored_m_0 = refl;
    }

-- ---- the refusals' numbers

-- in document 01's order, from 1 on
pub numbers : map refusal_number
    (PageLength ∷ NoEntries ∷ CompressedCount ∷ PrefixLength ∷ BodyTooLong
    ∷ OffsetsFall ∷ EntryBits ∷ KeysNotAscending ∷ OutputLength ∷ MalformedRecord
    ∷ EditOutside ∷ NoEdits ∷ NewKeysNotAscending ∷ NoRoom ∷ UndoTooShort
    ∷ IndexPastEnd ∷ NotBelow ∷ RangeOutside ∷ Unrepresentable
    ∷ [])
    ≡ 1 ∷ 2 ∷ 3 ∷ 4 ∷ 5 ∷ 6 ∷ 7 ∷ 8 ∷ 9 ∷ 10 ∷ 11 ∷ 12 ∷ 13 ∷ 14 ∷ 15 ∷ 16 ∷ 17 ∷ 18 ∷ 19 ∷ []
numbers = refl
