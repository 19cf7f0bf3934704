-- Closed instances of the theorems, numbered as they are: their hypotheses can be met. What is not a theorem's
-- conclusion is computed.
-- In order: the entries and pages that serve; words; 1 to 12.
-- Not here: the theorems (`Proved`); document 01's table (`Rattle.format.proofs.Table`).
-- Assumes nothing.
use mathlib.Core.Bool.{true, false, not}
use mathlib.Core.List.{List, [], ◌∷◌, ◌++◌, map}
use mathlib.Core.Logic.{◌≢◌, inr}
use mathlib.Core.Option.{Option, some}
use mathlib.Core.Path.{◌≡◌, ap, refl, ◌∙◌}
use Prim.Native.Nat.{ℕ, ◌+◌, ◌-◌, ◌*◌, ◌≤◌, ◌<◌, min}
use native.Mathlib.Omega.{arith}
use lib.Dec.{eqb, leb}
use lib.ListN.{drop, get_or, length, length-append, length-replicate, take}
use Rattle.format.specs.Bits.{AllBelow, bits, value}
use Rattle.format.specs.Key.{IsKey, below, separator_length, shared_bits}
use Rattle.format.specs.Answer.{Answer, FirstHolds, NoneHolds, first, refuse}
use Rattle.format.specs.Page.{Entry, Sound, body_bytes, check_page, count, each, entries, page_number, page_refusal, page_tests, prefix_length, start_of}
use Rattle.format.specs.Sizes.{stored_from_whole, whole_from_stored}
use Rattle.format.specs.Ranges.{bit_copy, separate}
use Rattle.format.specs.Normal.{Permitted, bits_under, candidate, choice, fits, keys, normal_page, page_under, stored_lengths, sum}
use Rattle.format.specs.Edit.{AllWellFormed, Edit, any_outside, apply, ascending, read_record, record_of}
use Rattle.format.specs.Edit.Edit.{Insert, Keep, Update}
use Rattle.format.specs.Undo.{undo_edits}
use Rattle.format.specs.Build.{Built, Numbers, build, build_tests, edit_tests, edits_of, malformed, refused}
use Rattle.facts.proofs.BitsLaws.{AllBelow-append, AllBelow-bits, AllBelow-replicate}
use Rattle.facts.proofs.KeyLaws.{IsKey-bits_of}
use Rattle.facts.proofs.EntryLaws.{sound_append, sound_each}
use Rattle.facts.proofs.NormalLaws.{AllBelow-page_under}
use Rattle.facts.proofs.RecordLaws.{AllBelow-record_of}
use Rattle.facts.proofs.BuildLaws.{build_refuses, refused_answer}
use Rattle.format.proofs.Samples.{full, hex, inserts, key, last_key, long, two, zeros}
use Rattle.laws.specs.Words.{Between, CopiedFrom, LengthOf, SharedBy}
use Rattle.laws.specs.Pages.{ReadsAs, Rising}
use Rattle.laws.specs.Builds.{Accepts, Gives, Lent, Once, again}
use Rattle.laws.proofs.Proved as theorem

-- ---- what serves

key_of : (b : ℕ) → IsKey (key b)
unfolding key
key_of b = IsKey-bits_of (b ∷ zeros 31) refl

last-key_of : (b : ℕ) → IsKey (last_key b)
unfolding last_key
last-key_of b = IsKey-bits_of (zeros 31 ++ b ∷ []) refl

-- keys 80 and C0
two_sound : Sound two
unfolding Sound two
two_sound = (key_of 0x80, omega arith, (key_of 0xC0, omega arith, tt))

two_rising : Rising two
unfolding two ascending
two_rising = record { one = omega arith; sound = two_sound; rises = refl }

two_fits : fits two ≡ true
unfolding fits two
two_fits = refl

two_keys : Permitted (keys two) 2 1
unfolding Permitted keys two
two_keys = (omega arith, omega arith, omega arith)

-- keys 80, A0 and C0: another between the two
three : List Entry
three = record { key = key 0x80; pointer = 17 } ∷ record { key = key 0xA0; pointer = 5 } ∷ record { key = key 0xC0; pointer = 34 } ∷ []

three_sound : Sound three
unfolding Sound three
three_sound = (key_of 0x80, omega arith, (key_of 0xA0, omega arith, (key_of 0xC0, omega arith, tt)))

-- a page of the two that is not normal: nothing is left out
plain : List ℕ
plain = page_under 7 two 1 0

one_permitted : Permitted (keys two) 1 0
unfolding Permitted keys two
one_permitted = (omega arith, omega arith, omega arith)

plain_room : body_bytes (length two) 0 (sum (stored_lengths 1 0 (keys two))) ≤ 4086
unfolding body_bytes stored_lengths keys two sum
plain_room = omega arith

plain_bytes : AllBelow 256 plain
unfolding plain
plain_bytes = AllBelow-page_under 7 two 1 0 (record { number = omega arith; sound = two_sound; permitted = one_permitted; room = plain_room })

plain_accepted : page_refusal plain ≡ 0
unfolding page_refusal plain page_under two
plain_accepted = refl

-- a build that drops the second entry and gives the first another pointer; its undo is an Update and an Insert, 43
-- bytes
abbrev edit : List ℕ
edit = hex 7 0x00500000000014

abbrev page : List ℕ
page = zeros 4096

abbrev buffer : List ℕ
buffer = zeros 24688

numbers : Numbers
numbers = record { n = 1; m = 1; q = 0; bits = 1; undo = 43 }

edit_bytes : AllBelow 256 edit
unfolding AllBelow hex
edit_bytes = (omega arith, (omega arith, (omega arith, (omega arith, (omega arith, (omega arith, (omega arith, tt)))))))

two_built : (build (normal_page 7 two) edit 8 page buffer).answer ≡ Answer.Value numbers
unfolding build normal_page two hex numbers
two_built = refl

plain_built : (build plain edit 8 page buffer).answer ≡ Answer.Value numbers
unfolding build plain page_under two hex numbers
plain_built = refl

lent : Lent page buffer
lent = record { size = length-replicate {A = ℕ} 4096 0; room = omega (arith, length-replicate {A = ℕ} 24688 0) }

-- ---- words

order_80_C0 : value (key 0x80) < value (key 0xC0)
unfolding below key
order_80_C0 = (theorem.order_words (key 0x80) (key 0xC0) (key_of 0x80) (key_of 0xC0)).0.0 refl

length_84 : LengthOf (key 0x84) (separator_length (key 0x84))
length_84 = theorem.length-words (key 0x84) (key_of 0x84)

shared_80_84 : SharedBy (key 0x80) (key 0x84) (shared_bits (key 0x80) (key 0x84))
shared_80_84 = theorem.shared-words (key 0x80) (key 0x84) (key_of 0x80) (key_of 0x84)

between_80_C0 : Between (key 0x80) (key 0xC0) (key 0xC0)
unfolding separate key
between_80_C0 = theorem.separate-words (key 0x80) (key 0xC0) (key 0xC0) (key_of 0x80) (key_of 0xC0) refl

copied_four : CopiedFrom (hex 2 0xFFFF) 6 (hex 2 0x0000) 1 4 (hex 2 0xFC3F)
unfolding bit_copy hex
copied_four = theorem.copy-words (hex 2 0xFFFF) 6 (hex 2 0x0000) 1 4 (hex 2 0xFC3F) refl

-- ---- 1. Reading back

two_read : ReadsAs (normal_page 7 two) 7 two
two_read = theorem.read_back 7 two (omega arith) two_rising two_fits

two_checked : check_page (normal_page 7 two)
    ≡ Answer.Value (record { number = 7; n = length two; m = (choice (keys two)).m; q = (choice (keys two)).q; bits = (choice (keys two)).bits })
two_checked = theorem.checked_back 7 two (omega arith) two_rising two_fits

-- ---- 2. The choice

-- 2 bits, where one entry without a prefix would take 3
two_fewest : (choice (keys two)).bits ≤ bits_under (keys two) 1 0
two_fewest = theorem.fewest two two_rising 1 0 one_permitted

two_bits : (choice (keys two)).bits ≡ 2
unfolding choice keys two
two_bits = refl

one-bits : bits_under (keys two) 1 0 ≡ 3
unfolding bits_under keys two
one-bits = refl

-- keys ending 01, 03, then 80: the candidate for 3 has more bits
abbrev last-keys : List (List ℕ)
last-keys = last_key 1 ∷ last_key 3 ∷ key 0x80 ∷ []

last_tie : (choice last-keys).bits < (candidate last-keys 3).bits
unfolding choice last_key key
last_tie = (theorem.tie last-keys (omega arith)).2 3 (omega arith) (omega arith)

two_choice : Permitted (keys two) (choice (keys two)).m (choice (keys two)).q
unfolding keys two
two_choice = (theorem.permitted_choice (keys two) (omega arith)).0

-- ---- 3. Room

IsKey_long : (b len : ℕ) → 9 ≤ len → len ≤ 256 → IsKey (long b len)
unfolding long AllBelow
IsKey_long b len low high =
    record {
      size = simp (length-append, length-replicate) (omega arith);
      bits =
          AllBelow-append 2 (bits 8 b ++ zeros (len - 9)) (1 ∷ zeros (256 - len))
          (AllBelow-append 2 (bits 8 b) (zeros (len - 9)) (AllBelow-bits 8 b) (AllBelow-replicate 2 (len - 9) 0 (omega arith)))
          (omega arith, AllBelow-replicate 2 (256 - len) 0 (omega arith));
    }

-- 108 entries that take 4,087 bytes at best
full_sound : Sound (full 239)
unfolding full Sound
full_sound =
    sound_append (each 107 (λ i. record { key = long i 256; pointer = 5 })) (record { key = long 107 239; pointer = 5 } ∷ [])
    (sound_each 107 (λ i. record { key = long i 256; pointer = 5 }) (λ i. IsKey_long i 256 (omega arith) (omega arith)) (λ i. omega arith))
    (IsKey_long 107 239 (omega arith) (omega arith), omega arith, tt)

full_rising : Rising (full 239)
unfolding full ascending
full_rising = record { one = omega arith; sound = full_sound; rises = refl }

full_no_room : fits (full 239) ≡ false
unfolding fits full
full_no_room = refl

full_permitted : Permitted (keys (full 239)) 1 0
unfolding Permitted keys full
full_permitted = (omega arith, omega arith, omega arith)

full_room : 4086 < body_bytes (length (full 239)) 0 (sum (stored_lengths 1 0 (keys (full 239))))
full_room = (theorem.room (full 239) full_rising).0 full_no_room 1 0 full_permitted

-- ---- 4. Lengths below the prefix, and sums

-- C0 is longer than the one bit that it shares with 80
two_longer : 1 < separator_length (get_or (keys two) 1 [])
two_longer = theorem.later_longer two two_rising 2 1 0 two_keys (omega arith)

two_sum : bits_under (keys two) 2 1 + min (separator_length (get_or (keys two) 0 [])) 1 + 1 * 1 ≡ sum (map separator_length (keys two)) + 1
two_sum = theorem.sum_formula two two_rising 1 1 two_keys

two_stored : stored_from_whole 1 2 2 1 ≡ Answer.Value 1
unfolding two keys separator_length sum stored_lengths key
two_stored = theorem.stored_from_whole_lem (record { key = key 0x80; pointer = 17 }) (record { key = key 0xC0; pointer = 34 } ∷ []) two_rising (omega arith) 2 1 two_keys

two_whole : whole_from_stored 1 1 2 1 ≡ Answer.Value 3
unfolding two keys separator_length sum stored_lengths key
two_whole = theorem.whole_from_stored_lem (record { key = key 0x80; pointer = 17 }) (record { key = key 0xC0; pointer = 34 } ∷ []) two_rising (omega arith) 2 1 refl two_keys

-- ---- 5. An accepted page

plain_fits : Rising (entries plain) × (fits (entries plain) ≡ true)
plain_fits = theorem.base_fits plain plain_bytes plain_accepted

plain_bits : (choice (keys (entries plain))).bits ≤ prefix_length plain + start_of plain (count plain)
plain_bits = theorem.base_bits_lem plain plain_accepted

-- ---- 6. The edit record

abbrev edits : List Edit
edits = Insert (key 0xA0) 5 ∷ Update 1 5 ∷ Keep 0 2 ∷ []

edits_read : read_record (record_of edits) ≡ some edits
edits_read = theorem.record_back edits ((key_of 0xA0, omega arith), ((omega arith, omega arith), ((omega arith, omega arith), tt))) (omega arith)

keep_own : record_of (Keep 0 3 ∷ []) ≡ hex 4 0x00600003
unfolding read_record AllBelow hex
keep_own = (theorem.record_own (hex 4 0x00600003) (Keep 0 3 ∷ []) (omega arith, (omega arith, (omega arith, (omega arith, tt)))) refl).2

-- ---- 7. The undo record

three_undone : apply three (undo_edits two three) ≡ two
three_undone = (theorem.undo_applies two three two_rising three_sound).0

three_inside : any_outside (length three) (undo_edits two three) ≡ false
three_inside = theorem.undo_inside two three

three_count : length (undo_edits two three) ≤ length two
unfolding two
three_count = (theorem.undo_count two three (omega arith)).1

two_undo_bound : numbers.undo ≤ 24688
two_undo_bound = theorem.undo_bound (normal_page 7 two) edit 8 page buffer numbers two_read.bytes two_built

-- 80 and C0 are kept, with A0 between them: two runs
three_runs : ◌≢◌ {A = ℕ} 1 2
unfolding undo_edits two three key
three_runs = theorem.undo_runs two three [] [] 0 1 2 3 refl

-- ---- 8. Demand 3

two_once : Once (normal_page 7 two) edit 8 page buffer numbers
two_once = record { base_bytes = two_read.bytes; record_bytes = edit_bytes; small = omega arith; base_accepted = two_read.accepted; answered = two_built }

plain_once : Once plain edit 8 page buffer numbers
plain_once = record { base_bytes = plain_bytes; record_bytes = edit_bytes; small = omega arith; base_accepted = plain_accepted; answered = plain_built }

two_normal : normal_page 7 two ≡ normal_page (page_number (normal_page 7 two)) (entries (normal_page 7 two))
unfolding normal_page two page_number entries
two_normal = refl

-- a base that is not normal gives the normal page of its entries
plain_back : Gives (again (build plain edit 8 page buffer) numbers (page_number plain) page buffer) (normal_page (page_number plain) (entries plain))
plain_back = theorem.back plain edit 8 page buffer numbers plain_once page buffer lent

-- a normal base comes back, byte for byte
two_back : Gives (again (build (normal_page 7 two) edit 8 page buffer) numbers (page_number (normal_page 7 two)) page buffer) (normal_page 7 two)
two_back = theorem.back_normal (normal_page 7 two) edit 8 page buffer numbers two_once page buffer lent two_normal

-- and after it the new page
two_forth : Gives (again (again (build (normal_page 7 two) edit 8 page buffer) numbers (page_number (normal_page 7 two)) page buffer) two_back.numbers 8 page buffer)
    (build (normal_page 7 two) edit 8 page buffer).page
two_forth =
    theorem.forth (normal_page 7 two) edit 8 page buffer numbers two_once page buffer lent two_back.numbers
    two_back.answered page buffer lent

-- ---- 9. What a build depends on

-- the normal page and the other have the same entries
plain_entries : entries (normal_page 7 two) ≡ entries plain
unfolding entries normal_page plain page_under two
plain_entries = refl

plain_same : build (normal_page 7 two) edit 8 page buffer ≡ build plain edit 8 page buffer
plain_same = theorem.same_entries (normal_page 7 two) plain edit 8 page buffer (inr two_read.accepted) (inr plain_accepted) plain_entries

-- ---- 10. Refusals and lent memory

zeros_refused : FirstHolds (page_tests (zeros 4096)) 2
unfolding page_refusal
zeros_refused = (theorem.first-page_refusal (zeros 4096) 1).0 refl

entry-refused : FirstHolds (page_tests (normal_page 7 two) ++ refuse 16 (leb (count (normal_page 7 two)) 2) ∷ []) 16
unfolding two
entry-refused = (theorem.first-entry_refusal (normal_page 7 two) 2 16).0 (two_read.past 2 (omega arith))

-- 42 bytes are too few for the undo record
short_refused : (build (normal_page 7 two) edit 8 page (zeros 42)).answer ≡ Answer.Refused 15
unfolding build normal_page two hex
short_refused = refl

short_first : FirstHolds (build_tests (normal_page 7 two) edit page (zeros 42)) 15
short_first = (theorem.first_refusal (normal_page 7 two) edit 8 page (zeros 42) 15).0 short_refused

short_untouched : (build (normal_page 7 two) edit 8 page (zeros 42)).page ≡ page
short_untouched = (theorem.untouched (normal_page 7 two) edit 8 page (zeros 42) 15 short_refused).0

two_accepted : NoneHolds (build_tests (normal_page 7 two) edit page buffer)
two_accepted = (theorem.accepted_exactly (normal_page 7 two) edit 8 page buffer).0 (numbers, two_built)

two_accepts : Accepts (normal_page 7 two) (apply (entries (normal_page 7 two)) (theorem.accepted-build (normal_page 7 two) edit 8 page buffer numbers two_built).0) 8 numbers
    (build (normal_page 7 two) edit 8 page buffer)
two_accepts = (theorem.accepted-build (normal_page 7 two) edit 8 page buffer numbers two_built).2

two_kept : drop 43 (build (normal_page 7 two) edit 8 page buffer).undo ≡ drop 43 buffer
unfolding numbers
two_kept = theorem.undo_kept (normal_page 7 two) edit 8 page buffer numbers two_built

-- ---- 11. No base

abbrev first_numbers : Numbers
first_numbers = record { n = 1; m = 1; q = 0; bits = 1; undo = 2 }

first-built : (build [] (record_of (Insert (key 0x80) 5 ∷ [])) 8 page buffer).answer ≡ Answer.Value first_numbers
unfolding build record_of key
first-built = refl

first_undo : take 2 (build [] (record_of (Insert (key 0x80) 5 ∷ [])) 8 page buffer).undo ≡ 0 ∷ 0 ∷ []
first_undo = theorem.no_base (record_of (Insert (key 0x80) 5 ∷ [])) 8 page buffer first_numbers first-built

two_no_edits : build (normal_page 7 two) (0 ∷ 0 ∷ []) 8 page buffer ≡ refused 12 page buffer
two_no_edits = theorem.no_edits (normal_page 7 two) 8 page buffer two_read.accepted lent.size

-- ---- 12. What a build gives

two_built-read : ReadsAs (build (normal_page 7 two) edit 8 page buffer).page 8 (apply (entries (normal_page 7 two)) (theorem.built-read (normal_page 7 two) edit 8 page buffer numbers two_read.bytes edit_bytes (omega arith) two_built).0)
two_built-read = (theorem.built-read (normal_page 7 two) edit 8 page buffer numbers two_read.bytes edit_bytes (omega arith) two_built).3

two_built_fewest : (m q : ℕ) → Permitted (keys (apply (entries (normal_page 7 two)) (theorem.built_fewest (normal_page 7 two) edit 8 page buffer numbers two_read.bytes edit_bytes two_built).0)) m q
    → numbers.bits ≤ bits_under (keys (apply (entries (normal_page 7 two)) (theorem.built_fewest (normal_page 7 two) edit 8 page buffer numbers two_read.bytes edit_bytes two_built).0)) m q
two_built_fewest = (theorem.built_fewest (normal_page 7 two) edit 8 page buffer numbers two_read.bytes edit_bytes two_built).2

inserts_formed : (es : List Entry) → Sound es → AllWellFormed (inserts es)
unfolding Sound inserts
inserts_formed [] s = tt
inserts_formed (e ∷ es) s = ((s.0, s.1), inserts_formed es s.2)

no_bytes : AllBelow 256 []
unfolding AllBelow
no_bytes = tt

-- the 108 entries above, inserted
full_formed : AllWellFormed (inserts (full 239))
full_formed = inserts_formed (full 239) full_sound

full_read : read_record (record_of (inserts (full 239))) ≡ some (inserts (full 239))
unfolding inserts full
full_read = theorem.record_back (inserts (full 239)) full_formed (omega arith)

full_first : first (build_tests [] (record_of (inserts (full 239))) page buffer) ≡ 14
unfolding build_tests first inserts full
full_first =
    ap (λ (o : Option (List Edit)). first (refuse 9 (not (eqb (length page) 4096)) ∷ refuse 10 (malformed o) ∷ edit_tests (entries []) (edits_of o) (length buffer))) full_read ∙ refl

full_refused : (build [] (record_of (inserts (full 239))) 8 page buffer).answer ≡ Answer.Refused 14
full_refused = ap (λ (x : Built). x.answer) (build_refuses [] (record_of (inserts (full 239))) 8 page buffer 13 full_first) ∙ refused_answer 14 page buffer

full_unbuilt : Rising (apply (entries []) (theorem.built_no_room [] (record_of (inserts (full 239))) 8 page buffer no_bytes (AllBelow-record_of (inserts (full 239)) full_formed) full_refused).0)
full_unbuilt = (theorem.built_no_room [] (record_of (inserts (full 239))) 8 page buffer no_bytes (AllBelow-record_of (inserts (full 239)) full_formed) full_refused).2
