-- What a build answers, and what its parts tell each other. Document 01, "Undo record" (its end), and the refusals 1 to
-- 15. What a build means: `build` of format's specs/Build.antt.
-- In order: numbers_meant built_answer · Held BaseKnown Old · change_tests Planned Planning · Ready.
-- Assumes nothing.
use Rattle.std.specs.Prelude.{true, List, [], ◌∷◌, ◌⊎◌, ◌≡◌, ℕ, ◌≤◌, ◌<◌, length, get_or, take, Result, Ok, Err}
use Rattle.format.specs.Answer.{Answer, NoneHolds, Test, first, refuse}
use Rattle.format.specs.Build.{Numbers, base_tests, edit_tests, edits_of, malformed}
use Rattle.format.specs.Edit.{apply, ascending, no_entry, read_record}
use Rattle.format.specs.Normal.{choice, fits, keys}
use Rattle.format.specs.Page.{Entry, Sound, compressed, count, entries, page_refusal, prefix_length}
use Rattle.format.specs.Refusals.{answer_of, refusal_number}
use Rattle.format.specs.declared.refusal.Refusal.{Refusal}
use Rattle.format.specs.Undo.{undo_record}
use Rattle.shape.specs.declared.Header.{Header}
use Rattle.rows.specs.Rows.{row_key, row_source, rows}
use Rattle.rows.specs.declared.table.Row.{Row}
use Rattle.builder.specs.Over.{Based}
use Rattle.build.specs.declared.Numbers.{Numbers as CodeNumbers}

-- The numbers that the code's stand for.
abbrev pub numbers_meant : CodeNumbers → Numbers
numbers_meant v = record { n = v.n; m = v.m; q = v.q; bits = v.bits; undo = v.undo }

-- What a build answers: the numbers, or the number of the refusal.
abbrev pub built_answer : Result CodeNumbers Refusal → Answer Numbers
built_answer r = answer_of numbers_meant r

-- The base is none, or accepted; h has the numbers of its header, zeros where there is none; its entries stand in the
-- first rows of the table t, each with its position.
pub record Held (base : List ℕ) (h : Header) (t : List Row) : Type 0 where
  pub given : (base ≡ []) ⊎ (page_refusal base ≡ 0)
  pub size : length t ≡ 682
  pub few : h.n ≤ 681
  pub held : rows h.n t ≡ entries base
  pub sound : Sound (entries base)
  pub rising : ascending (entries base) ≡ true
  pub page : 1 ≤ h.m
      → (page_refusal base ≡ 0) × (h.n ≡ count base) × (h.m ≡ compressed base) × (h.q ≡ prefix_length base)

-- What loading a base tells: that, or the first of 1 to 8 that holds.
abbrev pub BaseKnown : List ℕ → Result Header Refusal → List Row → Type 0
BaseKnown base (Ok h) t = Held base h t
BaseKnown base (Err r) t = (first (base_tests base) ≡ refusal_number r) × (1 ≤ refusal_number r)

-- The first n rows of a table hold ascending entries, no more than a page has.
pub record Old (n : ℕ) (t : List Row) : Type 0 where
  pub few : n ≤ 681
  pub sound : Sound (rows n t)
  pub rising : ascending (rows n t) ≡ true

-- The refusals 10 to 15 of a record over a base's entries, where the undo buffer has room bytes.
unfoldable pub change_tests : List Entry → List ℕ → ℕ → List Test
unfolding malformed read_record edit_tests edits_of
change_tests base rec room = refuse 10 (malformed (read_record rec)) ∷ edit_tests base (edits_of (read_record rec)) room

-- None of them holds; v has the numbers of the new page, the new rows are the new entries, each that comes from the
-- base with its key there, and scratch begins with the undo record.
pub record Planned (base : List Entry) (rec : List ℕ) (room : ℕ) (v : CodeNumbers) (new : List Row)
    (scratch : List ℕ) : Type 0 where
  pub none : NoneHolds (change_tests base rec room)
  pub made : rows v.n new ≡ apply base (edits_of (read_record rec))
  pub numbers : numbers_meant v ≡ record {
    n = length (rows v.n new);
    m = (choice (keys (rows v.n new))).m;
    q = (choice (keys (rows v.n new))).q;
    bits = (choice (keys (rows v.n new))).bits;
    undo = length (undo_record base (rows v.n new));
  }
  pub entry : 1 ≤ v.n
  pub undo : take v.undo scratch ≡ undo_record base (rows v.n new)
  pub size : length scratch ≡ 24704
  pub small : v.undo ≤ 24704
  pub room_for : v.undo ≤ room
  pub from : (i : ℕ) → i < v.n → row_source new i < length base
      → row_key new i ≡ (get_or base (row_source new i) no_entry).key

-- What planning tells: that, or the first of 10 to 15 that holds.
abbrev pub Planning : List Entry → List ℕ → ℕ → Result CodeNumbers Refusal → List Row → List ℕ → Type 0
Planning base rec room (Ok v) new scratch = Planned base rec room v new scratch
Planning base rec room (Err r) new scratch =
    (first (change_tests base rec room) ≡ refusal_number r) × (1 ≤ refusal_number r)

-- What is known where page and undo buffer are to be written: the new rows fit a page under v's choice, those that come
-- from the base's compressed entries have their keys, and the undo record has room.
pub record Ready (base : List ℕ) (h : Header) (v : CodeNumbers) (new : List Row)
    (page scratch undo : List ℕ) : Type 0 where
  pub page_size : length page ≡ 4096
  pub entry : 1 ≤ v.n
  pub fitting : fits (rows v.n new) ≡ true
  pub m_is : v.m ≡ (choice (keys (rows v.n new))).m
  pub q_is : v.q ≡ (choice (keys (rows v.n new))).q
  pub based : 1 ≤ h.m → Based base new v.n h.n h.m h.q
  pub made : v.undo ≤ length scratch
  pub room : v.undo ≤ length undo
