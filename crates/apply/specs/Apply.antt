-- The new entries with their sources, and the pass that lays them into a table while their keys rise. Document 01,
-- "Edit record", and the refusals 10 to 13.
-- In order: up_from sources_of sources · Item paired · rising_from rising_front laid · record_tests new_count new_table
-- edited_answer · item_of run items_of items_in · Laying laying starting follows lay_one pass · Left.
-- Assumes nothing.
use Rattle.std.specs.Prelude.{Bool, true, false, cond, not, List, [], ◌∷◌, ◌++◌, ℕ, zero, suc, ◌+◌, ◌-◌, eqb, length, replicate, ◌≡◌, Option, Some, None, Result}
use Rattle.format.specs.Answer.{Answer, Test, refuse, first, unless}
use Rattle.format.specs.Build.{edits_of}
use Rattle.format.specs.Edit.{Edit, read_record, apply, ascending}
use Rattle.format.specs.Edit.Edit.{Insert, Update, Keep}
use Rattle.format.specs.Key.{below}
use Rattle.format.specs.Page.{Entry}
use Rattle.format.specs.Refusals.{answer_of}
use Rattle.format.specs.declared.refusal.Refusal.{Refusal}
use Rattle.keys.specs.Keys.{key_bits}
use Rattle.rows.specs.Rows.{row_key, row_entry, with_row}
use Rattle.rows.specs.declared.table.Row.{Row}
use Rattle.edits.specs.Record.{read_tests}
use Rattle.apply.specs.declared.State.{State}

-- The n numbers from i on.
unfoldable pub up_from : ℕ → ℕ → List ℕ
up_from i zero = []
up_from i (suc n) = i ∷ up_from (suc i) n

-- The position in the base of each entry that an edit makes; 1,024 for an Insert.
unfoldable pub sources_of : Edit → List ℕ
unfolding up_from
sources_of (Insert k p) = 1024 ∷ []
sources_of (Update i p) = i ∷ []
sources_of (Keep s e) = up_from s (e - s)

-- The same of all edits in order.
unfoldable pub sources : List Edit → List ℕ
unfolding sources_of
sources [] = []
sources (e ∷ es) = sources_of e ++ sources es

-- An entry and its source.
pub record Item : Type 0 where
  pub entry : Entry
  pub source : ℕ

-- Each entry with its source, up to the end of either list.
unfoldable pub paired : List Entry → List ℕ → List Item
paired [] ss = []
paired (e ∷ es) [] = []
paired (e ∷ es) (s ∷ ss) = record { entry = e; source = s } ∷ paired es ss

-- The first of xs, up to one whose key is not above the key before it; k is before them all.
unfoldable pub rising_from : List ℕ → List Item → List Item
unfolding below
rising_from k [] = []
rising_from k (x ∷ xs) = cond (below k x.entry.key) (x ∷ rising_from x.entry.key xs) []

-- The rising front: the first of xs, up to one that does not rise.
unfoldable pub rising_front : List Item → List Item
unfolding rising_from
rising_front [] = []
rising_front (x ∷ xs) = x ∷ rising_from x.entry.key xs

-- t with xs in the rows from i on; those past the last row are left out.
unfoldable pub laid : List Row → ℕ → List Item → List Row
unfolding with_row
laid t i [] = t
laid t i (x ∷ xs) = laid (with_row t i x.entry x.source) (suc i) xs

-- The refusals 10 to 13 of a record over a base's entries.
unfoldable pub record_tests : List Entry → List ℕ → List Test
unfolding read_tests ascending apply edits_of read_record
record_tests base rec =
    read_tests (length base) rec ++ refuse 13 (not (ascending (apply base (edits_of (read_record rec))))) ∷ []

-- How many new entries a record makes, or the first refusal.
unfoldable pub new_count : List Entry → List ℕ → Answer ℕ
unfolding unless first record_tests apply edits_of read_record
new_count base rec = unless (first (record_tests base rec)) (length (apply base (edits_of (read_record rec))))

-- The table afterwards: as it was where 10, 11 or 12 is given, else with the rising front of the new entries in it.
unfoldable pub new_table : List Entry → List ℕ → List Row → List Row
unfolding first read_tests laid rising_front paired apply sources edits_of read_record
new_table base rec t =
    let es : List Edit = edits_of (read_record rec) in
    cond (eqb (first (read_tests (length base) rec)) 0)
    (laid t 0 (rising_front (paired (apply base es) (sources es)))) t

-- What the code's answer says: the count, or the refusal's number.
abbrev pub edited_answer : Result ℕ Refusal → Answer ℕ
edited_answer r = answer_of (λ (n : ℕ). n) r

-- The item that a row holds.
unfoldable pub item_of : Row → Item
unfolding key_bits
item_of r = record { entry = record { key = key_bits r.key; pointer = r.pointer }; source = r.source }

-- n rows of a base's table from i on, as items.
unfoldable pub run : List Row → ℕ → ℕ → List Item
unfolding row_entry
run base i zero = []
run base i (suc n) = record { entry = row_entry base i; source = i } ∷ run base (suc i) n

-- The items of one edit over a base's table, rows past its end read as zeros.
unfoldable pub items_of : List Row → Edit → List Item
unfolding row_key run
items_of base (Insert k p) = record { entry = record { key = k; pointer = p }; source = 1024 } ∷ []
items_of base (Update i p) = record { entry = record { key = row_key base i; pointer = p }; source = i } ∷ []
items_of base (Keep s e) = run base s (e - s)

-- The items of all edits in order.
unfoldable pub items_in : List Row → List Edit → List Item
unfolding items_of
items_in base [] = []
items_in base (e ∷ es) = items_of base e ++ items_in base es

-- A pass over items as far as it has come: the table, how many are laid, whether all rose, the last key.
pub record Laying : Type 0 where
  pub table : List Row
  pub count : ℕ
  pub rising : Bool
  pub last : List ℕ

-- What the code's state and a table say of it, while keys rise.
unfoldable pub laying : List Row → State → Laying
unfolding key_bits
laying t l = record { table = t; count = l.n; rising = true; last = key_bits l.last }

-- The pass before its first item.
unfoldable pub starting : List Row → Laying
starting t = record { table = t; count = 0; rising = true; last = replicate 256 0 }

-- A key may come behind n others: it is the first, or above the last.
unfoldable pub follows : ℕ → List ℕ → List ℕ → Bool
unfolding below
follows n last k = cond (eqb n 0) true (below last k)

-- One item more: into the next row if it rises, and nothing once one did not.
unfoldable pub lay_one : Laying → Item → Laying
unfolding follows with_row
lay_one l x =
    let next : Laying = record {
      table = with_row l.table l.count x.entry x.source;
      count = l.count + 1;
      rising = true;
      last = x.entry.key;
    } in
    let fallen : Laying = record { table = l.table; count = l.count; rising = false; last = x.entry.key } in
    cond l.rising (cond (follows l.count l.last x.entry.key) next fallen) l

-- The pass over all items.
unfoldable pub pass : Laying → List Item → Laying
unfolding lay_one
pass l [] = l
pass l (x ∷ xs) = pass (lay_one l x) xs

-- What a step of the code leaves in a table, and its state or none, tell the pass: where all rose, all of it, and else the
-- table, and that one did not rise.
abbrev pub Left : List Row → Option State → Laying → Type 0
Left t (Some l) x = laying t l ≡ x
Left t None x = (t ≡ x.table) × (x.rising ≡ false)
