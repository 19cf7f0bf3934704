-- What is promised of builds.
--      8  Back BackNormal Forth                         demand 3
--      9  SameEntries                                   what a build depends on
--     10  FirstPageRefusal FirstEntryRefusal FirstRefusal AcceptedExactly Untouched AcceptedBuild UndoKept
--                                                       refusals and lent memory
--     11  NoBase NoEdits                               no base
--     12  BuiltRead BuiltFewest BuiltNoRoom            what a build gives, and when there is no room for it
-- Assumes nothing.
use Rattle.std.specs.Prelude.{List, [], ◌∷◌, ◌++◌, ◌↔◌, ◌⊎◌, ◌≡◌, ℕ, suc, ◌^◌, ◌≤◌, ◌<◌, leb, length, take, drop}
use Rattle.std.proofs.Math.Option.{some}
use Rattle.format.specs.Bits.{AllBelow}
use Rattle.format.specs.Answer.{Answer, refuse, NoneHolds, FirstHolds}
use Rattle.format.specs.Page.{Entry, page_number, count, entries, body_bytes, page_tests, page_refusal, read_entry}
use Rattle.format.specs.Normal.{sum, Permitted, stored_lengths, bits_under, choice, keys, normal_page}
use Rattle.format.specs.Edit.{Edit, read_record, apply}
use Rattle.format.specs.Undo.{undo_record}
use Rattle.format.specs.Build.{Numbers, Built, build_tests, refused, build}
use Rattle.laws.specs.Pages.{Rising, ReadsAs}

-- ---- 8. Demand 3

-- An accepted build over an accepted base of bytes.
pub record Once (base rec : List ℕ) (number : ℕ) (page undo : List ℕ) (v : Numbers) : Type 0 where
  pub base_bytes : AllBelow 256 base
  pub record_bytes : AllBelow 256 rec
  pub small : number < 2 ^ 32
  pub base_accepted : page_refusal base ≡ 0
  pub answered : (build base rec number page undo).answer ≡ Answer.Value v

-- The build over the page that a build left, with the undo record that it left.
abbrev pub again : Built → Numbers → ℕ → List ℕ → List ℕ → Built
again after v number page undo = build after.page (take v.undo after.undo) number page undo

-- A build that is accepted, and leaves the page p.
pub record Gives (after : Built) (p : List ℕ) : Type 0 where
  pub numbers : Numbers
  pub answered : after.answer ≡ Answer.Value numbers
  pub page : after.page ≡ p

-- A page, and room for any undo record, to be lent to a build.
pub record Lent (page undo : List ℕ) : Type 0 where
  pub size : length page ≡ 4096
  pub room : 24688 ≤ length undo

-- Building over the new page with the undo record and the base's page number is never refused and gives the normal
-- page of the base's entries.
abbrev pub Back : Type 0
Back = (base rec : List ℕ) (number : ℕ) (page undo : List ℕ) (v : Numbers) → Once base rec number page undo v
    → (page₂ undo₂ : List ℕ) → Lent page₂ undo₂
    → Gives (again (build base rec number page undo) v (page_number base) page₂ undo₂)
    (normal_page (page_number base) (entries base))

-- It gives the base itself, byte for byte, if that was normal.
abbrev pub BackNormal : Type 0
BackNormal = (base rec : List ℕ) (number : ℕ) (page undo : List ℕ) (v : Numbers) → Once base rec number page undo v
    → (page₂ undo₂ : List ℕ) → Lent page₂ undo₂
    → base ≡ normal_page (page_number base) (entries base)
    → Gives (again (build base rec number page undo) v (page_number base) page₂ undo₂) base

-- That build's undo record, with the new page's number, gives the new page again.
abbrev pub Forth : Type 0
Forth = (base rec : List ℕ) (number : ℕ) (page undo : List ℕ) (v : Numbers) → Once base rec number page undo v
    → (page₂ undo₂ : List ℕ) → Lent page₂ undo₂
    → (w : Numbers) → (again (build base rec number page undo) v (page_number base) page₂ undo₂).answer ≡ Answer.Value w
    → (page₃ undo₃ : List ℕ) → Lent page₃ undo₃
    → Gives (again (again (build base rec number page undo) v (page_number base) page₂ undo₂) w number page₃ undo₃)
    (build base rec number page undo).page

-- ---- 9. What a build depends on

-- Two accepted bases with the same entries give the same answer, new page and undo bytes.
abbrev pub SameEntries : Type 0
SameEntries = (base other rec : List ℕ) (number : ℕ) (page undo : List ℕ)
    → (base ≡ []) ⊎ (page_refusal base ≡ 0) → (other ≡ []) ⊎ (page_refusal other ≡ 0)
    → entries base ≡ entries other → build base rec number page undo ≡ build other rec number page undo

-- ---- 10. Refusals and lent memory

-- A page's refusal is the first of 1 to 8 whose condition holds.
abbrev pub FirstPageRefusal : Type 0
FirstPageRefusal = (p : List ℕ) (r : ℕ) → (page_refusal p ≡ suc r) ↔ FirstHolds (page_tests p) (suc r)

-- Entry reading is refused with r exactly where r is the first of 1 to 8 and 16 whose condition holds.
abbrev pub FirstEntryRefusal : Type 0
FirstEntryRefusal = (p : List ℕ) (i r : ℕ)
    → (read_entry p i ≡ Answer.Refused r) ↔ FirstHolds (page_tests p ++ refuse 16 (leb (count p) i) ∷ []) r

-- A build is refused with r exactly where r is the first of 1 to 15 whose condition holds.
abbrev pub FirstRefusal : Type 0
FirstRefusal = (base rec : List ℕ) (number : ℕ) (page undo : List ℕ) (r : ℕ)
    → ((build base rec number page undo).answer ≡ Answer.Refused r) ↔ FirstHolds (build_tests base rec page undo) r

-- A build is accepted exactly where none of 1 to 15 holds.
abbrev pub AcceptedExactly : Type 0
AcceptedExactly = (base rec : List ℕ) (number : ℕ) (page undo : List ℕ)
    → ((v : Numbers) × ((build base rec number page undo).answer ≡ Answer.Value v))
    ↔ NoneHolds (build_tests base rec page undo)

-- A refusal leaves lent memory unchanged.
abbrev pub Untouched : Type 0
Untouched = (base rec : List ℕ) (number : ℕ) (page undo : List ℕ) (r : ℕ)
    → (build base rec number page undo).answer ≡ Answer.Refused r
    → ((build base rec number page undo).page ≡ page) × ((build base rec number page undo).undo ≡ undo)

-- An accepted build over new entries: its numbers are theirs, the page is their normal page, and the undo buffer
-- begins with the undo record.
pub record Accepts (base : List ℕ) (new : List Entry) (number : ℕ) (v : Numbers) (after : Built) : Type 0 where
  pub n : v.n ≡ length new
  pub m : v.m ≡ (choice (keys new)).m
  pub q : v.q ≡ (choice (keys new)).q
  pub bits : v.bits ≡ (choice (keys new)).bits
  pub undo : v.undo ≡ length (undo_record (entries base) new)
  pub page : after.page ≡ normal_page number new
  pub record_bytes : take v.undo after.undo ≡ undo_record (entries base) new

-- An accepted build answers and leaves what belongs to the entries that its edits make.
abbrev pub AcceptedBuild : Type 0
AcceptedBuild = (base rec : List ℕ) (number : ℕ) (page undo : List ℕ) (v : Numbers)
    → (build base rec number page undo).answer ≡ Answer.Value v
    → (es : List Edit)
    × (read_record rec ≡ some es)
    × Accepts base (apply (entries base) es) number v (build base rec number page undo)

-- Bytes of the undo buffer past the undo record keep their content.
abbrev pub UndoKept : Type 0
UndoKept = (base rec : List ℕ) (number : ℕ) (page undo : List ℕ) (v : Numbers)
    → (build base rec number page undo).answer ≡ Answer.Value v
    → drop v.undo (build base rec number page undo).undo ≡ drop v.undo undo

-- ---- 11. No base

-- With no base the undo record is 00 00.
abbrev pub NoBase : Type 0
NoBase = (rec : List ℕ) (number : ℕ) (page undo : List ℕ) (v : Numbers)
    → (build [] rec number page undo).answer ≡ Answer.Value v
    → take v.undo (build [] rec number page undo).undo ≡ 0 ∷ 0 ∷ []

-- And a build with it over an accepted page is refused with 12.
abbrev pub NoEdits : Type 0
NoEdits = (p : List ℕ) (number : ℕ) (page undo : List ℕ) → page_refusal p ≡ 0 → length page ≡ 4096
    → build p (0 ∷ 0 ∷ []) number page undo ≡ refused 12 page undo

-- ---- 12. What a build gives

-- The page of an accepted build reads as the entries that the edits make, which rise.
abbrev pub BuiltRead : Type 0
BuiltRead = (base rec : List ℕ) (number : ℕ) (page undo : List ℕ) (v : Numbers) → AllBelow 256 base → AllBelow 256 rec
    → number < 2 ^ 32
    → (build base rec number page undo).answer ≡ Answer.Value v
    → (es : List Edit)
    × (read_record rec ≡ some es)
    × Rising (apply (entries base) es)
    × ReadsAs (build base rec number page undo).page number (apply (entries base) es)

-- No permitted choice for these entries has fewer bits than an accepted build answers.
abbrev pub BuiltFewest : Type 0
BuiltFewest = (base rec : List ℕ) (number : ℕ) (page undo : List ℕ) (v : Numbers) → AllBelow 256 base → AllBelow 256 rec
    → (build base rec number page undo).answer ≡ Answer.Value v
    → (es : List Edit)
    × (read_record rec ≡ some es)
    × ((m q : ℕ) → Permitted (keys (apply (entries base) es)) m q → v.bits ≤ bits_under (keys (apply (entries base) es)) m q)

-- A build is refused with 14 only where these entries rise and no permitted choice for them has body bytes of at most
-- 4,086.
abbrev pub BuiltNoRoom : Type 0
BuiltNoRoom = (base rec : List ℕ) (number : ℕ) (page undo : List ℕ) → AllBelow 256 base → AllBelow 256 rec
    → (build base rec number page undo).answer ≡ Answer.Refused 14
    → (es : List Edit)
    × (read_record rec ≡ some es)
    × Rising (apply (entries base) es)
    × ((m q : ℕ)
    → Permitted (keys (apply (entries base) es)) m q
    → 4086 < body_bytes (length (apply (entries base) es)) q (sum (stored_lengths m q (keys (apply (entries base) es)))))
