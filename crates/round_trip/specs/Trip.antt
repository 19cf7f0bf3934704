-- Demand 3 as definitions that compute: document 01, "Demands", 3.
-- In order: same_bytes · blank_page blank_undo · is_normal · gives brings_again and_again brings_back · trip_answer Agreed.
-- Assumes nothing.
use Rattle.std.specs.Prelude.{ℕ, ◌≤◌, Bool, true, false, ◌&&◌, List, [], ◌∷◌, ◌≡◌, eqb, length, replicate, take, Result, Ok, Err}
use Rattle.format.specs.Answer.{Answer}
use Rattle.format.specs.Build.{Built, Numbers, build}
use Rattle.format.specs.Normal.{normal_page}
use Rattle.format.specs.Page.{entries, page_number, page_refusal}
use Rattle.format.specs.Refusals.{refusal_number}
use Rattle.build.specs.Built.{numbers_meant}
use Rattle.build.specs.declared.Numbers.{Numbers as CodeNumbers}
use Rattle.round_trip.specs.declared.TripError.{TripError}
use Rattle.round_trip.specs.declared.TripError.TheVariants.{Differs, Refused}

-- The bytes are the same.
unfoldable pub same_bytes : List ℕ → List ℕ → Bool
same_bytes [] [] = true
same_bytes [] (y ∷ ys) = false
same_bytes (x ∷ xs) [] = false
same_bytes (x ∷ xs) (y ∷ ys) = eqb x y && same_bytes xs ys

-- A page and an undo buffer to be lent, of zeros.
unfoldable pub blank_page : List ℕ
blank_page = replicate 4096 0

unfoldable pub blank_undo : List ℕ
blank_undo = replicate 24704 0

-- p is the normal page of the entries of a base that is accepted.
unfoldable pub is_normal : List ℕ → List ℕ → Bool
unfolding page_refusal same_bytes normal_page page_number entries
is_normal base p = eqb (page_refusal base) 0 && same_bytes (normal_page (page_number base) (entries base)) p

-- A build was accepted and left the page p.
unfoldable pub gives : Answer Numbers → List ℕ → List ℕ → Bool
unfolding same_bytes
gives (Answer.Refused r) left p = false
gives (Answer.Value v) left p = same_bytes left p

-- A build over a page with a record and a number is accepted and gives the page p.
unfoldable pub brings_again : List ℕ → List ℕ → ℕ → List ℕ → Bool
unfolding build blank_page blank_undo gives
brings_again over rec number p =
    let b : Built = build over rec number blank_page blank_undo in
    gives b.answer b.page p

-- What comes after the build that brings the base back: it was accepted, gave the normal page of the base's entries,
-- and its undo record brings the page p again.
unfoldable pub and_again : List ℕ → List ℕ → ℕ → Answer Numbers → Built → Bool
unfolding is_normal brings_again
and_again base p number (Answer.Refused r) b = false
and_again base p number (Answer.Value w) b = is_normal base b.page && brings_again b.page (take w.undo b.undo) number p

-- A record over the page p brings the base back, and the undo record of that brings p again.
unfoldable pub brings_back : List ℕ → List ℕ → List ℕ → ℕ → Bool
unfolding build page_number blank_page blank_undo and_again
brings_back base p rec number =
    let b : Built = build p rec (page_number base) blank_page blank_undo in
    and_again base p number b.answer b

-- What a round trip answers: the numbers, or the number of the refusal; 0, which no refusal has, where they differ.
abbrev pub trip_answer : Result CodeNumbers TripError → Answer Numbers
trip_answer (Ok v) = Answer.Value (numbers_meant v)
trip_answer (Err Differs) = Answer.Refused 0
trip_answer (Err (Refused r)) = Answer.Refused (refusal_number r)

-- What a round trip's answer says of lent memory afterwards. That all agree: over a base, the record at the front of
-- the undo buffer brings the base back, and the undo record of that brings the page again. That they differ is never
-- said.
abbrev pub Agreed : List ℕ → List ℕ → List ℕ → ℕ → Result CodeNumbers TripError → Type 0
Agreed base page undo number (Ok v) = 1 ≤ length base → brings_back base page (take v.undo undo) number ≡ true
Agreed base page undo number (Err Differs) = ⊥
Agreed base page undo number (Err (Refused r)) = Unit {0}
