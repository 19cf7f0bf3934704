-- What an answer of the code tells, case by case: the value, or the refusal's number and zeros.
-- In order: outcome_refused · size_is size-refused size_carried · checked_page checked_refused · entry_pointer
-- entry-refused · built-page built-refused. Not here: what the answers mean (the crates that give them).
-- Assumes nothing.
use mathlib.Core.Path.{◌≡◌, sym, ap, ◌∙◌}
use Rattle.std.specs.Prelude.{⊤, ℕ, Result, Ok, Err}
use Rattle.format.specs.Answer.{Answer}
use Rattle.format.specs.Build.{Numbers}
use Rattle.format.specs.Page.{Header}
use Rattle.format.specs.Refusals.{refusal_number, outcome_number}
use Rattle.format.specs.declared.refusal.Refusal.{Refusal}
use Rattle.build.specs.Built.{built_answer}
use Rattle.build.specs.declared.Numbers.{Numbers as Made}
use Rattle.shape.specs.Shape.{checked_answer}
use Rattle.node.specs.Reader.{entry_answer}
use Rattle.sizes.specs.Sizes.{size_answer}
use Rattle.shape.specs.declared.Header.{Header as PageHeader}
use Rattle.trussember.specs.declared.answers.Built.{Built}
use Rattle.trussember.specs.declared.answers.Checked.{Checked}
use Rattle.trussember.specs.declared.answers.EntryRead.{EntryRead}
use Rattle.trussember.specs.declared.answers.Size.{Size}
use Rattle.trussember.specs.Told.{built_told, checked_told, entry_told, size_told}

-- a refused outcome's number
pub outcome_refused : (o : Result ⊤ Refusal) (x : Refusal) (k : ℕ) → o ≡ Err x → k ≡ refusal_number x → k ≡ outcome_number o
outcome_refused o x k q e = e ∙ sym (ap outcome_number q)

-- a size
pub size_is : (s : Result ℕ Refusal) (x : ℕ) → s ≡ Ok x → ◌≡◌ {A = Size} (record { refusal = 0; value = x }) (size_told (size_answer s))
unfolding size_told
size_is s x q = sym (ap (λ (t : Result ℕ Refusal). size_told (size_answer t)) q)

-- a refused size
pub size-refused : (s : Result ℕ Refusal) (x : Refusal) (k : ℕ) → s ≡ Err x → k ≡ refusal_number x
    → ◌≡◌ {A = Size} (record { refusal = k; value = 0 }) (size_told (size_answer s))
unfolding size_told
size-refused s x k q e =
    ap (λ (n : ℕ). size_told (Answer.Refused n)) e ∙ sym (ap (λ (t : Result ℕ Refusal). size_told (size_answer t)) q)

-- what is told of a size is told of what the size means
pub size_carried : (s : Result ℕ Refusal) (r : Size) (a : Answer ℕ) → r ≡ size_told (size_answer s) → size_answer s ≡ a
    → r ≡ size_told a
size_carried s r a e q = e ∙ ap size_told q

-- the header of an accepted page
pub checked_page : (c : Result PageHeader Refusal) (a : Answer Header) (h : PageHeader) → checked_answer c ≡ a → c ≡ Ok h
    → ◌≡◌ {A = Checked}
    (record { refusal = 0; number = h.number; n = h.n; m = h.m; q = h.q; bits = h.bits })
    (checked_told a)
unfolding checked_told
checked_page c a h e q = sym (ap (λ (x : Result PageHeader Refusal). checked_told (checked_answer x)) q) ∙ ap checked_told e

-- a refused page
pub checked_refused : (c : Result PageHeader Refusal) (a : Answer Header) (x : Refusal) (k : ℕ) → checked_answer c ≡ a → c ≡ Err x
    → k ≡ refusal_number x
    → ◌≡◌ {A = Checked} (record { refusal = k; number = 0; n = 0; m = 0; q = 0; bits = 0 }) (checked_told a)
unfolding checked_told
checked_refused c a x k e q ek =
    ap (λ (n : ℕ). checked_told (Answer.Refused n)) ek
    ∙ sym (ap (λ (y : Result PageHeader Refusal). checked_told (checked_answer y)) q)
    ∙ ap checked_told e

-- the pointer of an entry
pub entry_pointer : (c : Result ℕ Refusal) (a : Answer ℕ) (p : ℕ) → entry_answer c ≡ a → c ≡ Ok p
    → ◌≡◌ {A = EntryRead} (record { refusal = 0; pointer = p }) (entry_told a)
unfolding entry_told
entry_pointer c a p e q = sym (ap (λ (x : Result ℕ Refusal). entry_told (entry_answer x)) q) ∙ ap entry_told e

-- an entry that is not read
pub entry-refused : (c : Result ℕ Refusal) (a : Answer ℕ) (x : Refusal) (k : ℕ) → entry_answer c ≡ a → c ≡ Err x
    → k ≡ refusal_number x
    → ◌≡◌ {A = EntryRead} (record { refusal = k; pointer = 0 }) (entry_told a)
unfolding entry_told
entry-refused c a x k e q ek =
    ap (λ (n : ℕ). entry_told (Answer.Refused n)) ek
    ∙ sym (ap (λ (y : Result ℕ Refusal). entry_told (entry_answer y)) q)
    ∙ ap entry_told e

-- the numbers of an accepted build
pub built-page : (c : Result Made Refusal) (a : Answer Numbers) (x : Made) → built_answer c ≡ a → c ≡ Ok x
    → ◌≡◌ {A = Built}
    (record { refusal = 0; n = x.n; m = x.m; q = x.q; bits = x.bits; undo = x.undo })
    (built_told a)
unfolding built_told
built-page c a x e q = sym (ap (λ (y : Result Made Refusal). built_told (built_answer y)) q) ∙ ap built_told e

-- a refused build
pub built-refused : (c : Result Made Refusal) (a : Answer Numbers) (x : Refusal) (k : ℕ) → built_answer c ≡ a → c ≡ Err x
    → k ≡ refusal_number x
    → ◌≡◌ {A = Built} (record { refusal = k; n = 0; m = 0; q = 0; bits = 0; undo = 0 }) (built_told a)
unfolding built_told
built-refused c a x k e q ek =
    ap (λ (n : ℕ). built_told (Answer.Refused n)) ek
    ∙ sym (ap (λ (y : Result Made Refusal). built_told (built_answer y)) q)
    ∙ ap built_told e

pub ruleset told-laws =
    (outcome_refused, size_is, size-refused, size_carried, checked_page, checked_refused, entry_pointer, entry-refused, built-page, built-refused)
