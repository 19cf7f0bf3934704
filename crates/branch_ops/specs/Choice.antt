-- The choice of the normal page, made in one pass over the keys. Document 01, "The normal page", and refusal 14.
-- In order: whole · better saving_at saving_from one_pass · chosen_of · choice_meant choice_answer.
-- Assumes nothing.
use Rattle.std.specs.Prelude.{cond, not, List, [], ◌∷◌, map, ℕ, ◌+◌, ◌-◌, ◌*◌, min, leb, length, drop, Result}
use Rattle.format.specs.Answer.{Answer, refuse, first, unless}
use Rattle.format.specs.Key.{separator_length, shared_bits}
use Rattle.format.specs.Normal.{Choice, sum, first_key}
use Rattle.format.specs.Page.{body_bytes}
use Rattle.format.specs.Refusals.{answer_of}
use Rattle.format.specs.declared.refusal.Refusal.{Refusal}
use Rattle.branch_ops.specs.declared.choice.Saving.{Saving}
use Rattle.branch_ops.specs.declared.choice.Choice.{Choice as Numbers}

-- The separator lengths of all keys together.
unfoldable pub whole : List (List ℕ) → ℕ
unfolding sum separator_length
whole ks = sum (map separator_length ks)

-- The choice that saves more; the second where both save alike.
unfoldable pub better : Saving → Saving → Saving
better c d = cond (leb c.bits d.bits) d c

-- The choice of m = i + 1, where k is the key behind the first i, and what it saves: q bits in each of the i keys
-- behind the first, less the prefix itself, and of the first key what it has of them.
unfoldable pub saving_at : List ℕ → ℕ → List ℕ → Saving
unfolding shared_bits separator_length
saving_at first i k =
    let q : ℕ = shared_bits first k in
    record { m = i + 1; q = q; bits = (i - 1) * q + min (separator_length first) q }

-- The better of c and those of the keys behind the first i.
unfoldable pub saving_from : List ℕ → ℕ → Saving → List (List ℕ) → Saving
unfolding better saving_at
saving_from first i c [] = c
saving_from first i c (k ∷ ks) = saving_from first (i + 1) (better c (saving_at first i k)) ks

-- The choice that saves most, with its bits; m = 1, q = 0 saves none. Of no keys: m = 1, q = 0, 0 bits.
unfoldable pub one_pass : List (List ℕ) → Choice
unfolding saving_from first_key whole
one_pass ks =
    let c : Saving = saving_from (first_key ks) 1 (record { m = 1; q = 0; bits = 0 }) (drop 1 ks) in
    record { m = c.m; q = c.q; bits = whole ks - c.bits }

-- That choice, or refusal 14 where its body bytes are over 4,086.
unfoldable pub chosen_of : List (List ℕ) → Answer Choice
unfolding unless first body_bytes one_pass
chosen_of ks = unless (first (refuse 14 (not (leb (body_bytes (length ks) 0 (one_pass ks).bits) 4086)) ∷ [])) (one_pass ks)

-- The choice that the code's numbers stand for.
abbrev pub choice_meant : Numbers → Choice
choice_meant c = record { m = c.m; q = c.q; bits = c.bits }

-- What the code's answer says: the choice, or the refusal's number.
abbrev pub choice_answer : Result Numbers Refusal → Answer Choice
choice_answer r = answer_of choice_meant r
