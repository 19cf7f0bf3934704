-- Keys: lists of 256 bits, most significant first. Document 01, "The page": separator length, shared bits, separate.
-- In order: IsKey · below same_key · last_set separator_length · shared_bits separator.
-- Assumes nothing.
use Rattle.std.specs.Prelude.{◌≡◌, ℕ, zero, suc, ◌+◌, max, Bool, true, false, cond, List, [], ◌∷◌, length, take, eqb, ltb}
use Rattle.format.specs.Bits.{value, fill, AllBelow}

-- k is a key.
pub record IsKey (k : List ℕ) : Type 0 where
  pub size : length k ≡ 256
  pub bits : AllBelow 2 k

-- a < b: at the first bit in which they differ a has the smaller; no key is below itself.
unfoldable pub below : List ℕ → List ℕ → Bool
below [] [] = false
below [] (y ∷ ys) = true
below (x ∷ xs) [] = false
below (x ∷ xs) (y ∷ ys) = cond (eqb x y) (below xs ys) (ltb x y)

-- Two keys are equal: they spell the same number.
abbrev pub same_key : List ℕ → List ℕ → Bool
same_key a b = eqb (value a) (value b)

-- How far a bit b and those behind it reach, where those reach as far as their n-th: where none of them is set, as
-- far as b itself.
unfoldable pub reach : ℕ → ℕ → ℕ
reach b zero = b
reach b (suc n) = suc (suc n)

-- How many bits there are up to the last that is set, and with it: all but the zero bits at the end; 0 where none is
-- set.
unfoldable pub last_set : List ℕ → ℕ
unfolding reach
last_set [] = 0
last_set (b ∷ bs) = reach b (last_set bs)

-- Separator length: 256 less the zero bits at the key's end; the all-zero key has 1.
unfoldable pub separator_length : List ℕ → ℕ
unfolding last_set
separator_length k = max 1 (last_set k)

-- Shared bits: counted from the front, up to the first in which the keys differ; 256 if they are equal.
unfoldable pub shared_bits : List ℕ → List ℕ → ℕ
shared_bits [] ys = 0
shared_bits (x ∷ xs) [] = 0
shared_bits (x ∷ xs) (y ∷ ys) = cond (eqb x y) (suc (shared_bits xs ys)) 0

-- What separates a from b, a < b: the first (shared + 1) bits of b, then zeros.
unfoldable pub separator : List ℕ → List ℕ → List ℕ
unfolding shared_bits fill
separator a b = fill 256 (take (shared_bits a b + 1) b)
