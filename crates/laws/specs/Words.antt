-- That the definitions of keys and bits mean document 01's words, said once more by index. Document 01, "The page".
-- In order: OrderWords LengthWords SharedWords SeparateWords CopyWords.
-- Assumes nothing.
use Rattle.std.specs.Prelude.{true, false, List, ◌↔◌, ◌≢◌, ◌⊎◌, ◌≡◌, ℕ, ◌+◌, ◌-◌, ◌≤◌, ◌<◌, length, take, get_or}
use Rattle.format.specs.Bits.{value, bits_of, AllBelow}
use Rattle.format.specs.Key.{IsKey, below, same_key, separator_length, shared_bits}
use Rattle.format.specs.Answer.{Answer}
use Rattle.format.specs.Ranges.{separate, bit_copy}

-- The order of keys is that of the numbers that they spell, and keys are the same only if they are equal.
abbrev pub OrderWords : Type 0
OrderWords = (a b : List ℕ) → IsKey a → IsKey b
    → ((below a b ≡ true) ↔ (value a < value b)) × ((same_key a b ≡ true) ↔ (a ≡ b))

-- The bits of a key from its separator length on are zero, and the last before it is set: but for a length of 1,
-- where it need not be.
pub record LengthOf (k : List ℕ) (n : ℕ) : Type 0 where
  pub low : 1 ≤ n
  pub high : n ≤ 256
  pub zeros : (i : ℕ) → n ≤ i → get_or k i 0 ≡ 0
  pub last : (n ≡ 1) ⊎ (get_or k (n - 1) 0 ≡ 1)

abbrev pub LengthWords : Type 0
LengthWords = (k : List ℕ) → IsKey k → LengthOf k (separator_length k)

-- Two keys agree in their shared bits, and differ in the next: where they are equal there is none.
pub record SharedBy (a b : List ℕ) (n : ℕ) : Type 0 where
  pub high : n ≤ 256
  pub agree : take n a ≡ take n b
  pub differ : n < 256 → get_or a n 0 ≢ get_or b n 0
  pub equal : n ≡ 256 → a ≡ b

abbrev pub SharedWords : Type 0
SharedWords = (a b : List ℕ) → IsKey a → IsKey b → SharedBy a b (shared_bits a b)

-- What separates a from b is a key above a and not above b.
pub record Between (a b c : List ℕ) : Type 0 where
  pub is_key : IsKey c
  pub above : below a c ≡ true
  pub not_above : below b c ≡ false

abbrev pub SeparateWords : Type 0
SeparateWords = (a b c : List ℕ) → IsKey a → IsKey b → separate a b ≡ Answer.Value c → Between a b c

-- A bit copy keeps the length, changes exactly the named bits, and leaves bytes.
pub record CopiedFrom (dst : List ℕ) (to : ℕ) (src : List ℕ) (from len : ℕ) (after : List ℕ) : Type 0 where
  pub size : length after ≡ length dst
  pub bytes : AllBelow 256 after
  pub inner : (i : ℕ) → i < len → get_or (bits_of after) (to + i) 0 ≡ get_or (bits_of src) (from + i) 0
  pub before : (i : ℕ) → i < to → get_or (bits_of after) i 0 ≡ get_or (bits_of dst) i 0
  pub behind : (i : ℕ) → to + len ≤ i → get_or (bits_of after) i 0 ≡ get_or (bits_of dst) i 0

abbrev pub CopyWords : Type 0
CopyWords = (dst : List ℕ) (to : ℕ) (src : List ℕ) (from len : ℕ) (after : List ℕ)
    → bit_copy dst to src from len ≡ Answer.Value after → CopiedFrom dst to src from len after
