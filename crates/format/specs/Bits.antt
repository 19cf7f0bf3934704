-- Bits as lists of 0 and 1, most significant first, and numbers as little-endian bytes. Document 01, "The page",
-- "Edit record".
-- In order: bits bits_of value · fill pack bytes_for · le unle · AllBelow.
-- Assumes nothing.
use Rattle.std.specs.Prelude.{ℕ, zero, suc, ◌+◌, ◌*◌, ◌/◌, ◌%◌, ◌^◌, ◌<◌, List, [], ◌∷◌, ◌++◌, length, take, drop, replicate}

-- The w low bits of n.
unfoldable pub bits : ℕ → ℕ → List ℕ
bits zero n = []
bits (suc w) n = n / 2 ^ w % 2 ∷ bits w n

-- The bits of bytes, eight of each.
unfoldable pub bits_of : List ℕ → List ℕ
unfolding bits
bits_of [] = []
bits_of (x ∷ xs) = bits 8 x ++ bits_of xs

-- The number that bits spell; 0 for no bits.
unfoldable pub value : List ℕ → ℕ
value [] = 0
value (b ∷ bs) = b * 2 ^ length bs + value bs

-- The first n of bs, with zeros behind them where there are fewer.
unfoldable pub fill : ℕ → List ℕ → List ℕ
fill n bs = take n (bs ++ replicate n 0)

-- The k bytes that hold the first 8k of bs, with zeros behind them where there are fewer.
unfoldable pub pack : ℕ → List ℕ → List ℕ
unfolding value fill
pack zero bs = []
pack (suc k) bs = value (fill 8 bs) ∷ pack k (drop 8 bs)

-- How many bytes n bits take: n / 8, rounded up.
unfoldable pub bytes_for : ℕ → ℕ
bytes_for n = (n + 7) / 8

-- A number as w bytes, least significant first; what does not fit them is lost.
unfoldable pub le : ℕ → ℕ → List ℕ
le zero n = []
le (suc w) n = n % 256 ∷ le w (n / 256)

-- The number that such bytes spell; 0 for none.
unfoldable pub unle : List ℕ → ℕ
unle [] = 0
unle (x ∷ xs) = x + 256 * unle xs

-- Each of xs is below n: bits are AllBelow 2, bytes are AllBelow 256.
unfoldable pub AllBelow : ℕ → List ℕ → Type 0
AllBelow n [] = Unit {0}
AllBelow n (x ∷ xs) = (x < n) × AllBelow n xs
