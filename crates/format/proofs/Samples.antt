-- What the cases are made of: bytes, keys, entries and pages.
-- In order: hex zeros · key last_key long · two inserts full · blank · built.
-- Assumes nothing.
use Prim.Native.Nat.{ℕ, zero, suc, ◌-◌, ◌/◌, ◌%◌, ◌^◌}
use mathlib.Core.List.{List, [], ◌∷◌, ◌++◌}
use lib.ListN.{replicate}
use Rattle.format.specs.Bits.{bits, bits_of, le}
use Rattle.format.specs.Page.{Entry, each}
use Rattle.format.specs.Normal.{words, normal_page}
use Rattle.format.specs.Edit.{Edit}
use Rattle.format.specs.Edit.Edit.{Insert}
use Rattle.format.specs.Build.{Built, build}

-- w bytes as one reads them, the most significant first: hex 2 0x8001 is 80 01.
unfoldable pub hex : ℕ → ℕ → List ℕ
hex zero n = []
hex (suc w) n = n / 256 ^ w % 256 ∷ hex w n

-- n zeros.
abbrev pub zeros : ℕ → List ℕ
zeros n = replicate n 0

-- A key by its first byte, the rest zero.
unfoldable pub key : ℕ → List ℕ
unfolding bits_of
key b = bits_of (b ∷ zeros 31)

-- A key by its last byte, the rest zero.
unfoldable pub last_key : ℕ → List ℕ
unfolding bits_of
last_key b = bits_of (zeros 31 ++ b ∷ [])

-- A key by its first byte, with the one other bit that gives it this separator length.
unfoldable pub long : ℕ → ℕ → List ℕ
unfolding bits
long b len = bits 8 b ++ zeros (len - 9) ++ 1 ∷ zeros (256 - len)

-- Keys 80 and C0 with pointers 17 and 34.
unfoldable pub two : List Entry
unfolding key
two = record { key = key 0x80; pointer = 17 } ∷ record { key = key 0xC0; pointer = 34 } ∷ []

-- Entries as Inserts.
unfoldable pub inserts : List Entry → List Edit
inserts [] = []
inserts (e ∷ es) = Insert e.key e.pointer ∷ inserts es

-- 108 entries, all of length 256 but the last, of this length: they take 4,086 body bytes where it is 238.
unfoldable pub full : ℕ → List Entry
unfolding each long
full len = each 107 (λ i. record { key = long i 256; pointer = 5 }) ++ record { key = long 107 len; pointer = 5 } ∷ []

-- A page of n, m, q, end offsets, these bits' bytes, and so many zeros.
unfoldable pub blank : ℕ → ℕ → ℕ → List ℕ → List ℕ → ℕ → List ℕ
unfolding le words
blank n m q ends body rest = le 4 7 ++ le 2 n ++ le 2 m ++ le 2 q ++ words 2 ends ++ body ++ zeros rest

-- A build over the two entries, with this record, onto page 8 of size bytes, with room bytes for the undo record.
abbrev pub built : List ℕ → ℕ → ℕ → Built
built rec size room = build (normal_page 7 two) rec 8 (zeros size) (zeros room)
