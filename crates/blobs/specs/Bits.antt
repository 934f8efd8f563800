-- The bits of bytes, and of several blobs.
use Rattle.std.specs.Prelude.{ℕ, ◌≡◌, ◌⊎◌, ◌*◌, ◌/◌, ◌%◌, ◌<◌, List, [], length, map, slice_index_or}
use Rattle.record_dim.specs.Std.{bit_at, range_with_len}

-- bit `place` of some bytes is bit `place % 8` of byte `place / 8`; outside it is 0
abbrev pub bit_of : List ℕ → ℕ → ℕ
bit_of bytes place = bit_at (slice_index_or bytes (place / 8) 0) (place % 8)

-- all bits of some bytes, in order
abbrev pub bits_of : List ℕ → List ℕ
bits_of bytes = map (bit_of bytes) (range_with_len 0 (8 * length bytes))

-- bit `place` of blob `blob`; outside of the blobs it is 0
abbrev pub bit_in : List (List ℕ) → ℕ → ℕ → ℕ
bit_in blobs blob place = bit_of (slice_index_or blobs blob []) place

-- a number of bits that is one, two, four or eight bytes
abbrev pub IsWholeBytes : ℕ → Type 0
IsWholeBytes n = (n ≡ 8) ⊎ ((n ≡ 16) ⊎ ((n ≡ 32) ⊎ (n ≡ 64)))

-- each is a byte
abbrev pub AreBytes : List ℕ → Type 0
AreBytes bytes = (k : ℕ) → slice_index_or bytes k 0 < 256
