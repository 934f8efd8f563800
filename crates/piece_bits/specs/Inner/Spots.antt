-- The places of the bits of pieces, and the bits at places.
use Rattle.std.specs.Prelude.{ℕ, ◌+◌, ◌*◌, ◌<◌, ◌≤◌, ◌≡◌, List, [], length, map, slice_index_or}
use Rattle.piece_bits.specs.Imports.{flat_map, range_with_len, Piece}

-- a place is a blob and a bit within it; these are the places of all bits of pieces, in order
abbrev pub spots_of : List Piece → List (ℕ × ℕ)
spots_of pieces = flat_map (λ piece. map (λ bit. (piece.blob, bit)) (range_with_len piece.bit piece.bits)) pieces

-- place `k` of a list of places
abbrev pub spot_at : List (ℕ × ℕ) → ℕ → ℕ × ℕ
spot_at spots k = slice_index_or spots k (0, 0)

-- the bit at place `k` of a list of places
abbrev pub bit_at_spot : (ℕ → ℕ → ℕ) → List (ℕ × ℕ) → ℕ → ℕ
bit_at_spot bits spots k = bits (spot_at spots k).0 (spot_at spots k).1

-- a piece lies within blobs, and is not empty
pub record IsWithin (blobs : List (List ℕ)) (piece : Piece) : Type 0 where
  pub blob_in : piece.blob < length blobs
  pub bits_in : piece.bit + piece.bits ≤ 8 * length (slice_index_or blobs piece.blob [])
  pub some : 0 < piece.bits

-- no place stands twice
abbrev pub AreApart : List (ℕ × ℕ) → Type 0
AreApart spots = (j k : ℕ) → j < length spots → k < length spots → spot_at spots j ≡ spot_at spots k → j ≡ k

-- a place is none of these
abbrev pub IsOutside : List (ℕ × ℕ) → ℕ → ℕ → Type 0
IsOutside spots blob bit = (k : ℕ) → k < length spots → spot_at spots k ≡ (blob, bit) → ⊥
