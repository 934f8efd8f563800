-- What a layout and its places keep: the laws that every layer above a mapping stands on.
use Rattle.std.specs.Prelude.{ℕ, ◌+◌, ◌%◌, ◌^◌, ◌<◌, ◌≤◌, ◌≡◌, List, [], length, map, All, slice_index, slice_index_or}
use Rattle.record_dim.specs.Std.{flat_map, range_with_len}
use Rattle.places.specs.Layout.{Owner, Bit, owner_at, field}
use Rattle.places.specs.declared.piece.Piece.{Piece}

-- bit `bit` of cell `cell` in slot `slot` is stored, where so many slots have cells of these widths
pub record IsBitOf (slots : ℕ) (widths : List ℕ) (slot cell bit : ℕ) : Type 0 where
  pub slot_in : slot < slots
  pub cell_in : cell < length widths
  pub bit_in : bit < slice_index widths cell

-- every bit has exactly one place, every owner is a pad or such a bit, and blobs are whole bytes
pub record IsLaidOut (layout : List (List Owner)) (slots : ℕ) (widths : List ℕ) : Type 0 where
  pub whole_bytes : All (λ blob. length blob % 8 ≡ 0) layout
  pub owned : (b p s c k : ℕ) → owner_at layout b p ≡ Bit s c k → IsBitOf slots widths s c k
  pub once : (b p b' p' s c k : ℕ) → owner_at layout b p ≡ Bit s c k → owner_at layout b' p' ≡ Bit s c k → (b ≡ b') × (p ≡ p')
  pub there : (s c k : ℕ) → IsBitOf slots widths s c k → (b : ℕ) × (p : ℕ) × (owner_at layout b p ≡ Bit s c k)
  pub narrow : All (λ width. width ≤ 64) widths
  pub wide : All (λ width. 1 ≤ width) widths

-- the owners of a piece's bits, in order
abbrev pub owners_in : List (List Owner) → Piece → List Owner
owners_in layout piece = map (owner_at layout piece.blob) (range_with_len piece.bit piece.bits)

-- a piece of later blobs, which stand behind `by` others
abbrev pub shifted : ℕ → Piece → Piece
shifted by piece = record { blob = piece.blob + by; bit = piece.bit; bits = piece.bits }

-- a piece is not empty and lies within its blob
pub record IsPiece (layout : List (List Owner)) (piece : Piece) : Type 0 where
  pub blob_in : piece.blob < length layout
  pub bits_in : piece.bit + piece.bits ≤ length (slice_index_or layout piece.blob [])
  pub bound : piece.bit + piece.bits < 2 ^ 64
  pub some : 0 < piece.bits

-- the pieces are the places of all bits of a cell in a slot, least significant first
pub record IsLocated (layout : List (List Owner)) (slot cell width : ℕ) (pieces : List Piece) : Type 0 where
  pub each : All (IsPiece layout) pieces
  pub spelled : flat_map (owners_in layout) pieces ≡ field slot (cell, width)
  pub bytes : width % 8 ≡ 0 → All (λ piece. piece.bits % 8 ≡ 0) pieces
