-- Bytes that stand each by itself, alike from slot to slot.
use Rattle.std.specs.Prelude.{ℕ, ◌+◌, ◌*◌, ◌/◌, List, map}
use Rattle.piece_bits.specs.Imports.{Piece, PieceRule}

-- the byte that stands a place behind the first one of a rule
abbrev pub byte_of : ℕ → PieceRule → Piece
byte_of place rule = record { blob = rule.blob; bit = 8 * (rule.base / 8 + place); bits = 8 }

-- those of rules, least significant first
abbrev pub scattered_pieces : List PieceRule → ℕ → List Piece
scattered_pieces rules place = map (byte_of place) rules
