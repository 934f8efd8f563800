-- Pieces cut into bytes and taken in another order, and the same of rules.
use Rattle.std.specs.Prelude.{ℕ, zero, suc, ◌+◌, ◌*◌, ◌/◌, List, [], ◌++◌, map, reverse, take, drop}
use Rattle.map_bytes.specs.Imports.{flat_map, range_with_len, Piece, PieceRule}

-- one byte of a piece
abbrev pub byte_of : ℕ → Piece → Piece
byte_of byte piece = record { blob = piece.blob; bit = piece.bit + 8 * byte; bits = 8 }

-- the bytes of a piece, in order
abbrev pub piece_bytes : Piece → List Piece
piece_bytes piece = map (λ byte. byte_of byte piece) (range_with_len 0 (piece.bits / 8))

-- pieces of whole bytes, with their bytes in reverse order
abbrev pub swapped : List Piece → List Piece
swapped pieces = reverse (flat_map piece_bytes pieces)

-- the rule of one byte of a rule's pieces
abbrev pub rule_byte : ℕ → PieceRule → PieceRule
rule_byte byte rule = record {
  blob = rule.blob;
  base = rule.base + 8 * byte;
  lanes = rule.lanes;
  block = rule.block;
  lane = rule.lane;
  bits = 8;
  some = rule.some;
}

-- the rules of the bytes of a rule's pieces, in order
abbrev pub rule_bytes : PieceRule → List PieceRule
rule_bytes rule = map (λ byte. rule_byte byte rule) (range_with_len 0 (rule.bits / 8))

-- rules of whole bytes, with their bytes in reverse order
abbrev pub swapped_rules : List PieceRule → List PieceRule
swapped_rules rules = reverse (flat_map rule_bytes rules)

-- the places of the bits of pieces, in order: the blob and the bit in it
abbrev pub places_in : List Piece → List (ℕ × ℕ)
places_in pieces = flat_map (λ piece. map (λ bit. (piece.blob, bit)) (range_with_len piece.bit piece.bits)) pieces

-- the first `groups` groups of 8 of a list, the groups in reverse order
abbrev pub groups_back : {X : Type 0} → ℕ → List X → List X
groups_back zero xs = []
groups_back (suc groups) xs = groups_back groups (drop 8 xs) ++ take 8 xs
