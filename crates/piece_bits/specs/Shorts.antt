-- Short forms: what they say of a row, and when they say what a rule says.
use Rattle.std.specs.Prelude.{ℕ, ◌≡◌, ◌+◌, ◌*◌, ◌/◌, ◌%◌, ◌^◌, ◌<◌, ◌≤◌, List, length, map}
use Rattle.piece_bits.specs.Imports.{Order, indices, Owner, IsLocated, pieces_in, Hold, Piece, PieceRule}
use Rattle.piece_bits.specs.Words.{word_signed, word_width, word_pieces}
use Rattle.piece_bits.specs.declared.field.Field.{Field}
use Rattle.piece_bits.specs.declared.word.Word.{Word}
use Rattle.piece_bits.specs.declared.word.Word.TheVariants as stored
use Rattle.piece_bits.specs.RowPaths.{IsRowPath}
use Rattle.piece_bits.specs.Walks.{slot_by}
use Rattle.piece_bits.specs.declared.walk.Walk.TheVariants as walk
use Rattle.piece_bits.specs.declared.short.ShortRule.{ShortRule}

-- the place of a slot in blocks of a power of two: a bit where a field stands there, else a byte
abbrev pub place_by : ℕ → ℕ → ℕ → ℕ → ℕ → ℕ
place_by base block lane power slot = base + slot / 2 ^ power * block + slot % 2 ^ power * lane

-- the pieces of what stands at a place; scattered bytes stand alike from the first byte of each rule on
abbrev pub pieces_by : Word → Field → ℕ → List PieceRule → ℕ → List Piece
pieces_by stored.Scattered field blob rules place = map (λ rule. record { blob = rule.blob; bit = 8 * (rule.base / 8 + place); bits = 8 }) rules
pieces_by word field blob rules place = word_pieces word field blob place

-- the slot of a row
abbrev pub slot_in : ShortRule → ℕ → ℕ
slot_in short row = slot_by short.walk short.lines short.columns.columns row

-- the place of a row
abbrev pub start_in : ShortRule → ℕ → ℕ
start_in short row = place_by short.base short.block short.lane short.power (slot_in short row)

-- the pieces of a row, by the rules that the short form is of
abbrev pub short_pieces : ShortRule → List PieceRule → ℕ → List Piece
short_pieces short rules row = pieces_by short.word short.field short.blob rules (start_in short row)

-- the place of a row can be worked out
pub record HasStart (short : ShortRule) (row : ℕ) : Type 0 where
  pub row_in : row < 2 ^ 24
  pub slot_in : slot_in short row < 2 ^ 24
  pub fits : start_in short row < 2 ^ 64
  pub line : short.walk ≡ walk.Morton → row / short.columns.columns < 2 ^ 12
  pub column : short.walk ≡ walk.Morton → row % short.columns.columns < 2 ^ 12

-- wherever the pieces of rules are the places of a cell, so are those of what stands at a place, and the place fits its type
abbrev pub StandsFor : List PieceRule → Word → Field → ℕ → ℕ → ℕ → ℕ → ℕ → Type 0
StandsFor rules word field blob base block lane power = (layout : List (List Owner)) (row cell width slot : ℕ) → IsLocated layout row cell width (pieces_in rules slot)
    → IsLocated layout row cell width (pieces_by word field blob rules (place_by base block lane power slot)) × (place_by base block lane power slot < 2 ^ 64)

-- what stands at its places has the sign and the width of a hold, and a field at most 57 bits
pub record IsHeldBy (hold : Hold) (word : Word) (field : Field) : Type 0 where
  pub signed : word_signed word field ≡ hold.signed
  pub wide : word_width word field ≡ hold.width
  pub narrow : word ≡ stored.Field → field.width ≤ 57

-- a short form says of rules by an order over extents what they say
pub record IsShortOf (order : Order) (extents : List ℕ) (rules : List PieceRule) (hold : Hold) (short : ShortRule) : Type 0 where
  pub held : IsHeldBy hold short.word short.field
  pub stands : StandsFor rules short.word short.field short.blob short.base short.block short.lane short.power
  pub path : IsRowPath order extents short.power short.walk short.lines short.columns.columns
  pub rows : length (indices extents) ≤ 2 ^ 24

-- a short form says where a cell lies in every row, and how it is stored
pub record IsShortIn (layout : List (List Owner)) (rows cell width : ℕ) (hold : Hold) (rules : List PieceRule) (short : ShortRule) : Type 0 where
  pub held : IsHeldBy hold short.word short.field
  pub starts : (row : ℕ) → row < rows → HasStart short row
  pub located : (row : ℕ) → row < rows → IsLocated layout row cell width (short_pieces short rules row)
