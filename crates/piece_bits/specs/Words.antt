-- What stands at a place: whole bytes, the same in reverse order, a field of bits, or bytes each by itself.
use Rattle.std.specs.Prelude.{ℕ, zero, suc, ◌≡◌, ◌+◌, ◌-◌, ◌*◌, ◌^◌, ◌≤◌, Bool, true, false, List, [], ◌∷◌}
use Rattle.piece_bits.specs.Imports.{Piece, turned_place}
use Rattle.piece_bits.specs.declared.field.Field.{Field}
use Rattle.piece_bits.specs.declared.word.Word.{Word}
use Rattle.piece_bits.specs.declared.word.Word.TheVariants.{U8, U16, U32, I8, I16, I32, I64, TurnedU16, TurnedU32, TurnedU64, TurnedI16, TurnedI32, TurnedI64, Field as FieldWord, Scattered}

-- half of the range, where there is a sign
abbrev pub half_range : Bool → ℕ → ℕ
half_range true width = 2 ^ (width - 1)
half_range false width = 0

-- the ones and the half of the range of a field are those of its width and sign
pub record IsBitField (field : Field) : Type 0 where
  pub some : 1 ≤ field.width
  pub narrow : field.width ≤ 64
  pub ones : field.ones ≡ 2 ^ field.width - 1
  pub half : field.half ≡ half_range field.signed field.width

-- whether what stands there has a sign; of a field and of scattered bytes the field says it
abbrev pub word_signed : Word → Field → Bool
word_signed I8 field = true
word_signed I16 field = true
word_signed I32 field = true
word_signed I64 field = true
word_signed TurnedI16 field = true
word_signed TurnedI32 field = true
word_signed TurnedI64 field = true
word_signed FieldWord field = field.signed
word_signed Scattered field = field.signed
word_signed _ field = false

-- how many bits it has
abbrev pub word_width : Word → Field → ℕ
word_width U8 field = 8
word_width I8 field = 8
word_width U16 field = 16
word_width I16 field = 16
word_width TurnedU16 field = 16
word_width TurnedI16 field = 16
word_width U32 field = 32
word_width I32 field = 32
word_width TurnedU32 field = 32
word_width TurnedI32 field = 32
word_width FieldWord field = field.width
word_width Scattered field = field.width
word_width _ field = 64

-- the first of its bits, where it stands at a place: of a field that is a bit, and else a byte
abbrev pub word_bit : Word → ℕ → ℕ
word_bit FieldWord start = start
word_bit _ start = 8 * start

-- where bit k of it stands
abbrev pub word_place : Word → ℕ → ℕ → ℕ
word_place TurnedU16 start k = 8 * start + turned_place 16 k
word_place TurnedI16 start k = 8 * start + turned_place 16 k
word_place TurnedU32 start k = 8 * start + turned_place 32 k
word_place TurnedI32 start k = 8 * start + turned_place 32 k
word_place TurnedU64 start k = 8 * start + turned_place 64 k
word_place TurnedI64 start k = 8 * start + turned_place 64 k
word_place FieldWord start k = start + k
word_place _ start k = 8 * start + k

-- it stands at one place: a field has at most 57 bits, and scattered bytes do not
abbrev pub IsPlaceWord : Word → Field → Type 0
IsPlaceWord FieldWord field = IsBitField field × (field.width ≤ 57)
IsPlaceWord Scattered field = ⊥
IsPlaceWord _ field = Unit {0}

-- so many whole bytes from a bit on in reverse order: their pieces, least significant first
abbrev pub turned_pieces : ℕ → ℕ → ℕ → List Piece
turned_pieces blob bit zero = []
turned_pieces blob bit (suc n) = record { blob = blob; bit = bit + 8 * n; bits = 8 } ∷ turned_pieces blob bit n

-- the pieces of what stands at a place, which is a bit of a field and else a byte; scattered bytes have no place of their own
abbrev pub word_pieces : Word → Field → ℕ → ℕ → List Piece
word_pieces TurnedU16 field blob start = turned_pieces blob (8 * start) 2
word_pieces TurnedI16 field blob start = turned_pieces blob (8 * start) 2
word_pieces TurnedU32 field blob start = turned_pieces blob (8 * start) 4
word_pieces TurnedI32 field blob start = turned_pieces blob (8 * start) 4
word_pieces TurnedU64 field blob start = turned_pieces blob (8 * start) 8
word_pieces TurnedI64 field blob start = turned_pieces blob (8 * start) 8
word_pieces FieldWord field blob start = record { blob = blob; bit = start; bits = field.width } ∷ []
word_pieces Scattered field blob start = []
word_pieces word field blob start = record { blob = blob; bit = 8 * start; bits = word_width word field } ∷ []
