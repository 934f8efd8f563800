-- What stands at the places of rules, as it is recognised.
use Rattle.std.specs.Prelude.{ℕ, ◌≡◌, ◌+◌, ◌-◌, ◌*◌, ◌/◌, ◌%◌, ◌^◌, ◌<◌, Bool, true, false, List, length, slice_index_or}
use Rattle.piece_bits.specs.Imports.{Hold, PieceRule}
use Rattle.piece_bits.specs.declared.field.Field.{Field}
use Rattle.piece_bits.specs.declared.word.Word.{Word}
use Rattle.piece_bits.specs.declared.word.Word.TheVariants as stored
use Rattle.piece_bits.specs.Shorts.{StandsFor, IsHeldBy}
use Rattle.piece_bits.specs.declared.stand.Stand.{Stand}

-- a word is whole bytes of this sign and width
abbrev pub IsWhole : Word → Bool → ℕ → Type 0
IsWhole stored.U8 signed width = (signed ≡ false) × (width ≡ 8)
IsWhole stored.U16 signed width = (signed ≡ false) × (width ≡ 16)
IsWhole stored.U32 signed width = (signed ≡ false) × (width ≡ 32)
IsWhole stored.U64 signed width = (signed ≡ false) × (width ≡ 64)
IsWhole stored.I8 signed width = (signed ≡ true) × (width ≡ 8)
IsWhole stored.I16 signed width = (signed ≡ true) × (width ≡ 16)
IsWhole stored.I32 signed width = (signed ≡ true) × (width ≡ 32)
IsWhole stored.I64 signed width = (signed ≡ true) × (width ≡ 64)
IsWhole _ signed width = ⊥

-- a word is bytes of this sign and width in reverse order
abbrev pub IsTurned : Word → Bool → ℕ → Type 0
IsTurned stored.TurnedU16 signed width = (signed ≡ false) × (width ≡ 16)
IsTurned stored.TurnedU32 signed width = (signed ≡ false) × (width ≡ 32)
IsTurned stored.TurnedU64 signed width = (signed ≡ false) × (width ≡ 64)
IsTurned stored.TurnedI16 signed width = (signed ≡ true) × (width ≡ 16)
IsTurned stored.TurnedI32 signed width = (signed ≡ true) × (width ≡ 32)
IsTurned stored.TurnedI64 signed width = (signed ≡ true) × (width ≡ 64)
IsTurned _ signed width = ⊥

-- a rule is of single bytes, and goes from slot to slot as another
pub record IsByteAlong (other piece : PieceRule) : Type 0 where
  pub bits : piece.bits ≡ 8
  pub lanes : piece.lanes ≡ other.lanes
  pub block : piece.block ≡ other.block
  pub lane : piece.lane ≡ other.lane

-- each is a byte further to the front than the one before, down to the last
pub record IsTurnedByte (last : PieceRule) (below : ℕ) (piece : PieceRule) : Type 0 where
  pub blob : piece.blob ≡ last.blob
  pub along : IsByteAlong last piece
  pub base : piece.base ≡ last.base + 8 * below

abbrev pub AreTurned : List PieceRule → PieceRule → Type 0
AreTurned pieces last = (k : ℕ) (d : PieceRule) → k < length pieces → IsTurnedByte last (length pieces - 1 - k) (slice_index_or pieces k d)

-- each is a whole byte by itself, and all go from slot to slot alike
pub record IsScatteredByte (first piece : PieceRule) : Type 0 where
  pub along : IsByteAlong first piece
  pub whole : piece.base % 8 ≡ 0

abbrev pub AreScattered : List PieceRule → PieceRule → Type 0
AreScattered pieces first = (k : ℕ) (d : PieceRule) → k < length pieces → IsScatteredByte first (slice_index_or pieces k d)

-- the steps of a rule in blocks of a power of two, in bits
abbrev pub IsStepped : PieceRule → ℕ → ℕ → ℕ → Type 0
IsStepped piece block lane power = (slot : ℕ) → slot / piece.lanes * piece.block + slot % piece.lanes * piece.lane ≡ 8 * (slot / 2 ^ power * block + slot % 2 ^ power * lane)

-- a word stands where a rule of whole bytes says
pub record IsInBytes (piece : PieceRule) (wanted : Word) (stand : Stand) : Type 0 where
  pub word : stand.word ≡ wanted
  pub blob : stand.blob ≡ piece.blob
  pub base : piece.base ≡ 8 * stand.base
  pub steps : IsStepped piece stand.block stand.lane stand.power
  pub low : stand.power < 64

-- a field stands where a rule says
pub record IsInBits (piece : PieceRule) (stand : Stand) : Type 0 where
  pub word : stand.word ≡ stored.Field
  pub blob : stand.blob ≡ piece.blob
  pub base : stand.base ≡ piece.base
  pub block : stand.block ≡ piece.block
  pub lane : stand.lane ≡ piece.lane
  pub lanes : piece.lanes ≡ 2 ^ stand.power
  pub low : stand.power < 64

-- what stands at the places of rules of a cell that is stored so, by a field of its sign and width
pub record IsStandOf (rules : List PieceRule) (hold : Hold) (field : Field) (stand : Stand) : Type 0 where
  pub held : IsHeldBy hold stand.word field
  pub stands : StandsFor rules stand.word field stand.blob stand.base stand.block stand.lane stand.power
  pub low : stand.power < 64

abbrev pub IsStandFor : List PieceRule → Hold → Stand → Type 0
IsStandFor rules hold stand = (field : Field) → field.signed ≡ hold.signed → field.width ≡ hold.width → IsStandOf rules hold field stand
