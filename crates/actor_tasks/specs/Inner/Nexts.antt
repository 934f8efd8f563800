-- The first byte from a place on that meets a test.
use Rattle.std.specs.Prelude.{◌≡◌, ◌+◌, ◌*◌, ◌<◌, ◌⊎◌, List, [], ◌∷◌, Option, Some, None}
use Rattle.actor_tasks.specs.Imports.{Piece, Place}
use Rattle.actor_tasks.specs.Places.{ComesFrom}

-- a byte holds a bit of a piece
pub record Touches (piece : Piece) (place : Place) : Type 0 where
  pub blob : piece.blob ≡ place.blob
  pub low : 8 * place.byte < piece.bit + piece.bits
  pub high : piece.bit < 8 * place.byte + 8
  pub some : 0 < piece.bits

-- it holds one of any of these pieces
abbrev pub AnyTouches : List Piece → Place → Type 0
AnyTouches [] place = ⊥
AnyTouches (piece ∷ pieces) place = Touches piece place ⊎ AnyTouches pieces place

-- a byte that meets a test, from a place on, and no such byte stands before it
pub record IsFound (P : Place → Type 0) (from place : Place) : Type 0 where
  pub meets : P place
  pub behind : ComesFrom from place
  pub first : (other : Place) → P other → ComesFrom from other → ComesFrom place other

-- the first byte from a place on that meets a test, where there is one
abbrev pub IsNext : (Place → Type 0) → Place → Option Place → Type 0
IsNext P from None = (other : Place) → P other → ComesFrom from other → ⊥
IsNext P from (Some place) = IsFound P from place

-- the earlier of two bytes, where there are two
abbrev pub IsEarlier : Option Place → Option Place → Option Place → Type 0
IsEarlier None two result = result ≡ two
IsEarlier (Some one) None result = result ≡ Some one
IsEarlier (Some one) (Some two) result = ((result ≡ Some one) × ComesFrom one two) ⊎ ((result ≡ Some two) × ComesFrom two one)
