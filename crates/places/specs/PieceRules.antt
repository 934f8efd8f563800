-- What rules of places say, and when they are the places of a cell.
use Rattle.std.specs.Prelude.{ℕ, ◌≡◌, ◌+◌, ◌*◌, ◌/◌, ◌%◌, ◌<◌, List, map}
use Rattle.places.specs.Layout.{Owner}
use Rattle.places.specs.Lawful.{IsLocated}
use Rattle.places.specs.declared.piece.Piece.{Piece}
use Rattle.places.specs.declared.rule.PieceRule.{PieceRule}

-- where the piece of a slot begins
abbrev pub begin_in : PieceRule → ℕ → ℕ
begin_in rule slot = rule.base + slot / rule.lanes * rule.block + slot % rule.lanes * rule.lane

-- the piece of a slot
abbrev pub piece_in : PieceRule → ℕ → Piece
piece_in rule slot = record { blob = rule.blob; bit = begin_in rule slot; bits = rule.bits }

-- the pieces of a slot, by as many rules
abbrev pub pieces_in : List PieceRule → ℕ → List Piece
pieces_in rules slot = map (λ rule. piece_in rule slot) rules

-- in every slot, the pieces are the places of all bits of a cell, least significant first
abbrev pub AreRulesOf : List (List Owner) → ℕ → ℕ → ℕ → List PieceRule → Type 0
AreRulesOf layout slots cell width rules = (slot : ℕ) → slot < slots → IsLocated layout slot cell width (pieces_in rules slot)

-- inside of each block of so many slots the pieces of a cell lie one behind another, each from a byte on; in blocks of no slot nothing is said
pub record IsDense (lanes : ℕ) (rule : PieceRule) : Type 0 where
  pub next : (slot j : ℕ) → slot % lanes + j < lanes → begin_in rule (slot + j) ≡ begin_in rule slot + j * rule.bits
  pub bytes : (slot : ℕ) → slot % lanes < lanes → begin_in rule slot % 8 ≡ 0
