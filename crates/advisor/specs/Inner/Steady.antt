-- Slots of a rule whose pieces follow each other closely, and the granules that they touch.
use Rattle.std.specs.Prelude.{ℕ, ◌+◌, ◌-◌, ◌*◌, ◌<◌, ◌≤◌, ◌&&◌, Bool, List}
use Rattle.advisor.specs.Imports.{list_any, range_with_len, Order, is_in_granule, begin_in, piece_in, Piece, PieceRule}
use Rattle.advisor.specs.Inner.Curve.{has_row}

-- of so many slots from this one on each begins at most so many bits behind the one before it, and none before it
pub record IsSteady (wide : ℕ) (rule : PieceRule) (start count : ℕ) : Type 0 where
  pub on : (slot : ℕ) → slot + 1 < count → begin_in rule (start + slot) ≤ begin_in rule (start + (slot + 1))
  pub near : (slot : ℕ) → slot + 1 < count → begin_in rule (start + (slot + 1)) ≤ begin_in rule (start + slot) + wide

-- so is each slot behind the one before it, in its block and from a block to the next
pub record HasSteps (wide : ℕ) (rule : PieceRule) : Type 0 where
  pub lane : rule.lane ≤ wide
  pub on : (rule.lanes - 1) * rule.lane ≤ rule.block
  pub near : rule.block ≤ (rule.lanes - 1) * rule.lane + wide

-- whether a granule of a blob holds a bit of a rule's piece in one of so many slots from this one on
abbrev pub is_run_touched : ℕ → PieceRule → ℕ → ℕ → ℕ → ℕ → Bool
is_run_touched granule rule start count blob at = list_any (λ slot. is_in_granule granule blob at (piece_in rule slot)) (range_with_len start count)

-- or one of the pieces of some rules in one of these slots
abbrev pub are_slots_touched : ℕ → List PieceRule → ℕ → ℕ → ℕ → ℕ → Bool
are_slots_touched granule rules start count blob at = list_any (λ rule. is_run_touched granule rule start count blob at) rules

-- or one of them in those of these slots that rows have
abbrev pub are_rows_touched : ℕ → Order → List ℕ → List PieceRule → ℕ → ℕ → ℕ → ℕ → Bool
are_rows_touched granule order extents rules start count blob at =
    list_any (λ slot. has_row order extents slot && list_any (λ rule. is_in_granule granule blob at (piece_in rule slot)) rules) (range_with_len start count)

-- from the first bit of the first of so many slots to the last bit of the last
abbrev pub long_piece : PieceRule → ℕ → ℕ → Piece
long_piece rule start count =
    record { blob = rule.blob; bit = begin_in rule start; bits = begin_in rule (start + (count - 1)) + rule.bits - begin_in rule start }
