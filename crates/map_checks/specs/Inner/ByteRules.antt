-- How rules are made of others by bytes: the bytes of each in reverse order, or those of the bytes of each cell joined.
use Rattle.std.specs.Prelude.{ℕ, ◌≡◌, ◌+◌, ◌-◌, ◌%◌, ◌^◌, ◌<◌, ◌≤◌, All, List, length, take, drop, slice_index_or, sum_by}
use Rattle.map_checks.specs.Imports.{flat_map, Cell, byte_count, swapped_rules}
use Rattle.map_checks.specs.declared.rule.Rule.{Rule}
use Rattle.map_checks.specs.Ruled.{EachWith}

-- a rule whose pieces are at most 8 whole bytes
pub record HasWholeBytes (rule : Rule) : Type 0 where
  pub whole : All (λ piece. piece.bits % 8 ≡ 0) rule.pieces.items
  pub bounds : All (λ piece. piece.base + piece.bits < 2 ^ 64) rule.pieces.items
  pub few : sum_by (λ piece. piece.bits) rule.pieces.items ≤ 64

-- a rule whose pieces are those of another, with their bytes in reverse order
abbrev pub IsSwapped : Rule → Rule → Type 0
IsSwapped rule later = (later.order ≡ rule.order) × (later.pieces.items ≡ swapped_rules rule.pieces.items)

-- each of these rules is so made of the one with its number
pub record AreSwapped (rules later : List Rule) : Type 0 where
  pub each : length later ≡ length rules
  pub swap : EachWith (λ cell rule. IsSwapped (slice_index_or rules cell rule) rule) later

-- a rule that has one piece
abbrev pub HasOnePiece : Rule → Type 0
HasOnePiece rule = length rule.pieces.items ≡ 1

-- the rule that has the pieces of all these, in the order of the first
pub record IsJoined (bytes : List Rule) (rule : Rule) : Type 0 where
  pub order : (d : Rule) → rule.order ≡ (slice_index_or bytes 0 d).order
  pub pieces : rule.pieces.items ≡ flat_map (λ byte. byte.pieces.items) bytes

-- the rules of a cell's bytes, among those of the bytes of all cells
abbrev pub bytes_at : List Cell → List Rule → ℕ → List Rule
bytes_at cells bytes cell =
    take (byte_count (take (cell + 1) cells) - byte_count (take cell cells)) (drop (byte_count (take cell cells)) bytes)

-- each cell has the joined rule of its bytes
pub record AreJoined (cells : List Cell) (bytes rules : List Rule) : Type 0 where
  pub each : length rules ≡ length cells
  pub join : EachWith (λ cell rule. IsJoined (bytes_at cells bytes cell) rule) rules
