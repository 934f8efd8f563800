-- What rules say of the cells of a layout by rows.
use Rattle.std.specs.Prelude.{ℕ, ◌≡◌, ◌+◌, ◌*◌, ◌%◌, ◌^◌, ◌<◌, ◌≤◌, All, List, length, map, slice_index, slice_index_or, sum_by}
use Rattle.map_checks.specs.Imports.{indices, slot_at, slot_count, Owner, IsLocated, pieces_in, Piece}
use Rattle.map_checks.specs.declared.rule.Rule.{Rule}

-- each item of a list, with its number
abbrev pub EachWith : {X : Type 0} → (ℕ → X → Type 0) → List X → Type 0
EachWith {X} P xs = (k : ℕ) (d : X) → k < length xs → P k (slice_index_or xs k d)

-- the pieces that a rule gives in a row
abbrev pub pieces_of : Rule → List ℕ → ℕ → List Piece
pieces_of rule extents row = pieces_in rule.pieces.items (slot_at rule.order extents row)

-- in every row, these are the places of all bits of a cell, least significant first; all but the places hold where there is no row, too
pub record IsRuleOf (layout : List (List Owner)) (extents : List ℕ) (cell width : ℕ) (rule : Rule) : Type 0 where
  pub few : slot_count rule.order extents ≤ 2 ^ 24
  pub blobs : All (λ piece. piece.blob < length layout) rule.pieces.items
  pub bits : sum_by (λ piece. piece.bits) rule.pieces.items ≡ width
  pub bounds : All (λ piece. piece.base + piece.bits < 2 ^ 64) rule.pieces.items
  pub some : All (λ piece. 0 < piece.bits) rule.pieces.items
  pub whole : width % 8 ≡ 0 → All (λ piece. piece.bits % 8 ≡ 0) rule.pieces.items
  pub places : (row : ℕ) → row < length (indices extents) → IsLocated layout row cell width (pieces_of rule extents row)

-- there is a rule for each cell
pub record IsRuled (layout : List (List Owner)) (extents : List ℕ) (widths : List ℕ) (rules : List Rule) : Type 0 where
  pub each : length rules ≡ length widths
  pub places : EachWith (λ cell rule. IsRuleOf layout extents cell (slice_index widths cell) rule) rules

-- blobs have so many bytes
abbrev pub HasLengths : List (List Owner) → List ℕ → Type 0
HasLengths layout lengths = map (λ bytes. 8 * bytes) lengths ≡ map length layout

-- a rule says what another says
pub record IsSameRule (old new : Rule) : Type 0 where
  pub order : new.order ≡ old.order
  pub pieces : new.pieces.items ≡ old.pieces.items
