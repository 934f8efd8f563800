-- The width of each cell of a bit mapping, where some leaves have widths of their own.
use Rattle.std.specs.Prelude.{ℕ, ◌≡◌, Bool, true, false, not, List, ◌∷◌, ◌++◌, map, if◌then◌else◌}
use Rattle.map_checks.specs.Imports.{list_any, fold, Fields, is_under, Cell, FieldWidth}

-- an entry says the width of a leaf that is under its path
abbrev pub width_by : Fields → ℕ → ℕ → FieldWidth → ℕ
width_by fields leaf width entry = if is_under fields entry.path leaf then entry.width else width

-- the width of a leaf: what the last entry says whose path it is under, and the first number where it is under none
abbrev pub width_at : Fields → ℕ → List FieldWidth → ℕ → ℕ
width_at fields width entries leaf = fold (width_by fields leaf) width entries

abbrev pub cell_widths : Fields → ℕ → List FieldWidth → List Cell → List ℕ
cell_widths fields width entries cells = map (λ cell. width_at fields width entries cell.leaf) cells

-- some cell is under the path of an entry
abbrev pub has_cell : Fields → List Cell → FieldWidth → Bool
has_cell fields cells entry = list_any (λ cell. is_under fields entry.path cell.leaf) cells

-- some entry has none of the cells under its path
abbrev pub has_empty : Fields → List Cell → List FieldWidth → Bool
has_empty fields cells entries = list_any (λ entry. not (has_cell fields cells entry)) entries

-- some entry is one whose path the leaf is under
abbrev pub is_said : Fields → ℕ → List FieldWidth → Bool
is_said fields leaf entries = list_any (λ (entry : FieldWidth). is_under fields entry.path leaf) entries

-- of several such entries the last one counts, and with none the first number
pub record LastCounts (fields : Fields) (width leaf : ℕ) : Type 0 where
  pub last : (before behind : List FieldWidth) (entry : FieldWidth) → is_under fields entry.path leaf ≡ true → is_said fields leaf behind ≡ false
      → width_at fields width (before ++ entry ∷ behind) leaf ≡ entry.width
  pub none : (entries : List FieldWidth) → is_said fields leaf entries ≡ false → width_at fields width entries leaf ≡ width
