-- The laws of a layout by rows, for any order: its bits and places are those of the layout by slots.
use Rattle.std.specs.Prelude.{◌≡◌, ℕ, ◌%◌, ◌<◌, List, [], ◌∷◌, map, length, sum_by, get_or, All, refl, Option, Some}
use Rattle.map_checks.specs.Imports.{ap, ◌∙◌, arith, get_or-map, length-map, sum_by-cons, All-map, indices, Order, slot_at, slot_count, row_at, row_at-slot_at, slot_at-row_at, slot_at_below, Owner, Bit, renamed, in_rows, bit_in_row, IsBitOf, IsLaidOut, IsLocated, Back, relabel_lays_out, laid_out, lays_out, relabel_located, Piece}

-- the name that a bit of a slot has by rows
abbrev by_row : Order → List ℕ → ℕ → ℕ → ℕ → Owner
by_row order extents slot cell bit = bit_in_row (row_at order extents slot) cell bit

-- a bit in a row comes from a slot that has the row
record IsInRow (row : Option ℕ) (c k r c' k' : ℕ) : Type 0 where
  pub row_is : row ≡ Some r
  pub cell_is : c ≡ c'
  pub bit_is : k ≡ k'

in_row : (row : Option ℕ) (c k r c' k' : ℕ) → bit_in_row row c k ≡ Bit r c' k' → IsInRow row c k r c' k'
in_row row c k r c' k' e = grind arith

-- where the bit of a row came from
back_in_slots : (order : Order) (extents widths : List ℕ)
    → Back (IsBitOf (slot_count order extents) widths) (IsBitOf (length (indices extents)) widths) (by_row order extents)
    (λ r c k. slot_at order extents r) (λ r c k. c) (λ r c k. k)
back_in_slots order extents widths = record {
  from = λ r c k h. record { slot_in = slot_at_below order extents r h.slot_in; cell_in = h.cell_in; bit_in = h.bit_in };
  to = λ r c k h. ap (λ (row : Option ℕ). bit_in_row row c k) (row_at-slot_at order extents r h.slot_in);
  out = λ s c k r c' k' h e.
      let from = in_row (row_at order extents s) c k r c' k' e in
      let at = slot_at-row_at order extents s r from.row_is in
      let cell_in : c < length widths = h.cell_in in grind arith;
  back = λ s c k r c' k' h e. grind (arith, slot_at-row_at);
}

-- blobs keep their lengths
pub length-in_rows : (row : ℕ → Option ℕ) (layout : List (List Owner)) → length (in_rows row layout) ≡ length layout
length-in_rows row layout = length-map layout (map (renamed (λ slot cell bit. bit_in_row (row slot) cell bit)))

pub length-blob : (row : ℕ → Option ℕ) (layout : List (List Owner)) (blob : ℕ) → blob < length layout
    → length (get_or (in_rows row layout) blob []) ≡ length (get_or layout blob [])
length-blob row layout blob inside = grind (arith, get_or-map, length-map)

pub sum-blobs : (row : ℕ → Option ℕ) (layout : List (List Owner)) → sum_by length (in_rows row layout) ≡ sum_by length layout
sum-blobs row [] = refl
sum-blobs row (blob ∷ blobs) =
    let name : Owner → Owner = renamed (λ slot cell bit. bit_in_row (row slot) cell bit) in
    let here : length (map name blob) ≡ length blob = length-map blob name in
    let rest : sum_by length (in_rows row blobs) ≡ sum_by length blobs = sum-blobs row blobs in
    omega (arith, sum_by-cons (length {A = Owner}) (map name blob) (in_rows row blobs), sum_by-cons (length {A = Owner}) blob blobs)

-- every bit of every row has exactly one place
pub rows_laid : (order : Order) (extents widths : List ℕ) (layout : List (List Owner))
    → IsLaidOut layout (slot_count order extents) widths → IsLaidOut (in_rows (row_at order extents) layout) (length (indices extents)) widths
rows_laid order extents widths layout laid =
    let name : Owner → Owner = renamed (by_row order extents) in
    let bytes : All (λ (blob : List Owner). length (map name blob) % 8 ≡ 0) layout =
    λ k d inside. ap (λ (n : ℕ). n % 8) (length-map (get_or layout k d) name) ∙ laid.whole_bytes k d inside in
    laid_out
    (relabel_lays_out (by_row order extents) (λ r c k. slot_at order extents r) (λ r c k. c) (λ r c k. k) layout
    (back_in_slots order extents widths) (lays_out laid))
    (All-map (λ (blob : List Owner). length blob % 8 ≡ 0) (map name) layout bytes)
    laid.narrow laid.wide

-- the places of a cell in a row are those in its slot
pub row_located : (order : Order) (extents : List ℕ) (layout : List (List Owner)) (row cell width : ℕ) (pieces : List Piece)
    → row < length (indices extents) → IsLocated layout (slot_at order extents row) cell width pieces
    → IsLocated (in_rows (row_at order extents) layout) row cell width pieces
row_located order extents layout row cell width pieces inside h =
    relabel_located (by_row order extents) layout (slot_at order extents row) cell row cell width pieces
    (λ k l. ap (λ (r : Option ℕ). bit_in_row r cell k) (row_at-slot_at order extents row inside))
    h

pub lengths-rows : (row : ℕ → Option ℕ) (layout : List (List Owner)) → map length (in_rows row layout) ≡ map length layout
lengths-rows row [] = refl
lengths-rows row (blob ∷ blobs) = grind (arith, length-map, (lengths-rows row blobs))
