-- The laws of the layout of an expression.
use Rattle.std.specs.Prelude.{◌≡◌, ℕ, ◌<◌, ◌≤◌, List, [], ◌∷◌, map, length, All, Bool, true, false, Option, None, Some, refl, ◌&&◌, not, nat_le, if◌then◌else◌}
use Rattle.map_checks.specs.Imports.{sym, ◌∙◌, arith, list_all, option_or, and_parts, leb-true, or_from, or_parts, length-map, length-filter, count_by, indices, slot_count, PathStep, Fields, is_under, aosoa, bit_aos, bit_soa, IsLaidOut, length-full, widths_of, widths_in, full_holds, aos_layout, soa_layout, Cell, Hold, aos_laws, soa_laws, aosoa_laws, BadMapping, Width, Term, Aos, Soa, Aosoa, BitAos, BitSoa, Split, Byteswap, Bytesplit, Change, Count, Heat, Named, bad_number, bad_lanes, bad_widths, bad_granule, is_width, FieldWidth, has_bad_width, length-narrow, narrow_wide, narrow_low, bit_aos_laws, bit_soa_laws, byte_cells_of, changed, differ, differ_none, byteswap_laws, bytesplit_laws, length-changed, length-merged, count-mapped, split_laws}
use Rattle.map_checks.specs.Sides.{side_of, cells_under, cells_beside}
use Rattle.map_checks.specs.Widths.{cell_widths, width_at, width_by}
use Rattle.map_checks.specs.Mappings.{layout_of, holds_of, held_within, not_full, IsBuiltTerm, HasNumbers}
use Rattle.map_checks.specs.RowsLaws.{rows_laid}

-- as many cells on each side as its truths say
module _ (fields : Fields) (path : List PathStep) (cells : List Cell) where
  pub cells_first : length (cells_under fields path cells) ≡ count_by (λ (s : Bool). s) (side_of fields path cells)
  cells_first = grind (arith, length-filter, count-mapped)

  pub cells_rest : length (cells_beside fields path cells) ≡ count_by not (side_of fields path cells)
  cells_rest = grind (arith, length-filter, count-mapped)

  pub length-side : length (side_of fields path cells) ≡ length cells
  length-side = length-map cells (λ (cell : Cell). is_under fields path cell.leaf)

-- a width for each cell
pub length-cell_widths : (fields : Fields) (width : ℕ) (entries : List FieldWidth) (cells : List Cell) → length (cell_widths fields width entries cells) ≡ length cells
length-cell_widths fields width entries cells = length-map cells (λ (cell : Cell). width_at fields width entries cell.leaf)

length-within : (fields : Fields) (width : ℕ) (entries : List FieldWidth) (cells : List Cell) → length (held_within fields width entries cells) ≡ length cells
length-within fields width entries cells = length-narrow (cell_widths fields width entries cells) cells (length-cell_widths fields width entries cells)

-- each cell is stored
pub length-holds : (term : Term) (fields : Fields) (cells : List Cell) → length (holds_of term fields cells) ≡ length cells
length-holds (Split path first rest) fields cells =
    grind (arith, length-merged, cells_first, cells_rest, length-side, (length-holds first fields (cells_under fields path cells)), (length-holds rest fields (cells_beside fields path cells)))
length-holds (Count inner) fields cells = length-holds inner fields cells
length-holds (BitAos width entries order) fields cells = length-within fields width entries cells
length-holds (BitSoa width entries order) fields cells = length-within fields width entries cells
length-holds (Change from to inner) fields cells = length-holds inner fields (changed from to cells) ∙ length-changed from to cells
length-holds (Heat granule inner) fields cells = length-holds inner fields cells
length-holds other fields cells = length-full cells

-- a number in its range is at least 1
at_least : (bad : BadMapping) (low high : Bool) → (if low && high then None else Some bad) ≡ None → low ≡ true
at_least bad low high e = grind arith

some_lanes : (lanes : ℕ) → bad_lanes lanes ≡ None → 0 < lanes
some_lanes lanes e = grind (arith, leb-true, at_least, nat_le)

good_of : (good : Bool) → (if good then None else Some Width) ≡ None → good ≡ true
good_of good e = grind arith

-- each entry has a width
abbrev AreWidths : List FieldWidth → Type 0
AreWidths entries = list_all (λ (entry : FieldWidth). is_width entry.width) entries ≡ true

one_good : (under : Bool) (one other : ℕ) → is_width one ≡ true → is_width other ≡ true → is_width (if under then one else other) ≡ true
one_good under one other good also = grind arith

-- where the first number and all entries are widths, so is what each leaf gets
width_good : (fields : Fields) (leaf width : ℕ) (entries : List FieldWidth) → is_width width ≡ true → AreWidths entries → is_width (width_at fields width entries leaf) ≡ true
width_good fields leaf width [] good all = good
width_good fields leaf width (entry ∷ entries) good all =
    let parts = and_parts (is_width entry.width) (list_all (λ (e : FieldWidth). is_width e.width) entries) all in
    width_good fields leaf (width_by fields leaf width entry) entries (one_good (is_under fields entry.path leaf) entry.width width parts.0 good) parts.1

cells_good : (fields : Fields) (width : ℕ) (entries : List FieldWidth) (cells : List Cell) → is_width width ≡ true → AreWidths entries
    → has_bad_width (cell_widths fields width entries cells) ≡ false
cells_good fields width entries [] good all = refl
cells_good fields width entries (cell ∷ cells) good all = grind (arith, or_from, width_good, (cells_good fields width entries cells good all))

-- widths that are accepted are good ones
pub good_widths : (fields : Fields) (width : ℕ) (entries : List FieldWidth) (cells : List Cell) → bad_widths width entries ≡ None
    → has_bad_width (cell_widths fields width entries cells) ≡ false
good_widths fields width entries cells e = grind (arith, list_all, and_parts, good_of, cells_good)

within_wide : (fields : Fields) (width : ℕ) (entries : List FieldWidth) (cells : List Cell) → bad_widths width entries ≡ None
    → All (λ w. 1 ≤ w) (widths_in (held_within fields width entries cells))
within_wide fields width entries cells e = narrow_wide (cell_widths fields width entries cells) cells (good_widths fields width entries cells e)

within_low : (fields : Fields) (width : ℕ) (entries : List FieldWidth) (cells : List Cell) → All (λ w. w ≤ 64) (widths_in (held_within fields width entries cells))
within_low fields width entries cells = narrow_low (cell_widths fields width entries cells) cells

-- holds that differ from those of the types nowhere
held_whole : (term : Term) (fields : Fields) (cells : List Cell) → differ (holds_of term fields cells) (full_holds cells) ≡ false
    → holds_of term fields cells ≡ full_holds cells
held_whole term fields cells e = differ_none (holds_of term fields cells) (full_holds cells) (length-holds term fields cells ∙ sym (length-full cells)) e

-- every bit of every row has exactly one place
pub term_laws : (term : Term) (extents : List ℕ) (fields : Fields) (cells : List Cell) → IsBuiltTerm term → HasNumbers term → not_full term fields cells ≡ false
    → IsLaidOut (layout_of term extents fields cells) (length (indices extents)) (map (λ (h : Hold). h.width) (holds_of term fields cells))
term_laws (Aos form order) extents fields cells built numbers full =
    rows_laid order extents (map (λ (h : Hold). h.width) (full_holds cells)) (aos_layout form (slot_count order extents) (widths_of cells))
    (aos_laws form (slot_count order extents) cells)
term_laws (Soa form order) extents fields cells built numbers full =
    rows_laid order extents (map (λ (h : Hold). h.width) (full_holds cells)) (soa_layout form (slot_count order extents) (widths_of cells))
    (soa_laws form (slot_count order extents) cells)
term_laws (Aosoa lanes order) extents fields cells built numbers full =
    rows_laid order extents (map (λ (h : Hold). h.width) (full_holds cells)) (aosoa lanes (slot_count order extents) (widths_of cells))
    (aosoa_laws lanes (slot_count order extents) cells (some_lanes lanes numbers))
term_laws (BitAos width entries order) extents fields cells built numbers full =
    let widths : List ℕ = widths_in (held_within fields width entries cells) in
    rows_laid order extents widths (bit_aos (slot_count order extents) widths)
    (bit_aos_laws (slot_count order extents) widths (within_low fields width entries cells) (within_wide fields width entries cells numbers))
term_laws (BitSoa width entries order) extents fields cells built numbers full =
    let widths : List ℕ = widths_in (held_within fields width entries cells) in
    rows_laid order extents widths (bit_soa (slot_count order extents) widths)
    (bit_soa_laws (slot_count order extents) widths (within_low fields width entries cells) (within_wide fields width entries cells numbers))
term_laws (Split path first rest) extents fields cells built numbers full =
    let side : List Bool = side_of fields path cells in
    let under : List Cell = cells_under fields path cells in
    let beside : List Cell = cells_beside fields path cells in
    let both = or_parts (not_full first fields under) (not_full rest fields beside) full in
    split_laws side (layout_of first extents fields under) (layout_of rest extents fields beside) (length (indices extents)) (length (indices extents))
    (holds_of first fields under) (holds_of rest fields beside) (term_laws first extents fields under built.0 numbers.0 both.0)
    (term_laws rest extents fields beside built.1 numbers.1 both.1) refl (length-holds first fields under ∙ cells_first fields path cells)
    (length-holds rest fields beside ∙ cells_rest fields path cells)
term_laws (Byteswap inner) extents fields cells built numbers full =
    let both = or_parts (differ (holds_of inner fields cells) (full_holds cells)) (not_full inner fields cells) full in
    byteswap_laws (layout_of inner extents fields cells) (length (indices extents)) cells (holds_of inner fields cells) (held_whole inner fields cells both.0)
    (term_laws inner extents fields cells built numbers both.1)
term_laws (Bytesplit inner) extents fields cells built numbers full =
    let bytes : List Cell = byte_cells_of cells in
    let both = or_parts (differ (holds_of inner fields bytes) (full_holds bytes)) (not_full inner fields bytes) full in
    bytesplit_laws (layout_of inner extents fields bytes) (length (indices extents)) cells (holds_of inner fields bytes) (held_whole inner fields bytes both.0)
    (term_laws inner extents fields bytes built numbers both.1)
term_laws (Change from to inner) extents fields cells built numbers full = term_laws inner extents fields (changed from to cells) built numbers full
term_laws (Count inner) extents fields cells built numbers full = term_laws inner extents fields cells built numbers full
term_laws (Heat granule inner) extents fields cells built numbers full = term_laws inner extents fields cells built numbers.1 full
term_laws (Named name) extents fields cells built numbers full = absurd built

-- where no number is out of its range, every number is in its range
first_none : (one two : Option BadMapping) → option_or one two ≡ None → one ≡ None
first_none one two e = grind arith

then_none : (one two : Option BadMapping) → option_or one two ≡ None → two ≡ None
then_none one two e = grind arith

pub good_numbers : (term : Term) → bad_number term ≡ None → HasNumbers term
good_numbers (Aosoa lanes order) e = e
good_numbers (BitAos width entries order) e = e
good_numbers (BitSoa width entries order) e = e
good_numbers (Split path first rest) e =
    (good_numbers first (first_none (bad_number first) (bad_number rest) e), good_numbers rest (then_none (bad_number first) (bad_number rest) e))
good_numbers (Byteswap inner) e = good_numbers inner e
good_numbers (Bytesplit inner) e = good_numbers inner e
good_numbers (Change from to inner) e = good_numbers inner e
good_numbers (Count inner) e = good_numbers inner e
good_numbers (Heat granule inner) e = grind (arith, first_none, then_none, (good_numbers inner (then_none (bad_granule granule) (bad_number inner) e)))
good_numbers other e = tt
