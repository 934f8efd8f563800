-- A short form of a rule says where a cell lies.
use Rattle.std.specs.Prelude.{ℕ, ◌^◌, ◌<◌, ◌≤◌, List, length}
use Rattle.piece_bits.specs.Imports.{sym, subst, arith, rules, Order, indices, slot_at, slot_count, slot_at_below, line_narrow, column_narrow, Owner, IsLocated, pieces_in, Hold, PieceRule}
use Rattle.piece_bits.specs.Shorts.{slot_in, start_in, short_pieces, IsShortOf, IsShortIn}
use Rattle.piece_bits.specs.declared.short.ShortRule.{ShortRule}

pub short_in : (layout : List (List Owner)) (order : Order) (extents : List ℕ) (cell width : ℕ) (hold : Hold) (rules : List PieceRule) (short : ShortRule)
    → slot_count order extents ≤ 2 ^ 24
    → ((row : ℕ) → row < length (indices extents) → IsLocated layout row cell width (pieces_in rules (slot_at order extents row)))
    → IsShortOf order extents rules hold short → IsShortIn layout (length (indices extents)) cell width hold rules short
short_in layout order extents cell width hold rules short few placed h =
    let there : (row : ℕ) → row < length (indices extents) → IsLocated layout row cell width (short_pieces short rules row) × (start_in short row < 2 ^ 64) = λ row inside.
    let here : IsLocated layout row cell width (pieces_in rules (slot_in short row)) =
    subst (λ (s : ℕ). IsLocated layout row cell width (pieces_in rules s)) (sym (h.path.slots row inside)) (placed row inside) in
    h.stands layout row cell width (slot_in short row) here in
    let lines : ℕ = short.lines in
    let columns : ℕ = short.columns.columns in grind (arith, slot_at_below, line_narrow, column_narrow)
