use Rattle.map_checks.proofs.Imports.{◌≡◌, ℕ, ◌/◌, List, map, slice_index, sym, ap, ◌∙◌, map-map, get_or-map, get_or_from_slice_get, slice_get_within, width_of, LeafType, widths_of, Cell}
use Rattle.map_checks.proofs.join_plan.bytes_of_cell.Goals as goal

pub returns : goal.returns
returns c =
    let cells : List Cell = c.args.cells.now in
    let kinds : List LeafType = map (λ (x : Cell). x.kind) cells in
    let kind : LeafType = c.kind_at.result in
    let width : slice_index (widths_of cells) c.args.cell ≡ c.width.result =
    sym (ap (λ (ws : List ℕ). slice_index ws c.args.cell) (map-map width_of (λ (x : Cell). x.kind) cells))
    ∙ get_or-map width_of kinds c.args.cell kind 0 (slice_get_within kinds c.args.cell kind c.kind_at.ensures)
    ∙ ap width_of (get_or_from_slice_get kinds c.args.cell kind kind c.kind_at.ensures)
    ∙ sym c.width.ensures in
    ap (λ (n : ℕ). n / 8) (sym width)
