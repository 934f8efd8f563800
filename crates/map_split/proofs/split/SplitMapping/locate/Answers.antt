use Rattle.map_split.proofs.Imports.{ℕ, ◌<◌, Bool, List, length, map, slice_index, subst, arith, Owner, IsLocated, shifted, split, Hold, Piece, merged, rank_first, rank_rest, IsSeat, first_located, rest_located, First, Rest}
use Rattle.map_split.proofs.Rows.{width_first, width_rest}
use Rattle.map_split.proofs.split.SplitMapping.locate.Goals as goal

pub returns-in-First : goal.returns-in-First
returns-in-First g c =
    let m = c.args.self.now in
    let side : List Bool = m.side.items in
    let cell : ℕ = c.args.cell in
    let hs : List Hold = g.A.Mapping.hold_list m.first in
    let gs : List Hold = g.B.Mapping.hold_list m.rest in
    let first : List (List Owner) = g.A.Mapping.layout m.first in
    let pieces : List Piece = c.locate.result.items in
    let inside : cell < length side = omega (arith, c.requires.cell_in, m.each) in
    let seat = subst (λ (s : List Bool). IsSeat s cell (First c.in-First.number)) c.deref.ensures.value c.in-First.ensures in
    let there : IsLocated first c.args.slot (rank_first side cell) (slice_index (map (λ (h : Hold). h.width) hs) (rank_first side cell)) pieces =
    subst (λ (i : ℕ). IsLocated first c.args.slot i (slice_index (map (λ (h : Hold). h.width) hs) i) pieces) seat.1 c.locate.ensures in
    let w : ℕ = slice_index (map (λ (h : Hold). h.width) (merged side hs gs)) cell in
    first_located side first (g.B.Mapping.layout m.rest) c.args.slot cell w pieces inside seat.0
    (subst (λ (n : ℕ). IsLocated first c.args.slot (rank_first side cell) n pieces)
    (width_first side hs gs cell inside m.first_cells m.rest_cells seat.0) there)

pub returns-in-Rest : goal.returns-in-Rest
returns-in-Rest g c =
    let m = c.args.self.now in
    let side : List Bool = m.side.items in
    let cell : ℕ = c.args.cell in
    let hs : List Hold = g.A.Mapping.hold_list m.first in
    let gs : List Hold = g.B.Mapping.hold_list m.rest in
    let first : List (List Owner) = g.A.Mapping.layout m.first in
    let rest : List (List Owner) = g.B.Mapping.layout m.rest in
    let pieces : List Piece = c.locate-in-Rest.result.items in
    let inside : cell < length side = omega (arith, c.requires.cell_in, m.each) in
    let seat = subst (λ (s : List Bool). IsSeat s cell (Rest c.in-Rest.number)) c.deref.ensures.value c.in-Rest.ensures in
    let there : IsLocated rest c.args.slot (rank_rest side cell) (slice_index (map (λ (h : Hold). h.width) gs) (rank_rest side cell)) pieces =
    subst (λ (i : ℕ). IsLocated rest c.args.slot i (slice_index (map (λ (h : Hold). h.width) gs) i) pieces) seat.1 c.locate-in-Rest.ensures in
    let w : ℕ = slice_index (map (λ (h : Hold). h.width) (merged side hs gs)) cell in
    let moved : IsLocated (split side first rest) c.args.slot cell w (map (shifted (length first)) pieces) =
    rest_located side first rest c.args.slot cell w pieces inside seat.0
    (subst (λ (n : ℕ). IsLocated rest c.args.slot (rank_rest side cell) n pieces)
    (width_rest side hs gs cell inside m.first_cells m.rest_cells seat.0) there) in grind arith
