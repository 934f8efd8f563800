-- The cells of leaves, and what the types of cells say of their widths and holds.
use Rattle.std.specs.Prelude.{◌≡◌, ℕ, ◌+◌, ◌<◌, List, [], ◌∷◌, ◌++◌, length, get_or, take, map, Some, refl, slice_get}
use Rattle.map_checks.specs.Imports.{sym, ap, ◌∙◌, arith, enumerate_from, take_more, length-take-le, map_push, map-map, get_or_from_slice_get, LeafType, Truth, width_of, widths_of, full_holds, hold_of, Cell}
use Rattle.map_checks.specs.Mappings.{leaf_cells}

enumerate_push : (n : ℕ) (kinds : List LeafType) (kind : LeafType) → enumerate_from n (kinds ++ kind ∷ []) ≡ enumerate_from n kinds ++ (n + length kinds, kind) ∷ []
enumerate_push n [] kind = ap (λ (w : ℕ). (w, kind) ∷ []) (let e : n ≡ n + 0 = omega arith in e)
enumerate_push n (k ∷ kinds) kind =
    let e : n + 1 + length kinds ≡ n + length (k ∷ kinds) = omega arith in
    ap (λ (w : List (ℕ × LeafType)). (n, k) ∷ w) (enumerate_push (n + 1) kinds kind ∙ ap (λ (w : ℕ). enumerate_from (n + 1) kinds ++ (w, kind) ∷ []) e)

-- one more cell
pub leaf_cells_more : (kinds : List LeafType) (leaf : ℕ) (kind : LeafType) → leaf < length kinds → slice_get kinds leaf ≡ Some kind →
    leaf_cells (take (leaf + 1) kinds) ≡ leaf_cells (take leaf kinds) ++ record { leaf = leaf; kind = kind } ∷ []
leaf_cells_more kinds leaf kind inside is =
    let cell : ℕ × LeafType → Cell = λ e. record { leaf = e.0; kind = e.1 } in
    let here : get_or kinds leaf Truth ≡ kind = get_or_from_slice_get kinds leaf kind Truth is in
    let long : 0 + length (take leaf kinds) ≡ leaf = omega (arith, length-take-le leaf kinds (omega arith)) in
    ap leaf_cells (take_more kinds leaf Truth inside ∙ ap (λ (k : LeafType). take leaf kinds ++ k ∷ []) here)
    ∙ ap (map cell) (enumerate_push 0 (take leaf kinds) kind)
    ∙ map_push cell (enumerate_from 0 (take leaf kinds)) (0 + length (take leaf kinds), kind)
    ∙ ap (λ (w : ℕ). leaf_cells (take leaf kinds) ++ record { leaf = w; kind = kind } ∷ []) long

kinds_from : (n : ℕ) (kinds : List LeafType) → map (λ (cell : Cell). cell.kind) (map (λ (e : ℕ × LeafType). record { leaf = e.0; kind = e.1 }) (enumerate_from n kinds)) ≡ kinds
kinds_from n [] = refl
kinds_from n (kind ∷ kinds) = ap (λ (w : List LeafType). kind ∷ w) (kinds_from (n + 1) kinds)

-- the types of the cells are those of the leaves
pub leaf_cells_kinds : (kinds : List LeafType) → map (λ (cell : Cell). cell.kind) (leaf_cells kinds) ≡ kinds
leaf_cells_kinds kinds = kinds_from 0 kinds

pub kinds_are : (cells : List Cell) (kinds : List LeafType) → cells ≡ leaf_cells kinds → map (λ (cell : Cell). cell.kind) cells ≡ kinds
kinds_are cells kinds is = ap (map (λ (cell : Cell). cell.kind)) is ∙ leaf_cells_kinds kinds

-- widths and holds go by the types
pub widths_by_kind : (cells : List Cell) → widths_of cells ≡ map width_of (map (λ (cell : Cell). cell.kind) cells)
widths_by_kind cells = sym (map-map width_of (λ (cell : Cell). cell.kind) cells)

pub holds_by_kind : (cells : List Cell) → full_holds cells ≡ map hold_of (map (λ (cell : Cell). cell.kind) cells)
holds_by_kind cells = sym (map-map hold_of (λ (cell : Cell). cell.kind) cells)
