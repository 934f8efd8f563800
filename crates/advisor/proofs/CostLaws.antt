-- What passes cost where cells are the leaves.
use Rattle.advisor.proofs.Imports.{◌≡◌, ℕ, ◌+◌, ◌*◌, ◌<◌, List, length, get_or, ap, ◌∙◌, arith, sum_by, enumerate_from, fun_ext, get_or-map, length-map, get_or-enumerate_from, length-enumerate_from, LeafType, Truth, Owner, IsLaidOut, Cell, leaf_cells, Pass, touched_alike, reads, cost, part_cost, leaves_in}

-- the leaf of a cell is its number
leaf_is : (kinds : List LeafType) (cell : ℕ) → cell < length kinds → get_or (leaves_in (leaf_cells kinds)) cell 0 ≡ cell
leaf_is kinds cell inside =
    let made : ℕ × LeafType → Cell = λ e. record { leaf = e.0; kind = e.1 } in
    let entries = enumerate_from 0 kinds in
    let many = length-enumerate_from 0 kinds in
    let more = length-map entries made in
    let number : 0 + cell ≡ cell = omega arith in
    get_or-map (λ (c : Cell). c.leaf) (leaf_cells kinds) cell (made (0, Truth)) 0 (omega arith)
    ∙ ap (λ (c : Cell). c.leaf) (get_or-map made entries cell (0, Truth) (made (0, Truth)) (omega arith))
    ∙ ap (λ (e : ℕ × LeafType). e.0) (get_or-enumerate_from 0 kinds cell (0, Truth) inside)
    ∙ number

-- so the whole costs what its cells cost
pub whole_cost : (passes : List Pass) (granule : ℕ) (kinds : List LeafType) (layout : List (List Owner)) (slots : ℕ) (widths : List ℕ) → IsLaidOut layout slots widths
    → length widths ≡ length kinds → part_cost passes granule (leaves_in (leaf_cells kinds)) layout ≡ cost passes granule layout
whole_cost passes granule kinds layout slots widths laid long =
    ap (λ (price : Pass → ℕ). sum_by price passes) (fun_ext (λ pass. ap (λ (n : ℕ). pass.times * n)
    (touched_alike layout slots widths laid (λ cell. reads pass (get_or (leaves_in (leaf_cells kinds)) cell 0)) (reads pass)
    (λ cell l. ap (reads pass) (leaf_is kinds cell (omega (arith, l, long)))) granule)))
