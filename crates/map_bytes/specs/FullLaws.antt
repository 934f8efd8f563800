-- Mappings that store each cell in its type's own sign and width.
use Rattle.std.specs.Prelude.{◌≡◌, ℕ, ◌+◌, ◌<◌, List, [], ◌∷◌, map, length, get_or, drop, Bool, true, false, Some, refl, ◌&&◌, ◌||◌, not, slice_get}
use Rattle.map_bytes.specs.Imports.{sym, ap, ◌∙◌, arith, eqb-true, map-map, drop_more, get_or-map, length-map, get_or_from_slice_get, slice_get_within, LeafType, hold_of, full_holds, length-full, Cell, Hold}
use Rattle.map_bytes.specs.Cells.{same_hold, differ}

-- cells of the same types are stored alike
pub full_kinds : (cells others : List Cell) → map (λ (c : Cell). c.kind) cells ≡ map (λ (c : Cell). c.kind) others → full_holds cells ≡ full_holds others
full_kinds cells others same =
    sym (map-map hold_of (λ (c : Cell). c.kind) cells) ∙ ap (map hold_of) same ∙ map-map hold_of (λ (c : Cell). c.kind) others

-- how a cell of a type is stored whole
pub full_at : (cells : List Cell) (cell : ℕ) (kind : LeafType) (d : Hold) → slice_get (map (λ (c : Cell). c.kind) cells) cell ≡ Some kind
    → get_or (full_holds cells) cell d ≡ hold_of kind
full_at cells cell kind d read =
    let kinds : List LeafType = map (λ (c : Cell). c.kind) cells in
    let inside : cell < length kinds = slice_get_within kinds cell kind read in
    sym (ap (λ (hs : List Hold). get_or hs cell d) (map-map hold_of (λ (c : Cell). c.kind) cells))
    ∙ get_or-map hold_of kinds cell kind d inside
    ∙ ap hold_of (get_or_from_slice_get kinds cell kind kind read)

pub full_within : (cells : List Cell) (cell : ℕ) (kind : LeafType) → slice_get (map (λ (c : Cell). c.kind) cells) cell ≡ Some kind → cell < length (full_holds cells)
full_within cells cell kind read = grind (arith, slice_get_within, length-map, length-full)

both : (one two : Bool) → (one && two) ≡ true → (one ≡ true) × (two ≡ true)
both one two e = grind arith

same_holds : (hold other : Hold) → same_hold hold other ≡ true → hold ≡ other
same_holds hold other e = grind (arith, both, eqb-true)

neither : (one two : Bool) → (not one || two) ≡ false → (one ≡ true) × (two ≡ false)
neither one two e = grind arith

pub differ_none : (holds others : List Hold) → length holds ≡ length others → differ holds others ≡ false → holds ≡ others
differ_none [] [] size e = refl
differ_none [] (other ∷ others) size e = let never : ⊥ = omega arith in absurd never
differ_none (hold ∷ holds) [] size e = let never : ⊥ = omega arith in absurd never
differ_none (hold ∷ holds) (other ∷ others) size e =
    let parts = neither (same_hold hold other) (differ holds others) e in
    ap (λ (h : Hold). h ∷ holds) (same_holds hold other parts.0)
    ∙ ap (λ (hs : List Hold). other ∷ hs) (differ_none holds others (omega arith) parts.1)

-- one more hold, the same or another
module _ (holds others : List Hold) (i : ℕ) (hold other : Hold) (left : i < length holds) (right : i < length others)
    (read : get_or holds i hold ≡ hold) (read' : get_or others i other ≡ other) where
  step : differ (drop i holds) (drop i others) ≡ (not (same_hold hold other) || differ (drop (i + 1) holds) (drop (i + 1) others))
  step = grind (arith, drop_more)

  pub differ_more : same_hold hold other ≡ true → differ (drop i holds) (drop i others) ≡ differ holds others
      → differ (drop (i + 1) holds) (drop (i + 1) others) ≡ differ holds others
  differ_more same so_far =
      sym (step ∙ ap (λ (b : Bool). not b || differ (drop (i + 1) holds) (drop (i + 1) others)) same) ∙ so_far

  pub differ_here : same_hold hold other ≡ false → differ (drop i holds) (drop i others) ≡ differ holds others → differ holds others ≡ true
  differ_here same so_far =
      sym so_far ∙ step ∙ ap (λ (b : Bool). not b || differ (drop (i + 1) holds) (drop (i + 1) others)) same
