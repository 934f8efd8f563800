-- The widths of the leaf types: 8, 16, 32 or 64 bits, so whole bytes and powers of two.
use Rattle.std.specs.Prelude.{◌≡◌, ℕ, ◌%◌, ◌<◌, ◌≤◌, ◌⊎◌, List, map, max, get_or, All, refl}
use Rattle.record_dim.specs.Std.{⊎_elim, subst, arith, map-map, All-map, cases_lt}
use Rattle.record_dim.specs.Prelude.{width_of}
use Rattle.record_dim.specs.declared.leaf_type.LeafType.{LeafType}
use Rattle.places.specs.Holds.{hold_of, full_holds, widths_of}
use Rattle.places.specs.declared.piece.Cell.{Cell}
use Rattle.places.specs.declared.piece.Hold.{Hold}
use Rattle.places.specs.StackedLaws.{KeepsBytes}

abbrev pub IsWidth : ℕ → Type 0
IsWidth w = (w ≡ 8) ⊎ ((w ≡ 16) ⊎ ((w ≡ 32) ⊎ (w ≡ 64)))

pub width_is : (kind : LeafType) → IsWidth (width_of kind)
width_is kind = grind arith

pub by_width : (P : ℕ → Type 0) (w : ℕ) → P 8 → P 16 → P 32 → P 64 → IsWidth w → P w
by_width P w p8 p16 p32 p64 h = grind arith

pub width_whole : (kind : LeafType) → width_of kind % 8 ≡ 0
width_whole kind = by_width (λ w. w % 8 ≡ 0) (width_of kind) refl refl refl refl (width_is kind)

pub width_narrow : (kind : LeafType) → width_of kind ≤ 64
width_narrow kind = by_width (λ w. w ≤ 64) (width_of kind) (omega arith) (omega arith) (omega arith) (omega arith) (width_is kind)

pub width_wide : (kind : LeafType) → 1 ≤ width_of kind
width_wide kind = by_width (λ w. 1 ≤ w) (width_of kind) (omega arith) (omega arith) (omega arith) (omega arith) (width_is kind)

pub widths_are : (cells : List Cell) → All IsWidth (widths_of cells)
widths_are cells = All-map IsWidth (λ (cell : Cell). width_of cell.kind) cells (λ k d l. width_is (get_or cells k d).kind)

pub widths_whole : (cells : List Cell) → All (λ w. w % 8 ≡ 0) (widths_of cells)
widths_whole cells k d l = by_width (λ w. w % 8 ≡ 0) (get_or (widths_of cells) k d) refl refl refl refl (widths_are cells k d l)

pub widths_narrow : (cells : List Cell) → All (λ w. w ≤ 64) (widths_of cells)
widths_narrow cells k d l = by_width (λ w. w ≤ 64) (get_or (widths_of cells) k d) (omega arith) (omega arith) (omega arith) (omega arith) (widths_are cells k d l)

pub widths_wide : (cells : List Cell) → All (λ w. 1 ≤ w) (widths_of cells)
widths_wide cells k d l = by_width (λ w. 1 ≤ w) (get_or (widths_of cells) k d) (omega arith) (omega arith) (omega arith) (omega arith) (widths_are cells k d l)

-- the widths of the holds of whole cells are those of their types
pub widths_full : (cells : List Cell) → map (λ (h : Hold). h.width) (full_holds cells) ≡ widths_of cells
widths_full cells = map-map (λ (h : Hold). h.width) (λ (cell : Cell). hold_of cell.kind) cells

pub keeps_one : KeepsBytes 1
keeps_one at whole = omega arith

pub keeps_width : (w : ℕ) → IsWidth w → KeepsBytes w
keeps_width w h = grind (arith, by_width)

pub keeps_greater : (a b : ℕ) → KeepsBytes a → KeepsBytes b → KeepsBytes (max a b)
keeps_greater a b one two =
    ⊎_elim
    (λ (l : a < b). subst KeepsBytes (omega arith) two)
    (λ (l : b ≤ a). subst KeepsBytes (omega arith) one)
    (cases_lt a b)
