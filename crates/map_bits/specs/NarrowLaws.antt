-- Cells that are stored each in at most its own number of bits.
use Rattle.std.specs.Prelude.{◌≡◌, ℕ, zero, suc, ◌+◌, ◌<◌, ◌≤◌, Bool, true, false, not, ◌&&◌, List, [], ◌∷◌, ◌++◌, map, length, get_or, take, All, refl}
use Rattle.record_dim.specs.Std.{sym, ap, ◌∙◌, subst, arith, All-cons, All-nil, or_parts}
use Rattle.places.specs.Prelude.{hold_within, narrow_holds, widths_in, width_narrow, width_wide}
use Rattle.places.specs.declared.piece.Cell.{Cell}
use Rattle.places.specs.declared.piece.Hold.{Hold}
use Rattle.map_bits.specs.Bits.{is_bad_width, has_bad_width, AreHolds}

pub length-narrow : (widths : List ℕ) (cells : List Cell) → length widths ≡ length cells → length (narrow_holds widths cells) ≡ length cells
length-narrow [] [] e = refl
length-narrow [] (cell ∷ cells) e = absurd (omega (arith, e))
length-narrow (width ∷ widths) [] e = absurd (omega (arith, e))
length-narrow (width ∷ widths) (cell ∷ cells) e = omega (arith, length-narrow widths cells (omega (arith, e)))

-- one cell more
pub narrow_more : (widths : List ℕ) (cells : List Cell) (i : ℕ) (d : Cell) → i < length widths → i < length cells →
    narrow_holds (take (i + 1) widths) (take (i + 1) cells) ≡ narrow_holds (take i widths) (take i cells) ++ hold_within (get_or widths i 0) (get_or cells i d).kind ∷ []
narrow_more [] cells i d l m = absurd (omega (arith, l))
narrow_more (width ∷ widths) [] i d l m = absurd (omega (arith, m))
narrow_more (width ∷ widths) (cell ∷ cells) zero d l m = refl
narrow_more (width ∷ widths) (cell ∷ cells) (suc i) d l m = grind (arith, (narrow_more widths cells i d (omega (arith, l)) (omega (arith, m))))

low_of : (low high : Bool) → not (low && high) ≡ false → low ≡ true
low_of low high e = grind arith

-- each cell in the width that a function gives it
pub narrow_each : (width : Cell → ℕ) (cells : List Cell) → narrow_holds (map width cells) cells ≡ map (λ (cell : Cell). hold_within (width cell) cell.kind) cells
narrow_each width [] = refl
narrow_each width (cell ∷ cells) = ap (λ (hs : List Hold). hold_within (width cell) cell.kind ∷ hs) (narrow_each width cells)

-- widths of 1 to 64 give holds of 1 to 64 bits
pub narrow_wide : (widths : List ℕ) (cells : List Cell) → has_bad_width widths ≡ false → All (λ w. 1 ≤ w) (widths_in (narrow_holds widths cells))
narrow_wide [] cells good = All-nil (λ w. 1 ≤ w)
narrow_wide (width ∷ widths) [] good = All-nil (λ w. 1 ≤ w)
narrow_wide (width ∷ widths) (cell ∷ cells) good =
    grind (arith, All-cons, width_wide, (narrow_wide widths cells (or_parts (is_bad_width width) (has_bad_width widths) good).1))

pub narrow_low : (widths : List ℕ) (cells : List Cell) → All (λ w. w ≤ 64) (widths_in (narrow_holds widths cells))
narrow_low [] cells = All-nil (λ w. w ≤ 64)
narrow_low (width ∷ widths) [] = All-nil (λ w. w ≤ 64)
narrow_low (width ∷ widths) (cell ∷ cells) = grind (arith, All-cons, width_narrow, (narrow_low widths cells))

pub narrow_are : (widths : List ℕ) (cells : List Cell) → length widths ≡ length cells → has_bad_width widths ≡ false → AreHolds cells (narrow_holds widths cells)
narrow_are widths cells same good = record { each = length-narrow widths cells same; some = narrow_wide widths cells good; low = narrow_low widths cells }

-- the same of copies
pub kept_are : (widths : List ℕ) (cells lent kept : List Cell) (holds : List Hold) → length widths ≡ length cells → has_bad_width widths ≡ false
    → kept ≡ cells → holds ≡ narrow_holds widths lent → lent ≡ cells → AreHolds kept holds
kept_are widths cells lent kept holds same good copied made there =
    subst (λ (cs : List Cell). AreHolds cs holds) (sym copied)
    (subst (AreHolds cells) (sym (made ∙ ap (narrow_holds widths) there)) (narrow_are widths cells same good))
