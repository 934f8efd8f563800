-- Sixteen narrow numbers are a block, and the processor keeps the numbers of a block as their bits.
use Rattle.std.specs.Prelude.{◌≡◌, List, [], ◌∷◌, length, map, ℤ, FitsSigned, refl}
use Rattle.piece_bits.specs.Imports.{to_z, of_z, w64, arith, to_z-of_z, Each1-weaker, Each1}
use Rattle.piece_bits.specs.Blocks.{IsBlock, IsNarrow}

pub narrow_fits : (value : ℤ) → IsNarrow value → FitsSigned w64 value
narrow_fits value narrow = grind arith

pub narrow_block : (values : List ℤ) → length values ≡ 16 → Each1 IsNarrow values → IsBlock values
narrow_block values many narrow = record { count = many; fit = Each1-weaker IsNarrow (FitsSigned w64) narrow_fits values narrow }

-- the bits of numbers that fit give the numbers
pub same : (xs : List ℤ) → Each1 (FitsSigned w64) xs → map (to_z w64) (map (of_z w64) xs) ≡ xs
same [] fit = refl
same (x ∷ xs) fit = rw (to_z-of_z w64 x fit.0, same xs fit.1) refl
