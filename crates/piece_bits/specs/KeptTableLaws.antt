-- The table that a raw table stands for.
use Rattle.std.specs.Prelude.{◌≡◌, ℕ, zero, suc, ◌<◌, ℤ, pos, List, [], ◌∷◌, length, get_or, refl}
use Rattle.piece_bits.specs.Imports.{sym, ap, ◌∙◌, arith, length-map, get_or-map, LeafType, entry}
use Rattle.piece_bits.specs.Tables.{with_entry, HasShape}
use Rattle.piece_bits.specs.TableLaws.{with_entry_shape, with_entry_same, with_entry_other, is_with_entry}
use Rattle.piece_bits.specs.LowBits.{declared}
use Rattle.piece_bits.specs.Modes.{kind_at, declared_row, declared_table}

pub length-declared_row : (kinds : List LeafType) (row : List ℤ) → length row ≡ length kinds → length (declared_row kinds row) ≡ length kinds
length-declared_row [] row e = refl
length-declared_row (kind ∷ kinds) [] e = absurd (omega (arith, e))
length-declared_row (kind ∷ kinds) (raw ∷ raws) e = omega (arith, length-declared_row kinds raws (omega (arith, e)))

pub declared_at : (kinds : List LeafType) (row : List ℤ) (leaf : ℕ) → length row ≡ length kinds → leaf < length kinds →
    get_or (declared_row kinds row) leaf (pos 0) ≡ declared (kind_at kinds leaf) (get_or row leaf (pos 0))
declared_at [] row leaf e l = absurd (omega (arith, l))
declared_at (kind ∷ kinds) [] leaf e l = absurd (omega (arith, e))
declared_at (kind ∷ kinds) (raw ∷ raws) zero e l = refl
declared_at (kind ∷ kinds) (raw ∷ raws) (suc leaf) e l = declared_at kinds raws leaf (omega (arith, e)) (omega (arith, l))

module _ (rows : ℕ) (kinds : List LeafType) (raw : List (List ℤ)) (shape : HasShape rows (length kinds) raw) where
  row_is : (row : ℕ) → row < rows → get_or (declared_table kinds raw) row [] ≡ declared_row kinds (get_or raw row [])
  row_is row l = get_or-map (declared_row kinds) raw row [] [] (omega (arith, l, shape.row_count))

  pub declared_shape : HasShape rows (length kinds) (declared_table kinds raw)
  declared_shape = grind (arith, length-map, row_is, length-declared_row)

  pub declared_entry : (row leaf : ℕ) → row < rows → leaf < length kinds → entry (declared_table kinds raw) row leaf ≡ declared (kind_at kinds leaf) (entry raw row leaf)
  declared_entry row leaf l m = grind (arith, row_is, declared_at)

-- one raw entry changed
pub declared_with_entry : (rows : ℕ) (kinds : List LeafType) (raw : List (List ℤ)) (shape : HasShape rows (length kinds) raw) (row leaf : ℕ) (value : ℤ) → row < rows → leaf < length kinds →
    declared_table kinds (with_entry raw row leaf value) ≡ with_entry (declared_table kinds raw) row leaf (declared (kind_at kinds leaf) value)
declared_with_entry rows kinds raw shape row leaf value l m =
    let n : ℕ = length kinds in
    let new_shape : HasShape rows n (with_entry raw row leaf value) = with_entry_shape rows n raw shape row leaf value l m in
    is_with_entry rows n (declared_table kinds raw) (declared_shape rows kinds raw shape) row leaf (declared (kind_at kinds leaf) value) l m
    (declared_table kinds (with_entry raw row leaf value)) (declared_shape rows kinds (with_entry raw row leaf value) new_shape)
    (declared_entry rows kinds (with_entry raw row leaf value) new_shape row leaf l m
    ∙ ap (declared (kind_at kinds leaf)) (with_entry_same rows n raw shape row leaf value l m))
    (λ r c in_rows in_leaves other.
    declared_entry rows kinds (with_entry raw row leaf value) new_shape r c in_rows in_leaves
    ∙ ap (declared (kind_at kinds c)) (with_entry_other rows n raw shape row leaf value l m r c other)
    ∙ sym (declared_entry rows kinds raw shape r c in_rows in_leaves))
