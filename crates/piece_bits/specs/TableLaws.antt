-- Tables by their entries: when two are equal, what one changed entry does, and the entries of a table that is read off bits.
use Rattle.std.specs.Prelude.{◌≡◌, ℕ, ◌+◌, ◌<◌, Bool, ℤ, pos, List, [], length, get_or, set, map}
use Rattle.piece_bits.specs.Imports.{sym, ap, ◌∙◌, arith, enumerate_from, length-map, length-set, length-replicate, get_or-map, get_or-replicate, get_or-set_same, get_or-set_other, ext_get_or, length-map-range_with_len, get_or-map-range_with_len, length-enumerate_from, get_or-enumerate_from, cases_eq, Owner, entry, reading, table_of, Hold}
use Rattle.piece_bits.specs.Tables.{with_entry, zeros, HasShape, signs_and_widths}

-- tables of one shape with the same entries are the same
pub tables_same : (rows leaves : ℕ) (one two : List (List ℤ)) → HasShape rows leaves one → HasShape rows leaves two
    → ((row leaf : ℕ) → row < rows → leaf < leaves → entry one row leaf ≡ entry two row leaf) → one ≡ two
tables_same rows leaves one two first second same =
    ext_get_or [] one two (first.row_count ∙ sym second.row_count)
    (λ row l.
    let in_rows : row < rows = omega (arith, first.row_count) in
    ext_get_or (pos 0) (get_or one row []) (get_or two row []) (first.leaf_count row in_rows ∙ sym (second.leaf_count row in_rows))
    (λ leaf m. same row leaf in_rows (omega (arith, first.leaf_count row in_rows))))

module _ (rows leaves : ℕ) (table : List (List ℤ)) (shape : HasShape rows leaves table) (row leaf : ℕ) (value : ℤ) (row_in : row < rows) (leaf_in : leaf < leaves) where
  row_same : get_or (with_entry table row leaf value) row [] ≡ set (get_or table row []) leaf value
  row_same = get_or-set_same table row (set (get_or table row []) leaf value) [] (omega (arith, shape.row_count))

  row_other : (r : ℕ) → (r ≡ row → ⊥) → get_or (with_entry table row leaf value) r [] ≡ get_or table r []
  row_other r other = get_or-set_other table row r (set (get_or table row []) leaf value) [] other

  -- a changed table keeps its shape
  pub with_entry_shape : HasShape rows leaves (with_entry table row leaf value)
  with_entry_shape = grind (arith, length-set, row_same, row_other, cases_eq)

  pub with_entry_same : entry (with_entry table row leaf value) row leaf ≡ value
  with_entry_same = grind (arith, get_or-set_same)

  pub with_entry_other : (r c : ℕ) → ((r ≡ row) × (c ≡ leaf) → ⊥) → entry (with_entry table row leaf value) r c ≡ entry table r c
  with_entry_other r c other = grind (arith, row_same, get_or-set_other, row_other, cases_eq)

  -- the table whose entry is the value and whose other entries stand is the table with this entry
  pub is_with_entry : (new : List (List ℤ)) → HasShape rows leaves new → entry new row leaf ≡ value
      → ((r c : ℕ) → r < rows → c < leaves → ((r ≡ row) × (c ≡ leaf) → ⊥) → entry new r c ≡ entry table r c)
      → new ≡ with_entry table row leaf value
  is_with_entry new shaped is others =
      tables_same rows leaves new (with_entry table row leaf value) shaped with_entry_shape
      (λ r c l m. grind (arith, with_entry_same, with_entry_other, cases_eq))

-- a table of zeros
pub zeros_shape : (rows leaves : ℕ) → HasShape rows leaves (zeros rows leaves)
zeros_shape rows leaves = grind (arith, length-replicate, get_or-replicate)

pub zeros_entry : (rows leaves row leaf : ℕ) → row < rows → leaf < leaves → entry (zeros rows leaves) row leaf ≡ pos 0
zeros_entry rows leaves row leaf l m = grind (arith, get_or-replicate)

module _ (layout : List (List Owner)) (rows : ℕ) (holds : List Hold) (bits : ℕ → ℕ → ℕ) where
  row_of : ℕ → List ℤ
  row_of row = map (λ e. reading layout bits row e.0 (e.1).0 (e.1).1) (enumerate_from 0 (signs_and_widths holds))

  row_is : (row : ℕ) → row < rows → get_or (table_of layout rows (signs_and_widths holds) bits) row [] ≡ row_of row
  unfolding row_of
  row_is row l = get_or-map-range_with_len (λ r. row_of r) 0 rows row row [] l (omega arith)

  length-pairs : length (enumerate_from 0 (signs_and_widths holds)) ≡ length holds
  length-pairs = length-enumerate_from 0 (signs_and_widths holds) ∙ length-map {B = Bool × ℕ} holds (λ (h : Hold). (h.signed, h.width))

  length-row_of : (row : ℕ) → length (row_of row) ≡ length holds
  unfolding row_of
  length-row_of row = length-map (enumerate_from 0 (signs_and_widths holds)) (λ (e : ℕ × (Bool × ℕ)). reading layout bits row e.0 (e.1).0 (e.1).1) ∙ length-pairs

  -- the table that is read off bits has a number for each hold in each row
  pub table_shape : HasShape rows (length holds) (table_of layout rows (signs_and_widths holds) bits)
  unfolding row_of
  table_shape = grind (arith, length-map-range_with_len, row_is, length-row_of)

  -- an entry of it is the reading of its cell
  pub entry_is : (row cell : ℕ) (d : Hold) → row < rows → cell < length holds →
      entry (table_of layout rows (signs_and_widths holds) bits) row cell ≡ reading layout bits row cell (get_or holds cell d).signed (get_or holds cell d).width
  unfolding row_of
  entry_is row cell d l m =
      let default : ℕ × (Bool × ℕ) = (0, (d.signed, d.width)) in
      let read : ℕ × (Bool × ℕ) → ℤ = λ e. reading layout bits row e.0 (e.1).0 (e.1).1 in
      let long : cell < length (signs_and_widths holds) = omega (arith, length-map {B = Bool × ℕ} holds (λ (h : Hold). (h.signed, h.width))) in
      let zero_on : 0 + cell ≡ cell = omega arith in
      let pair_is : get_or (signs_and_widths holds) cell (d.signed, d.width) ≡ ((get_or holds cell d).signed, (get_or holds cell d).width) =
      get_or-map (λ (h : Hold). (h.signed, h.width)) holds cell d (d.signed, d.width) m in
      ap (λ (w : List ℤ). get_or w cell (pos 0)) (row_is row l)
      ∙ get_or-map read (enumerate_from 0 (signs_and_widths holds)) cell default (pos 0) (omega (arith, length-pairs))
      ∙ ap read (get_or-enumerate_from 0 (signs_and_widths holds) cell default long)
      ∙ ap (λ (w : ℕ). reading layout bits row w (get_or (signs_and_widths holds) cell (d.signed, d.width)).0 (get_or (signs_and_widths holds) cell (d.signed, d.width)).1) zero_on
      ∙ ap (λ (w : Bool × ℕ). reading layout bits row cell w.0 w.1) pair_is
