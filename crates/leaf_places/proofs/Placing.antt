-- Places of a leaf of a table, from where its bits stand.
use Rattle.leaf_places.proofs.Imports.{◌≡◌, ℕ, ◌*◌, ◌<◌, ◌≤◌, Bool, false, Some, List, [], length, get_or, slice_get, map, sym, ap, ◌∙◌, subst, arith, length-map, get_or_from_slice_get, is_signed, indices, width_at, Owner, Bit, owner_at, entry, Cell, Hold, leaf_cells, length-leaf_cells, Stays, hold_at, kind_count, Table, leaf_count_of, leaf_type_of, leaf_types_of, owners_of, table_holds, ArePlacesOf, IsDirect, bit_by, first_bit, first_by, spot_by, IsForm, IsSought, StandAlong, Sought, Places}
use Rattle.leaf_places.proofs.Numbers.{says_number}

pub cell_in : (table : Table) (leaf : ℕ) (cells : List Cell) → cells ≡ leaf_cells (leaf_types_of table) → leaf < leaf_count_of table → leaf < length cells
cell_in table leaf cells are inside = omega (arith, inside, ap (length {A = Cell}) are, length-leaf_cells (leaf_types_of table), kind_count table.fields)

-- what a table has of a leaf's hold, by the list of a mapping
module _ (table : Table) (leaf : ℕ) (hold : Hold) (holds : List Hold) (holds_are : holds ≡ table_holds table) (told : slice_get holds leaf ≡ Some hold) where
  pub listed : hold_at holds leaf ≡ hold
  listed = get_or_from_slice_get holds leaf hold (record { signed = false; width = 0 }) told

  pub hold_of : hold ≡ hold_at (table_holds table) leaf
  hold_of = sym listed ∙ ap (λ (hs : List Hold). hold_at hs leaf) holds_are

  pub sought_of : (turned in_bits : Bool) → leaf < length holds → IsForm in_bits turned hold.width
      → IsSought (map (λ (h : Hold). h.width) holds) (record { leaf = leaf; width = hold.width; is_turned = turned; in_bits = in_bits })
  sought_of turned in_bits inside form = record {
    leaf_in = omega (arith, inside, length-map holds (λ (h : Hold). h.width));
    wide = sym (width_at holds leaf (record { signed = false; width = 0 }) inside ∙ ap (λ (h : Hold). h.width) listed);
    form = form;
  }

-- places of a direct leaf say its numbers
module _ (table : Table) (leaf : ℕ) (leaf_in : leaf < leaf_count_of table) (direct : IsDirect leaf table) (places : Places) (hold : Hold)
    (hold_is : hold ≡ hold_at (table_holds table) leaf) (signed : places.is_signed ≡ hold.signed) (wide : places.width ≡ hold.width) (blob_in : places.blob < length (owners_of table))
    (bytes : 8 * places.bytes ≡ length (get_or (owners_of table) places.blob [])) (groups : 0 < places.lanes) (form : IsForm places.in_bits places.is_turned places.width)
    (owned : (row k : ℕ) → row < length (indices table.extents) → k < places.width
    → owner_at (owners_of table) places.blob (bit_by places.is_turned (first_bit places row) places.width k) ≡ Bit row leaf k) where
  own_sign : hold.signed ≡ is_signed (leaf_type_of table leaf)
  own_sign = ap (λ (h : Hold). h.signed) hold_is ∙ direct.sign

  type_in : leaf < length (leaf_types_of table)
  type_in = omega (arith, leaf_in, kind_count table.fields)

  pub placed : ArePlacesOf leaf table places
  placed = record {
    leaf_in = leaf_in;
    blob_in = blob_in;
    bytes = bytes;
    groups = groups;
    signed = signed ∙ own_sign;
    wide = wide ∙ ap (λ (h : Hold). h.width) hold_is;
    form = form;
    owned = owned;
    says = λ rows bytes now is row inside.
        (let row_in : row < length (indices table.extents) = omega (arith, inside, now.rows) in
        let some : 1 ≤ hold.width = omega (arith, now.some leaf type_in, ap (λ (h : Hold). h.width) hold_is) in
        let stays : Stays table.mode (leaf_type_of table leaf) hold (entry rows row leaf) =
        subst (λ (h : Hold). Stays table.mode (leaf_type_of table leaf) h (entry rows row leaf)) (sym hold_is) (now.stays row leaf inside type_in) in
        let stand : (k : ℕ) → k < hold.width → owner_at (owners_of table) places.blob (bit_by places.is_turned (first_bit places row) hold.width k) ≡ Bit row leaf k =
        subst (λ (w : ℕ). (k : ℕ) → k < w → owner_at (owners_of table) places.blob (bit_by places.is_turned (first_bit places row) w k) ≡ Bit row leaf k) wide (λ k. owned row k row_in) in
        let said = says_number (owners_of table) rows table.mode (leaf_type_of table leaf) hold places.is_turned places.blob (first_bit places row) row leaf bytes blob_in own_sign some stand is stays in
        grind arith);
  }

-- what is sought of a leaf stands where its places say
module _ (table : Table) (leaf : ℕ) (layout : List (List Owner)) (layout_is : layout ≡ owners_of table) (rows : ℕ) (rows_are : rows ≡ length (indices table.extents))
    (sought : Sought) (leaf_is : sought.leaf ≡ leaf) where
  pub owned_so : (blob : ℕ) (way : ℕ → ℕ) → StandAlong layout sought rows blob way → (row k : ℕ) → row < length (indices table.extents) → k < sought.width
      → owner_at (owners_of table) blob (bit_by sought.is_turned (first_by sought.in_bits (way row)) sought.width k) ≡ Bit row leaf k
  owned_so blob way along row k inside below = grind arith

  pub along_of : (places : Places) → ArePlacesOf leaf table places → places.in_digits ≡ false → places.in_bits ≡ sought.in_bits → places.is_turned ≡ sought.is_turned
      → places.width ≡ sought.width → StandAlong layout sought rows places.blob (spot_by false places.base places.lanes places.lane places.block)
  along_of places are even bits turned wide row inside k below =
      let here : owner_at (owners_of table) places.blob (bit_by places.is_turned (first_bit places row) places.width k) ≡ Bit row leaf k =
      are.owned row k (omega (arith, inside, rows_are)) (omega (arith, below, wide)) in grind arith
