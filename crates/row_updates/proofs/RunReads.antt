-- The values of a leaf that are read in rows one after another.
use Rattle.row_updates.proofs.Imports.{Bool, LeafType, raised, ◌≡◌, ◌∙◌, ℕ, ◌+◌, ◌<◌, ◌≤◌, ◌^◌, ◌≤ℤ◌, List, [], length, map, take, drop, get_or, ℤ, pos, neg_ℤ, w64, sym, ap, subst, arith, length-drop, get_or-drop, unsigned_abs, if◌then◌else◌, fits_signed_from_abs, get_or-map, length-map, get_or-take, length-take-le, low_64, low_same, stays_declared, hold_at, Leaf, leaves, IsDeclared, is_signed, in_leaf, column, raised_low, Table, IsTable, leaf_count_of, leaf_type_of, leaf_types_of, table_holds, row_of, AreNear}

-- low bits that lie no lower than a type's values do are the value
low_is : (kind : LeafType) (low : ℤ) (limit : ℕ) → (if is_signed kind then neg_ℤ (pos limit) else pos 0) ≤ℤ low → raised kind low ≡ low
low_is kind low limit least = grind arith

-- they lie near enough
low_near : (signed : Bool) (value : ℤ) (limit : ℕ) → (if signed then neg_ℤ (pos limit) else pos 0) ≤ℤ value → value ≤ℤ pos limit → unsigned_abs value ≤ limit
low_near signed value limit low high = grind arith

module _ (table : Table) (leaf first limit : ℕ) (values : List ℤ) (count : ℕ) (is : IsTable table) (inside : leaf < leaf_count_of table) (rows_in : first + count ≤ length table.rows)
    (read : values ≡ map low_64 (take count (drop first (column leaf table.rows)))) (small : limit < 2 ^ 63) where
  many : length values ≡ count
  many = grind (arith, length-drop, length-map, length-take-le)

  there : (k : ℕ) → k < length values → get_or values k (pos 0) ≡ low_64 (in_leaf leaf (row_of table (first + k)))
  there k below =
      let rest = drop first (column leaf table.rows) in
      let near : k < count = omega (arith, below, many) in
      let long : k < length (take count rest) =
      omega (arith, near, length-take-le count rest (omega (arith, length-drop first (column leaf table.rows), length-map table.rows (in_leaf leaf), rows_in))) in
      ap (λ (l : List ℤ). get_or l k (pos 0)) read ∙ get_or-map low_64 (take count rest) k (pos 0) (pos 0) long
      ∙ ap low_64 (get_or-take count rest k (pos 0) near ∙ get_or-drop first (column leaf table.rows) k (pos 0)
      ∙ get_or-map (in_leaf leaf) table.rows (first + k) [] (pos 0) (omega (arith, near, rows_in)))

  declared : (k : ℕ) → k < length values → IsDeclared (leaf_type_of table leaf) (in_leaf leaf (row_of table (first + k)))
  declared k below =
      let in_kinds : leaf < length (leaf_types_of table) = omega (arith, inside, length-map (leaves table.fields) (λ (one : Leaf). one.kind)) in
      stays_declared table.mode (leaf_type_of table leaf) (hold_at (table_holds table) leaf) (in_leaf leaf (row_of table (first + k))) (is.stays (first + k) leaf (omega (arith, below, many, rows_in)) in_kinds)

  -- where each value of the type lies near enough
  pub near_by_type : ((value : ℤ) → IsDeclared (leaf_type_of table leaf) value → unsigned_abs value ≤ limit) → AreNear table leaf first limit values
  near_by_type all =
      let same : (k : ℕ) → k < length values → get_or values k (pos 0) ≡ in_leaf leaf (row_of table (first + k)) =
      λ k below.
      (let near = all (in_leaf leaf (row_of table (first + k))) (declared k below) in
      there k below ∙ low_same (in_leaf leaf (row_of table (first + k))) (fits_signed_from_abs w64 (in_leaf leaf (row_of table (first + k))) (omega (arith, near, small)))) in
      record {
        same = same;
        near = λ k below. subst (λ (v : ℤ). unsigned_abs v ≤ limit) (sym (same k below)) (all (in_leaf leaf (row_of table (first + k))) (declared k below));
      }

  -- where each of these does
  pub near_by_test : ((k : ℕ) → k < length values → ((if is_signed (leaf_type_of table leaf) then neg_ℤ (pos limit) else pos 0) ≤ℤ get_or values k (pos 0)) × (get_or values k (pos 0) ≤ℤ pos limit))
      → AreNear table leaf first limit values
  near_by_test each =
      let kind = leaf_type_of table leaf in
      record {
        same = λ k below.
            let value = in_leaf leaf (row_of table (first + k)) in
            let low = subst (λ (v : ℤ). (if is_signed kind then neg_ℤ (pos limit) else pos 0) ≤ℤ v) (there k below) (each k below).0 in
            there k below ∙ sym (low_is kind (low_64 value) limit low) ∙ raised_low kind value (declared k below);
        near = λ k below. low_near (is_signed kind) (get_or values k (pos 0)) limit (each k below).0 (each k below).1;
      }
