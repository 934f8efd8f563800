-- The laws of a view's table, and a row that blobs hold.
use Rattle.actors.proofs.Imports.{leaf_count, ◌≡◌, ℕ, ◌+◌, ◌<◌, ◌≤◌, ℤ, pos, List, [], length, map, get_or, set, None, sym, ◌∙◌, arith, ext_get_or, get_or-set_same, get_or-set_other, cases_eq, indices, entry, IsLaidOut, Owner, Hold, table_in, declared, kind_at, Table, IsTable, owners_of, leaf_types_of, table_holds, leaf_count_of, IsLawful, row_in-at, length-row_in, job_of, row_held}

pub lawful_from : (table : Table) (layout : List (List Owner)) (slots : ℕ) (holds : List Hold) → IsTable table → length (table_holds table) ≡ length (leaf_types_of table)
    → layout ≡ owners_of table → slots ≡ length (indices table.extents) → holds ≡ table_holds table → IsLaidOut layout slots (map (λ h. h.width) holds) → IsLawful table
lawful_from table layout slots holds is paired layout_is slots_are holds_are laid = grind arith

-- an entry of the raw table that blobs hold
pub raw_here : (table : Table) (layout : List (List Owner)) (slots : ℕ) (holds : List Hold) (blobs : List (List ℕ)) (row leaf : ℕ) → length table.rows ≡ length (indices table.extents)
    → layout ≡ owners_of table → slots ≡ length (indices table.extents) → holds ≡ table_holds table
    → entry (table_in layout slots holds blobs) row leaf ≡ entry (table_in (owners_of table) (length table.rows) (table_holds table) blobs) row leaf
raw_here table layout slots holds blobs row leaf rows layout_is slots_are holds_are = grind arith

module _ (table : Table) (lawful : IsLawful table) (blobs : List (List ℕ)) (row : ℕ) (inside : row < length table.rows) where
  pub held_at : (leaf : ℕ) → leaf < leaf_count_of table
      → get_or (row_held table blobs row) leaf (pos 0) ≡ declared (kind_at (leaf_types_of table) leaf) (entry (table_in (owners_of table) (length table.rows) (table_holds table) blobs) row leaf)
  held_at leaf low = row_in-at (job_of table None []) lawful.laid lawful.paired blobs row leaf inside (omega (arith, low, leaf_count table))

  pub held_long : length (row_held table blobs row) ≡ leaf_count_of table
  held_long = length-row_in (job_of table None []) lawful.laid lawful.paired blobs row inside ∙ sym (leaf_count table)

  -- the first so many values are those of the row
  abbrev pub AreHeld : List ℤ → ℕ → Type 0
  AreHeld values n = (k : ℕ) → k < n → get_or values k (pos 0) ≡ get_or (row_held table blobs row) k (pos 0)

  pub one_held : (values : List ℤ) (leaf : ℕ) (value : ℤ) → leaf < length values → length values ≡ leaf_count_of table
      → value ≡ declared (kind_at (leaf_types_of table) leaf) (entry (table_in (owners_of table) (length table.rows) (table_holds table) blobs) row leaf)
      → AreHeld values leaf → AreHeld (set values leaf value) (leaf + 1)
  one_held values leaf value low long is so_far k l = grind (arith, get_or-set_same, held_at, get_or-set_other, cases_eq)

  pub all_held : (values : List ℤ) (leaf : ℕ) → length values ≡ leaf_count_of table → length values ≤ leaf → AreHeld values leaf → values ≡ row_held table blobs row
  all_held values leaf long over so_far =
      ext_get_or (pos 0) values (row_held table blobs row) (long ∙ sym held_long) (λ k l. so_far k (omega (arith, l, over)))
