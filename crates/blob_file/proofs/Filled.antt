-- The rows of a view that are stored run by run, and each run leaf by leaf.
use Rattle.blob_file.proofs.Imports.{◌≡◌, ℕ, ◌+◌, ◌-◌, ◌*◌, ◌<◌, ◌≤◌, ℤ, pos, negsuc, ◌≤ℤ◌, true, false, Bool, List, [], ◌∷◌, ◌++◌, length, map, get_or, is_ok, Ok, refl, sym, ap, ◌∙◌, subst, ⊎_elim, arith, ◌⊎◌, flat_map, range_with_len, cases_lt, le-ltb, pow_mono, ints, to_z_pos, length-map, get_or-map, ext_get_or, flat_map-cons, indices, is_signed, IsDeclared, IsIn, Leaf, leaves, LeafType, entry, Owner, Hold, length-leaf_cells, leaf_cells, bit_in, table_shape, tables_same, HasShape, table_in, fitting_stays, low_64, stays_answer, column_writes, raised, CountsNothing, run_entry, run_length, AreBefore, kept_row, kept_rows, Table, IsTable, answer_of, kept_of, leaf_count_of, leaf_type_of, leaf_types_of, owners_of, table_holds, after_stores, Access, Write, row_accesses, all_accesses, after_stores-append, logs_more, kept_run, run_writes, AreFitting, IsTakenLeaf, raw_in, row_count, header_of}
use Rattle.piece_bits.specs.Prelude.{low_same}
use Rattle.blob_file.proofs.Fills.{kept_entry, kept_shape}

-- ---- the raw rows

-- the raw numbers that a mapping of a view's layout reads off blobs
pub raw_is : (table : Table) (blobs : List (List ℕ)) (layout : List (List Owner)) (slots : ℕ) (holds : List Hold) → layout ≡ owners_of table → slots ≡ length (indices table.extents) → holds ≡ table_holds table
    → table_in layout slots holds blobs ≡ raw_in (header_of table) blobs
raw_is table blobs layout slots holds a b c = grind arith

-- as many cells as leaves
pub cell_count : (table : Table) → length (leaf_cells (leaf_types_of table)) ≡ leaf_count_of table
cell_count table = length-leaf_cells (leaf_types_of table) ∙ length-map (leaves table.fields) (λ (leaf : Leaf). leaf.kind)

-- ---- what a view keeps of them

module _ (table : Table) (blobs : List (List ℕ)) (is : IsTable table) (paired : length (table_holds table) ≡ length (leaf_types_of table)) where
  abbrev raw : List (List ℤ)
  raw = raw_in (header_of table) blobs

  abbrev kept : List (List ℤ)
  kept = kept_rows (kept_of table) raw

  raw_shape : HasShape (length (indices table.extents)) (leaf_count_of table) raw
  raw_shape =
      let shape = table_shape (owners_of table) (length (indices table.extents)) (table_holds table) (bit_in blobs) in
      record { row_count = shape.row_count; leaf_count = λ row l. shape.leaf_count row l ∙ paired ∙ length-map (leaves table.fields) (λ (leaf : Leaf). leaf.kind) }

  pub kept_long : length kept ≡ length table.rows
  kept_long = length-map raw (kept_row (kept_of table)) ∙ raw_shape.row_count ∙ sym is.rows

  pub entry_kept : (row leaf : ℕ) → row < length table.rows → leaf < leaf_count_of table → entry kept row leaf ≡ kept_of table leaf (entry raw row leaf)
  entry_kept row leaf l m =
      let row_in : row < length (indices table.extents) = omega (arith, l, is.rows) in
      kept_entry (kept_of table) raw row leaf (omega (arith, row_in, raw_shape.row_count)) (omega (arith, m, raw_shape.leaf_count row row_in))

  -- a number of a run
  pub run_kept : (leaf first count k : ℕ) → k < count → first + count ≤ length table.rows → leaf < leaf_count_of table
      → get_or (kept_run leaf first count table raw) k (pos 0) ≡ kept_of table leaf (entry raw (first + k) leaf)
  run_kept leaf first count k below inside leaf_in = grind (arith, run_entry, kept_long, entry_kept)

  -- rows whose entries are kept are all that is kept
  pub all_kept : (rows : List (List ℤ)) (first : ℕ) → HasShape (length rows) (leaf_count_of table) rows → length rows ≡ length table.rows → length table.rows ≤ first
      → AreBefore (leaf_count_of table) first kept rows → rows ≡ kept
  all_kept rows first shape same all before =
      tables_same (length rows) (leaf_count_of table) rows kept shape
      (subst (λ (n : ℕ). HasShape n (leaf_count_of table) kept) (sym is.rows ∙ sym same) (kept_shape (kept_of table) raw (length (indices table.extents)) (leaf_count_of table) raw_shape))
      (λ row leaf l m. before row leaf (omega (arith, l, same, all)) m)

  -- numbers that fit are taken, and kept as they are
  module _ (leaf first : ℕ) (lows : List ℤ) (leaf_in : leaf < leaf_count_of table) (fitting : AreFitting leaf first table raw lows) where
    fits_answer : (k : ℕ) → k < length lows → answer_of table leaf (entry raw (first + k) leaf) ≡ Ok (entry raw (first + k) leaf)
    fits_answer k below = grind (arith, length-map, leaves, stays_answer, fitting_stays)

    pub fitting_taken : IsTakenLeaf leaf first (length lows) table raw
    fitting_taken row low high =
        let at : first + (row - first) ≡ row = omega (arith, low) in grind (arith, is_ok, fits_answer)

    pub fitting_kept : first + length lows ≤ length table.rows → map (raised (leaf_type_of table leaf)) lows ≡ kept_run leaf first (length lows) table raw
    fitting_kept inside =
        let many : length (kept_run leaf first (length lows) table raw) ≡ length lows = run_length leaf first (length lows) kept (omega (arith, inside, kept_long)) in
        ext_get_or (pos 0) (map (raised (leaf_type_of table leaf)) lows) (kept_run leaf first (length lows) table raw) (length-map lows (raised (leaf_type_of table leaf)) ∙ sym many)
        (λ k l. grind (arith, length-map, get_or-map, run_kept, fits_answer))

-- ---- which numbers are those of a type

-- and so is one of 64 bits whose low bits, read with a sign, are one of the type
unsigned_low : (n : ℕ) → pos 0 ≤ℤ low_64 (pos n) → low_64 (pos n) ≡ pos n
unsigned_low n low = grind (arith, to_z_pos, le-ltb, cases_lt)

same_low : (signed : Bool) (width : ℕ) (value : ℤ) → width ≤ 64 → IsIn signed width value → (signed ≡ false → pos 0 ≤ℤ low_64 value) → low_64 value ≡ value
same_low true width (pos n) narrow held low = low_same (pos n) (record { sfits = omega (arith, ints, held.1, pow_mono {i = width - 1} {j = 63} (omega (arith, narrow))) })
same_low true width (negsuc n) narrow held low = low_same (negsuc n) (record { sfits = omega (arith, ints, held.0, pow_mono {i = width - 1} {j = 63} (omega (arith, narrow))) })
same_low false width (pos n) narrow held low = unsigned_low n (low refl)
same_low false width (negsuc n) narrow held low = absurd (omega (arith, ints, held.0))

pub low_declares : (kind : LeafType) (hold : Hold) (raw : ℤ) → hold.width ≤ 64 → hold.signed ≡ is_signed kind → IsIn hold.signed hold.width raw → IsDeclared kind (low_64 raw) → IsDeclared kind raw
low_declares kind hold raw narrow sign held declared = grind (arith, same_low)

-- ---- a leaf more of a run

-- the log of one more
pub leaf_logged : (old now new : Table) (rows : List (List ℤ)) (leaf first count : ℕ) → now ≡ after_stores old now.rows (run_writes leaf first count)
    → new ≡ after_stores now rows (column_writes leaf first count) → new ≡ after_stores old rows (run_writes (leaf + 1) first count)
leaf_logged old now new rows leaf first count same stored =
    stored ∙ ap (λ (t : Table). after_stores t rows (column_writes leaf first count)) same
    ∙ after_stores-append old now.rows rows (run_writes leaf first count) (column_writes leaf first count)
    ∙ ap (after_stores old rows) (sym (logs_more (λ (l : ℕ). column_writes l first count) leaf))

-- ---- a run more

-- one row of a view that counts is written leaf after leaf
single : (leaves : List ℕ) (row : ℕ) → flat_map (λ (leaf : ℕ). Write row leaf ∷ []) leaves ≡ map (Write row) leaves
single [] row = refl
single (leaf ∷ leaves) row = flat_map-cons (λ (l : ℕ). Write row l ∷ []) leaf leaves ∙ ap (λ (log : List Access). Write row leaf ∷ log) (single leaves row)

-- the log of one more run
pub run_logged : (old now new : Table) (leaves first count : ℕ) → (count ≡ 1) ⊎ CountsNothing old → now ≡ after_stores old now.rows (all_accesses Write leaves first)
    → new ≡ after_stores now new.rows (run_writes leaves first count) → new ≡ after_stores old new.rows (all_accesses Write leaves (first + count))
run_logged old now new leaves first count quiet same stored =
    stored ∙ ap (λ (t : Table). after_stores t new.rows (run_writes leaves first count)) same
    ∙ after_stores-append old now.rows new.rows (all_accesses Write leaves first) (run_writes leaves first count)
    ∙ ⊎_elim
    (λ (one : count ≡ 1).
    ap (λ (n : ℕ). after_stores old new.rows (all_accesses Write leaves first ++ run_writes leaves first n)) one
    ∙ ap (λ (log : List Access). after_stores old new.rows (all_accesses Write leaves first ++ log)) (single (range_with_len 0 leaves) first)
    ∙ ap (after_stores old new.rows) (sym (logs_more (row_accesses Write leaves) first))
    ∙ ap (λ (n : ℕ). after_stores old new.rows (all_accesses Write leaves (first + n))) (sym one))
    (λ (nothing : CountsNothing old).
    ap (λ (t : Table). record t { rows = new.rows }) (nothing (all_accesses Write leaves first ++ run_writes leaves first count) ∙ sym (nothing (all_accesses Write leaves (first + count)))))
    quiet

-- ---- steps

pub leaf_steps : (before now new rows leaf : ℕ) → now ≡ before + rows * leaf → new ≡ now + rows → new ≡ before + rows * (leaf + 1)
leaf_steps before now new rows leaf so_far more = grind arith

pub run_steps_more : (before now new first rows leaves : ℕ) → now ≡ before + first * leaves → new ≡ now + rows * leaves → new ≡ before + (first + rows) * leaves
run_steps_more before now new first rows leaves so_far more = grind arith
