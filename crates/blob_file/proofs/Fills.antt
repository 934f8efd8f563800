-- A view of zeros that was filled by what blobs hold: what is opened of the bytes behind a header.
use Rattle.blob_file.proofs.Imports.{◌≡◌, true, ℕ, ◌+◌, ◌*◌, ◌<◌, ◌≤◌, ℤ, pos, List, [], length, get_or, map, Ok, Err, is_ok, refl, sym, ap, ◌∙◌, arith, nat_eq, sum_by, enumerate_from, pointwise, eq-eqb, and_parts, and_from, false_from_ne_true, length-map, get_or-map, length-replicate, length-enumerate_from, get_or-enumerate_from, LeafType, IsIn, kinds_of, Hold, Owner, IsLaidOut, entry, indices, HasShape, hold_at, tables_same, declared, low_same, declared_same, StoreMode, kind_at, declared_shape, declared_entry, stored_fits, Keeping, store_answer, kept_or, kept_row, kept_rows, Table, owners_of, table_holds, leaf_count_of, kept_of, after_stores, Write, all_accesses, blob_lengths, Header, owners_by, image_bytes, IsTaken, raw_in, rows_in, answer_by, all_taken, are_contents, cut, with_blobs, with_body, empty_table, table_of_saved, leaf_count, row_count, IsRead, header_of, blobs_of}
use Rattle.blob_file.specs.declared.fault.FileFault.TheVariants as fault
use Rattle.blob_file.proofs.Contents.{ok_itself, each_taken, taken_each, raw_shape, raw_range, some_bits, same_count, same_blobs-Decides}

-- ---- what is kept of a number that is taken

kept_declared : (mode : StoreMode) (kind : LeafType) (hold : Hold) (raw : ℤ) → 1 ≤ hold.width → IsIn hold.signed hold.width raw → is_ok (store_answer mode kind hold raw) ≡ true →
    kept_or raw (store_answer mode kind hold raw) ≡ declared kind raw
kept_declared mode kind hold raw some inside taken = grind (arith, ok_itself, stored_fits, declared_same, low_same)

-- an entry of rows that are kept
pub kept_entry : (keep : Keeping) (rows : List (List ℤ)) (row leaf : ℕ) → row < length rows → leaf < length (get_or rows row []) → entry (kept_rows keep rows) row leaf ≡ keep leaf (entry rows row leaf)
kept_entry keep rows row leaf row_in leaf_in =
    let values = get_or rows row [] in
    let pairs : leaf < length (enumerate_from 0 values) = omega (arith, leaf_in, length-enumerate_from 0 values) in
    let number : 0 + leaf ≡ leaf = omega arith in
    ap (λ (w : List ℤ). get_or w leaf (pos 0)) (get_or-map (kept_row keep) rows row [] [] row_in)
    ∙ get_or-map (λ (v : ℕ × ℤ). keep v.0 v.1) (enumerate_from 0 values) leaf (0, pos 0) (pos 0) pairs
    ∙ ap (λ (v : ℕ × ℤ). keep v.0 v.1) (get_or-enumerate_from 0 values leaf (0, pos 0) leaf_in)
    ∙ ap (λ (n : ℕ). keep n (get_or values leaf (pos 0))) number

pub kept_shape : (keep : Keeping) (rows : List (List ℤ)) (count leaves : ℕ) → HasShape count leaves rows → HasShape count leaves (kept_rows keep rows)
kept_shape keep rows count leaves shape = record {
  row_count = length-map rows (kept_row keep) ∙ shape.row_count;
  leaf_count = λ row l.
      ap (length {A = ℤ}) (get_or-map (kept_row keep) rows row [] [] (omega (arith, l, shape.row_count)))
      ∙ length-map (enumerate_from 0 (get_or rows row [])) (λ (v : ℕ × ℤ). keep v.0 v.1)
      ∙ length-enumerate_from 0 (get_or rows row []) ∙ shape.leaf_count row l;
}

-- what stands behind the test of the length
pub body_is : (header : Header) (body : List ℕ) → 8 * length body ≡ sum_by (length {A = Owner}) (owners_by header) → with_body header body ≡ with_blobs header (cut (blob_lengths (owners_by header)) body)
body_is header body sized = grind (arith, sum_by, eq-eqb)

-- a view of zeros, its laws, and blobs
module _ (table : Table) (laid : IsLaidOut (owners_of table) (length (indices table.extents)) (map (λ (h : Hold). h.width) (table_holds table)))
    (paired : length (table_holds table) ≡ length (kinds_of table.fields)) (empty : table ≡ empty_table (header_of table))
    (blobs : List (List ℕ)) where
  abbrev header : Header
  header = header_of table

  abbrev raw : List (List ℤ)
  raw = raw_in header blobs

  rows_long : length table.rows ≡ row_count header
  rows_long = ap (λ (t : Table). length t.rows) empty ∙ length-replicate (row_count header) _

  shape : HasShape (row_count header) (length (kinds_of table.fields)) raw
  shape = raw_shape header laid paired blobs

  all_of : IsTaken table raw → all_taken (answer_by header) raw ≡ true
  all_of taken =
      taken_each (answer_by header) raw (λ row leaf l m.
      (let row_in : row < row_count header = omega (arith, l, shape.row_count) in
      taken row leaf (omega (arith, row_in, rows_long)) (omega (arith, m, shape.leaf_count row row_in, same_count header laid paired))))

  taken_of : all_taken (answer_by header) raw ≡ true → IsTaken table raw
  taken_of all row leaf l m =
      let row_in : row < row_count header = omega (arith, l, rows_long) in
      each_taken (answer_by header) raw all row leaf (omega (arith, row_in, shape.row_count)) (omega (arith, m, shape.leaf_count row row_in, same_count header laid paired))

  -- what is kept are the rows that the blobs stand for
  rows_kept : IsTaken table raw → kept_rows (kept_of table) raw ≡ rows_in header blobs
  rows_kept taken =
      tables_same (row_count header) (length (kinds_of table.fields)) (kept_rows (kept_of table) raw) (rows_in header blobs)
      (kept_shape (kept_of table) raw (row_count header) (length (kinds_of table.fields)) shape)
      (declared_shape (row_count header) (kinds_of table.fields) raw shape)
      (λ row leaf l m.
      (let row_in : row < length raw = omega (arith, l, shape.row_count) in
      let leaf_in : leaf < length (get_or raw row []) = omega (arith, m, shape.leaf_count row l) in
      kept_entry (kept_of table) raw row leaf row_in leaf_in
      ∙ kept_declared table.mode (kind_at (kinds_of table.fields) leaf) (hold_at (table_holds table) leaf) (entry raw row leaf) (some_bits header laid paired leaf m) (raw_range header laid paired blobs row leaf l m)
      (taken row leaf (omega (arith, l, rows_long)) (omega (arith, m, same_count header laid paired)))
      ∙ sym (declared_entry (row_count header) (kinds_of table.fields) raw shape row leaf l m)))

  contents_refused : (are_contents header blobs ≡ true → ⊥) → with_blobs header blobs ≡ Err fault.Contents
  contents_refused none = grind (arith, false_from_ne_true)

  -- a leaf refuses its number
  pub refused_number : (IsTaken table raw → ⊥) → with_blobs header blobs ≡ Err fault.Contents
  unfolding are_contents
  refused_number none = grind (arith, contents_refused, taken_of, and_parts, nat_eq)

  module _ (new : Table) (taken : IsTaken table raw) (stored : new ≡ after_stores table (kept_rows (kept_of table) raw) (all_accesses Write (leaf_count_of table) (length table.rows))) where
    own_blobs : blobs_of new ≡ image_bytes header (rows_in header blobs)
    own_blobs = ap blobs_of stored ∙ ap (image_bytes header) (rows_kept taken)

    new_is : new ≡ table_of_saved (record { header = header; blobs = blobs })
    new_is = grind (arith, rows_kept, rows_long)

    -- the blobs of the view are those of the file
    pub opened_view : blobs_of new ≡ blobs → IsRead (with_blobs header blobs) (Ok new)
    unfolding are_contents
    opened_view same =
        let both = and_from (all_taken (answer_by header) raw) (pointwise (pointwise nat_eq) (image_bytes header (rows_in header blobs)) blobs) (all_of taken)
        ((same_blobs-Decides (image_bytes header (rows_in header blobs)) blobs).1 (sym own_blobs ∙ same)) in
        (record { header = header; blobs = blobs }, (rw both refl), new_is)

    -- or are not
    pub other_view : (blobs_of new ≡ blobs → ⊥) → with_blobs header blobs ≡ Err fault.Contents
    unfolding are_contents
    other_view other = grind (arith, contents_refused, own_blobs, same_blobs-Decides, and_parts, nat_eq)

    -- and the steps that it took
    pub steps_taken : (before now : ℕ) → now ≡ before + length table.rows * leaf_count_of table → now ≡ before + row_count (header_of new) * leaf_count (header_of new)
    steps_taken before now steps = grind (arith, rows_long)
