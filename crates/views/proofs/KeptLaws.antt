-- What follows from what a view keeps, over plain layouts, holds and bits.
use Rattle.views.proofs.Imports.{◌≡◌, ℕ, suc, ◌*◌, ◌^◌, ◌∷◌, inr, ◌<◌, ◌≤◌, false, ℤ, pos, List, [], length, get_or, map, refl, sym, ap, ◌∙◌, subst, ⊎_elim, arith, sum_by, length-map, sum_by-cons, slice_get-get_or, pow_pos, cases_lt, cases_Bool, LeafType, is_signed, IsIn, IsDeclared, Fields, Leaf, leaves, kinds_of, Hold, Owner, entry, image, IsLaidOut, indices, Term, leaf_cells, layout_by, holds_by, IsTooBigFor, bits_of, bit_in, AreLaid, HasShape, hold_at, with_entry, zeros, table_shape, tables_same, zeros_shape, zeros_entry, blob_is, zeros_read, bit_in_lt, hold_widths, declared, declared_same, StoreMode, Strict, declared_table, Stays, IsSettled, declared_shape, declared_entry, declared_with_entry, fitting_settled, same_sign, strict_entry, image_of_table, settled_after, kind_at, Fits, AllStay, IsKept, raw_under, table_under}

-- as many types as leaves
pub kind_count : (fields : Fields) → length (kinds_of fields) ≡ length (leaves fields)
kind_count fields = length-map (leaves fields) (λ (leaf : Leaf). leaf.kind)

-- blobs of a layout's lengths have as many bytes as it has bits, by 8
sum_lengths : (layout : List (List Owner)) (blobs : List (List ℕ)) → length blobs ≡ length layout →
    ((b : ℕ) → b < length layout → 8 * length (get_or blobs b []) ≡ length (get_or layout b [])) →
    8 * sum_by (length {A = ℕ}) blobs ≡ sum_by (length {A = Owner}) layout
sum_lengths [] [] count each = omega arith
sum_lengths [] (blob ∷ blobs) count each = absurd (omega arith)
sum_lengths (owners ∷ layout) [] count each = absurd (omega arith)
sum_lengths (owners ∷ layout) (blob ∷ blobs) count each =
    let first : 8 * length blob ≡ length owners = each 0 (omega arith) in
    let rest : 8 * sum_by (length {A = ℕ}) blobs ≡ sum_by (length {A = Owner}) layout = sum_lengths layout blobs (omega arith) (λ b l. each (suc b) (omega arith)) in
    omega (arith, sum_by-cons (length {A = ℕ}) blob blobs, sum_by-cons (length {A = Owner}) owners layout)

-- a hold of a layout that keeps the laws has a bit at least
pub some_width : (layout : List (List Owner)) (slots : ℕ) (holds : List Hold) → IsLaidOut layout slots (map (λ (h : Hold). h.width) holds) → (leaf : ℕ) → leaf < length holds → 1 ≤ (hold_at holds leaf).width
some_width layout slots holds lawful leaf l =
    (hold_widths layout slots holds lawful leaf (hold_at holds leaf) l (slice_get-get_or holds leaf (record { signed = false; width = 0 }) l)).0

module _ {mode : StoreMode} {term : Term} {extents : List ℕ} {fields : Fields} {blobs : List (List ℕ)} (kept : IsKept mode term extents fields blobs) where
  pub raw_shape : HasShape (length (indices extents)) (length (kinds_of fields)) (raw_under term extents fields blobs)
  raw_shape =
      let shape = table_shape (layout_by term extents fields) (length (indices extents)) (holds_by term fields) (bit_in blobs) in
      record { row_count = shape.row_count; leaf_count = λ row l. shape.leaf_count row l ∙ kept.paired }

  -- the table has a row for each index and in it a number for each leaf
  shaped : HasShape (length (indices extents)) (length (kinds_of fields)) (table_under term extents fields blobs)
  shaped = declared_shape (length (indices extents)) (kinds_of fields) (raw_under term extents fields blobs) raw_shape

  pub row_count : length (table_under term extents fields blobs) ≡ length (indices extents)
  row_count = shaped.row_count

  pub kept_shape : (leaves : ℕ) → length (kinds_of fields) ≡ leaves → HasShape (length (table_under term extents fields blobs)) leaves (table_under term extents fields blobs)
  kept_shape leaves same = record { row_count = refl; leaf_count = λ row l. shaped.leaf_count row (omega (arith, row_count)) ∙ same }

  -- an entry is its raw number, brought into the range of its leaf
  pub entry_is_declared : (row leaf : ℕ) → row < length (indices extents) → leaf < length (kinds_of fields) →
      entry (table_under term extents fields blobs) row leaf ≡ declared (kind_at (kinds_of fields) leaf) (entry (raw_under term extents fields blobs) row leaf)
  entry_is_declared row leaf l m = declared_entry (length (indices extents)) (kinds_of fields) (raw_under term extents fields blobs) raw_shape row leaf l m

  pub hold_some : (leaf : ℕ) → leaf < length (kinds_of fields) → 1 ≤ (hold_at (holds_by term fields) leaf).width
  hold_some leaf m = some_width (layout_by term extents fields) (length (indices extents)) (holds_by term fields) kept.lawful leaf (omega (arith, m, kept.paired))

  -- it stays
  pub entry_stays : (row leaf : ℕ) → row < length (indices extents) → leaf < length (kinds_of fields) →
      Stays mode (kind_at (kinds_of fields) leaf) (hold_at (holds_by term fields) leaf) (entry (table_under term extents fields blobs) row leaf)
  entry_stays row leaf l m = grind (arith, entry_is_declared)

  -- the bytes of all blobs
  pub byte_count : 8 * sum_by (length {A = ℕ}) blobs ≡ sum_by (length {A = Owner}) (layout_by term extents fields)
  byte_count = sum_lengths (layout_by term extents fields) blobs kept.laid.sized.count kept.laid.sized.lengths

  pub few_bytes : sum_by (length {A = ℕ}) blobs ≤ 2 ^ 28
  few_bytes =
      ⊎_elim (λ (many : 8 * 2 ^ 28 < sum_by (length {A = Owner}) (layout_by term extents fields)). absurd (kept.within (inr many)))
      (λ (few : sum_by (length {A = Owner}) (layout_by term extents fields) ≤ 8 * 2 ^ 28). omega (arith, byte_count))
      (cases_lt (8 * 2 ^ 28) (sum_by (length {A = Owner}) (layout_by term extents fields)))

  -- a blob has the bits of the image
  pub kept_blob : (b : ℕ) → b < length (layout_by term extents fields) →
      bits_of (get_or blobs b []) ≡ get_or (image (layout_by term extents fields) (table_under term extents fields blobs)) b []
  kept_blob b l =
      blob_is (layout_by term extents fields) (table_under term extents fields blobs) blobs b l (kept.laid.sized.lengths b l)
      (image_of_table mode (layout_by term extents fields) (length (indices extents)) (kinds_of fields) (holds_by term fields) kept.lawful kept.paired (bit_in blobs) (bit_in_lt blobs)
      kept.laid.padded.padding kept.settled)

  -- where the leaf is stored in the sign of its type, or each entry fits, an entry is its raw number
  pub sign_entry : (row leaf : ℕ) → row < length (indices extents) → leaf < length (kinds_of fields)
      → (hold_at (holds_by term fields) leaf).signed ≡ is_signed (kind_at (kinds_of fields) leaf)
      → entry (table_under term extents fields blobs) row leaf ≡ entry (raw_under term extents fields blobs) row leaf
  sign_entry row leaf l m sign =
      entry_is_declared row leaf l m
      ∙ same_sign mode (kind_at (kinds_of fields) leaf) (hold_at (holds_by term fields) leaf) (entry (raw_under term extents fields blobs) row leaf) (hold_some leaf m) sign (kept.settled row leaf l m)

  pub strict_raw : mode ≡ Strict → (row leaf : ℕ) → row < length (indices extents) → leaf < length (kinds_of fields)
      → entry (table_under term extents fields blobs) row leaf ≡ entry (raw_under term extents fields blobs) row leaf
  strict_raw strict row leaf l m =
      let kind = kind_at (kinds_of fields) leaf in
      let hold = hold_at (holds_by term fields) leaf in
      let raw = entry (raw_under term extents fields blobs) row leaf in
      entry_is_declared row leaf l m
      ∙ strict_entry kind hold raw (hold_some leaf m) (subst (λ (w : StoreMode). IsSettled w kind hold raw) strict (kept.settled row leaf l m))

  pub kept_stays : AllStay mode (length (table_under term extents fields blobs)) (kinds_of fields) (holds_by term fields) (table_under term extents fields blobs)
  kept_stays = λ row leaf l m. entry_stays row leaf (omega (arith, row_count)) m

  -- one raw number is written that is settled
  module _ (new : List (List ℕ)) (row leaf : ℕ) (raw : ℤ) (row_in : row < length (indices extents)) (leaf_in : leaf < length (kinds_of fields))
      (is : raw_under term extents fields new ≡ with_entry (raw_under term extents fields blobs) row leaf raw) where
    pub kept_set : IsSettled mode (kind_at (kinds_of fields) leaf) (hold_at (holds_by term fields) leaf) raw → AreLaid (layout_by term extents fields) new → IsKept mode term extents fields new
    kept_set settled laid = record {
      lawful = kept.lawful;
      paired = kept.paired;
      within = kept.within;
      laid = laid;
      settled = settled_after mode (layout_by term extents fields) (length (indices extents)) (kinds_of fields) (holds_by term fields) kept.lawful kept.paired
          (raw_under term extents fields blobs) (raw_under term extents fields new) raw_shape kept.settled row leaf (declared (kind_at (kinds_of fields) leaf) raw) row_in leaf_in
          settled.stays (is ∙ ap (with_entry (raw_under term extents fields blobs) row leaf) settled.image);
    }

    pub table_set : table_under term extents fields new ≡ with_entry (table_under term extents fields blobs) row leaf (declared (kind_at (kinds_of fields) leaf) raw)
    table_set =
        ap (declared_table (kinds_of fields)) is
        ∙ declared_with_entry (length (indices extents)) (kinds_of fields) (raw_under term extents fields blobs) raw_shape row leaf raw row_in leaf_in

-- the first blobs of a layout, all zeros
pub record AreFresh (layout : List (List Owner)) (count : ℕ) (blobs : List (List ℕ)) : Type 0 where
  pub size : length blobs ≡ count
  pub lengths : (b : ℕ) → b < count → 8 * length (get_or blobs b []) ≡ length (get_or layout b [])
  pub zero : (b p : ℕ) → bit_in blobs b p ≡ 0

-- 0 fits every leaf
zero_held : (hold : Hold) → 1 ≤ hold.width → IsIn hold.signed hold.width (pos 0)
zero_held hold some = grind (arith, pow_pos, cases_Bool)

zero_declared : (kind : LeafType) → IsDeclared kind (pos 0)
zero_declared kind = grind arith

-- blobs of zeros are kept, and hold zeros
module _ (term : Term) (extents : List ℕ) (fields : Fields) (blobs : List (List ℕ))
    (lawful : IsLaidOut (layout_by term extents fields) (length (indices extents)) (map (λ (h : Hold). h.width) (holds_by term fields)))
    (paired : length (holds_by term fields) ≡ length (kinds_of fields)) (within : IsTooBigFor term extents fields (leaf_cells (kinds_of fields)) → ⊥)
    (laid : AreLaid (layout_by term extents fields) blobs) (none : (b p : ℕ) → bit_in blobs b p ≡ 0) where
  raw_zeros : raw_under term extents fields blobs ≡ zeros (length (indices extents)) (length (holds_by term fields))
  raw_zeros = zeros_read (layout_by term extents fields) (length (indices extents)) (holds_by term fields) (bit_in blobs) none

  zero_some : (leaf : ℕ) → leaf < length (kinds_of fields) → 1 ≤ (hold_at (holds_by term fields) leaf).width
  zero_some leaf m = some_width (layout_by term extents fields) (length (indices extents)) (holds_by term fields) lawful leaf (omega (arith, m, paired))

  -- a raw number is 0, which stands for itself
  zero_raw : (row leaf : ℕ) → row < length (indices extents) → leaf < length (kinds_of fields) → entry (raw_under term extents fields blobs) row leaf ≡ pos 0
  zero_raw row leaf l m = grind (arith, raw_zeros, zeros_entry)

  zero_fits : (leaf : ℕ) → leaf < length (kinds_of fields) → Fits (kind_at (kinds_of fields) leaf) (hold_at (holds_by term fields) leaf) (pos 0)
  zero_fits leaf m = record { declared = zero_declared (kind_at (kinds_of fields) leaf); held = zero_held (hold_at (holds_by term fields) leaf) (zero_some leaf m) }

  pub kept_zeros : (mode : StoreMode) → IsKept mode term extents fields blobs
  kept_zeros mode = record {
    lawful = lawful;
    paired = paired;
    within = within;
    laid = laid;
    settled = λ row leaf l m.
        subst (λ (v : ℤ). IsSettled mode (kind_at (kinds_of fields) leaf) (hold_at (holds_by term fields) leaf) v) (sym (zero_raw row leaf l m))
        (fitting_settled mode (kind_at (kinds_of fields) leaf) (hold_at (holds_by term fields) leaf) (pos 0) (zero_some leaf m) (zero_fits leaf m));
  }

  pub zero_table : table_under term extents fields blobs ≡ zeros (length (indices extents)) (length (holds_by term fields))
  zero_table =
      let rows : ℕ = length (indices extents) in
      let shape : HasShape rows (length (kinds_of fields)) (zeros rows (length (kinds_of fields))) = zeros_shape rows (length (kinds_of fields)) in
      tables_same rows (length (kinds_of fields)) (table_under term extents fields blobs) (zeros rows (length (kinds_of fields)))
      (declared_shape rows (kinds_of fields) (raw_under term extents fields blobs) (raw_shape (kept_zeros Strict))) shape
      (λ row leaf l m.
      entry_is_declared (kept_zeros Strict) row leaf l m ∙ ap (declared (kind_at (kinds_of fields) leaf)) (zero_raw row leaf l m)
      ∙ declared_same (kind_at (kinds_of fields) leaf) (pos 0) (zero_declared (kind_at (kinds_of fields) leaf)) ∙ sym (zeros_entry rows (length (kinds_of fields)) row leaf l m))
      ∙ ap (zeros rows) (sym paired)
