-- Blobs are the contents of a header exactly where they are the image of rows that it may hold.
use Rattle.blob_file.proofs.Imports.{◌≡◌, Bool, true, false, ℕ, zero, suc, ◌+◌, ◌<◌, ◌≤◌, ℤ, pos, List, [], ◌∷◌, length, get_or, map, Ok, Err, is_ok, refl, sym, ◌∙◌, subst, arith, nat_eq, if◌then◌else◌, Decides, list_all, pointwise, and_parts, and_from, Decides-eqb, length-map, slice_eq-Decides, LeafType, IsIn, Leaf, leaves, kinds_of, Hold, IsLaidOut, width_at, entry, IsImage, holds_by, bit_in, HasShape, hold_at, table_shape, entry_in, bit_in_lt, declared, held, low_same, declared_same, kept_declared, StoreMode, kind_at, Stays, fitting_held, declared_shape, declared_entry, image_raw, image_table, Range, Narrow, StoreAnswer, store_answer, stored_fits, fitting_stored, Header, owners_by, image_bytes, AreRows, raw_in, rows_in, answer_by, are_taken, all_taken, are_contents, leaf_count, row_count}
use Rattle.blob_file.proofs.ImageBits.{bytes_image}

-- ---- tests of rows

-- the test of a row, by its leaves
row_taken : (answer : StoreAnswer) (first leaf : ℕ) (values : List ℤ) → leaf < length values → are_taken answer first values ≡ true → is_ok (answer (first + leaf) (get_or values leaf (pos 0))) ≡ true
row_taken answer first leaf [] inside all = absurd (omega (arith, inside))
row_taken answer first zero (value ∷ values) inside all = grind (arith, and_parts, is_ok)
row_taken answer first (suc leaf) (value ∷ values) inside all =
    grind (arith, and_parts, is_ok, (row_taken answer (first + 1) leaf values (omega (arith, inside)) (and_parts (is_ok (answer first value)) (are_taken answer (first + 1) values) all).1))

taken_row : (answer : StoreAnswer) (first : ℕ) (values : List ℤ) → ((leaf : ℕ) → leaf < length values → is_ok (answer (first + leaf) (get_or values leaf (pos 0))) ≡ true) → are_taken answer first values ≡ true
taken_row answer first [] each = refl
taken_row answer first (value ∷ values) each =
    let here : first + 0 ≡ first = omega arith in
    and_from (is_ok (answer first value)) (are_taken answer (first + 1) values)
    (subst (λ (n : ℕ). is_ok (answer n value) ≡ true) here (each 0 (omega arith)))
    (taken_row answer (first + 1) values (λ leaf l.
    (let next : first + suc leaf ≡ first + 1 + leaf = omega arith in
    subst (λ (n : ℕ). is_ok (answer n (get_or values leaf (pos 0))) ≡ true) next (each (suc leaf) (omega (arith, l))))))

-- and of all rows
pub each_taken : (answer : StoreAnswer) (rows : List (List ℤ)) → all_taken answer rows ≡ true → (row leaf : ℕ) → row < length rows → leaf < length (get_or rows row []) → is_ok (answer leaf (entry rows row leaf)) ≡ true
each_taken answer [] all row leaf row_in leaf_in = absurd (omega (arith, row_in))
each_taken answer (values ∷ rows) all zero leaf row_in leaf_in =
    let here : 0 + leaf ≡ leaf = omega arith in grind (arith, is_ok, row_taken, and_parts, list_all)
each_taken answer (values ∷ rows) all (suc row) leaf row_in leaf_in =
    each_taken answer rows (and_parts (are_taken answer 0 values) (list_all (are_taken answer 0) rows) all).1 row leaf (omega (arith, row_in)) leaf_in

pub taken_each : (answer : StoreAnswer) (rows : List (List ℤ)) → ((row leaf : ℕ) → row < length rows → leaf < length (get_or rows row []) → is_ok (answer leaf (entry rows row leaf)) ≡ true) → all_taken answer rows ≡ true
taken_each answer [] each = refl
taken_each answer (values ∷ rows) each =
    and_from (are_taken answer 0 values) (list_all (are_taken answer 0) rows)
    (taken_row answer 0 values (λ leaf l.
    (let here : 0 + leaf ≡ leaf = omega arith in
    subst (λ (n : ℕ). is_ok (answer n (get_or values leaf (pos 0))) ≡ true) (sym here) (each 0 leaf (omega arith) l))))
    (taken_each answer rows (λ row leaf l m. each (suc row) leaf (omega (arith, l)) m))

-- ---- one number

-- a strict view keeps what it takes as it is
pub ok_itself : (declared held : Bool) (value : ℤ) → is_ok (if declared then (if held then Ok value else Err Narrow) else Err Range) ≡ true → (if declared then (if held then Ok value else Err Narrow) else Err Range) ≡ Ok value
ok_itself declared held value ok = grind arith

-- a raw number in the range of its hold that is taken stands for one that stays
pub taken_stays : (mode : StoreMode) (kind : LeafType) (hold : Hold) (raw : ℤ) → 1 ≤ hold.width → IsIn hold.signed hold.width raw → is_ok (store_answer mode kind hold raw) ≡ true →
    Stays mode kind hold (declared kind raw)
taken_stays mode kind hold raw some inside taken = grind (arith, ok_itself, stored_fits, declared_same, kept_declared, low_same)

-- what the image of a number says that stays is taken
pub stays_taken : (mode : StoreMode) (kind : LeafType) (hold : Hold) (value : ℤ) → 1 ≤ hold.width → Stays mode kind hold value → is_ok (store_answer mode kind hold (held hold value)) ≡ true
stays_taken mode kind hold value some stays = grind (arith, fitting_held, is_ok, fitting_stored)

-- ---- the contents

pub same_blobs-Decides : (blobs others : List (List ℕ)) → Decides (pointwise (pointwise nat_eq) blobs others) (blobs ≡ others)
same_blobs-Decides blobs others = grind (arith, slice_eq-Decides, nat_eq, Decides-eqb)

-- a header whose layout keeps the laws of layouts, and which has a hold for each leaf
module _ (header : Header) (laid : IsLaidOut (owners_by header) (row_count header) (map (λ (h : Hold). h.width) (holds_by header.mapping header.fields)))
    (paired : length (holds_by header.mapping header.fields) ≡ length (kinds_of header.fields)) where
  abbrev kinds : List LeafType
  kinds = kinds_of header.fields

  abbrev holds : List Hold
  holds = holds_by header.mapping header.fields

  pub same_count : length kinds ≡ leaf_count header
  same_count = length-map (leaves header.fields) (λ (leaf : Leaf). leaf.kind)

  pub some_bits : (leaf : ℕ) → leaf < length kinds → 1 ≤ (hold_at holds leaf).width
  some_bits leaf l =
      let d : Hold = record { signed = false; width = 0 } in
      let in_holds : leaf < length holds = omega (arith, l, paired) in
      let inside : leaf < length (map (λ (h : Hold). h.width) holds) = omega (arith, in_holds, length-map holds (λ (h : Hold). h.width)) in
      omega (arith, laid.wide leaf 0 inside, width_at holds leaf d in_holds)

  module _ (blobs : List (List ℕ)) where
    abbrev raw : List (List ℤ)
    raw = raw_in header blobs

    pub raw_shape : HasShape (row_count header) (length kinds) raw
    raw_shape =
        let shape = table_shape (owners_by header) (row_count header) (holds_by header.mapping header.fields) (bit_in blobs) in
        record { row_count = shape.row_count; leaf_count = λ row l. shape.leaf_count row l ∙ paired }

    pub raw_range : (row leaf : ℕ) → row < row_count header → leaf < length kinds → IsIn (hold_at holds leaf).signed (hold_at holds leaf).width (entry raw row leaf)
    raw_range row leaf l m =
        entry_in (owners_by header) (row_count header) (holds_by header.mapping header.fields) laid (bit_in blobs) row leaf (record { signed = false; width = 0 }) (bit_in_lt blobs) l (omega (arith, m, paired))

    -- what is opened is rows that stay, and the blobs are their image
    module _ (all : all_taken (answer_by header) (raw_in header blobs) ≡ true) where
      rows_stay : AreRows header (rows_in header blobs)
      rows_stay =
          let shape = declared_shape (row_count header) (kinds_of header.fields) (raw_in header blobs) raw_shape in
          record {
            shape = record { row_count = shape.row_count; leaf_count = λ row l. shape.leaf_count row l ∙ same_count };
            stays = λ row leaf l m.
                (let kind = kind_at (kinds_of header.fields) leaf in
                let hold = hold_at (holds_by header.mapping header.fields) leaf in
                let long : row < length (raw_in header blobs) = omega (arith, l, raw_shape.row_count) in
                let wide : leaf < length (get_or (raw_in header blobs) row []) = omega (arith, m, raw_shape.leaf_count row l) in
                subst (λ (v : ℤ). Stays header.mode kind hold v) (sym (declared_entry (row_count header) (kinds_of header.fields) (raw_in header blobs) raw_shape row leaf l m))
                (taken_stays header.mode kind hold (entry (raw_in header blobs) row leaf) (some_bits leaf m) (raw_range row leaf l m)
                (each_taken (answer_by header) (raw_in header blobs) all row leaf long wide)));
          }

    pub contents_rows : are_contents header blobs ≡ true → AreRows header (rows_in header blobs) × (blobs ≡ image_bytes header (rows_in header blobs))
    unfolding are_contents
    contents_rows are = grind (arith, and_parts, nat_eq, rows_stay, same_blobs-Decides)

    -- the image of rows that stay is opened as these rows
    module _ (rows : List (List ℤ)) (are : AreRows header rows) (is : blobs ≡ image_bytes header rows) where
      image_is : IsImage (owners_by header) rows (bit_in blobs)
      image_is = subst (λ (b : List (List ℕ)). IsImage (owners_by header) rows (bit_in b)) (sym is) (bytes_image (owners_by header) rows laid.whole_bytes)

      shaped : HasShape (row_count header) (length kinds) rows
      shaped = record { row_count = are.shape.row_count; leaf_count = λ row l. are.shape.leaf_count row l ∙ sym same_count }

      pub same_rows : rows_in header blobs ≡ rows
      same_rows =
          image_table (owners_by header) (row_count header) (holds_by header.mapping header.fields) laid rows (bit_in blobs) image_is header.mode (kinds_of header.fields) paired shaped
          (λ row leaf l m. (some_bits leaf m, are.stays row leaf l m))

      all_are : all_taken (answer_by header) (raw_in header blobs) ≡ true
      all_are =
          taken_each (answer_by header) (raw_in header blobs) (λ row leaf l m.
          (let row_in : row < row_count header = omega (arith, l, raw_shape.row_count) in
          let leaf_in : leaf < length (kinds_of header.fields) = omega (arith, m, raw_shape.leaf_count row row_in) in
          let kind = kind_at (kinds_of header.fields) leaf in
          let hold = hold_at (holds_by header.mapping header.fields) leaf in
          let number : entry (raw_in header blobs) row leaf ≡ held hold (entry rows row leaf) =
          image_raw (owners_by header) (row_count header) (holds_by header.mapping header.fields) laid rows (bit_in blobs) image_is row leaf row_in (omega (arith, leaf_in, paired)) in
          subst (λ (v : ℤ). is_ok (answer_by header leaf v) ≡ true) (sym number) (stays_taken header.mode kind hold (entry rows row leaf) (some_bits leaf leaf_in) (are.stays row leaf row_in leaf_in))))

      pub rows_contents : are_contents header blobs ≡ true
      unfolding are_contents
      rows_contents = grind (arith, and_from, nat_eq, all_are, same_blobs-Decides, same_rows)
