-- A blob of a table, by its bits, and blobs in a buffer.
use Rattle.c_lines.proofs.Imports.{◌≡◌, ℕ, ◌+◌, ◌-◌, ◌<◌, ◌≤◌, nat_lt, true, List, [], ◌++◌, length, take, drop, take_at, drop_at, drop_all, drop-drop, take_rest, length-drop, append_assoc, append-nil, put_mid, joined, flat_map_push, length-flat_map-take, get_or, map, Ok, sym, ap, ◌∙◌, arith, nat_tests, length-map, get_or-map, bit_held, image, bits_of, AreBytes, bytes_of, bytes_of_bits, Table, owners_of, blob_bits_of, header_of, blobs_of, blob_told, ReadsBack, ReturnsSame, table_of_saved, ℤ, refl}

is_below : (a b : ℕ) → a < b → nat_lt a b ≡ true
is_below a b below = grind (arith, nat_tests)

pub told_blob : (table : Table) (blob : ℕ) (bytes : List ℕ) → blob < length (owners_of table) → AreBytes bytes → bits_of bytes ≡ blob_bits_of table blob →
    blob_told blob table ≡ Ok bytes
told_blob table blob bytes inside are is =
    let there : blob < length (image (owners_of table) table.rows) = omega (arith, inside, length-map (owners_of table) (map (bit_held table.rows))) in
    let saved : get_or (blobs_of table) blob [] ≡ bytes =
    get_or-map bytes_of (image (owners_of table) table.rows) blob [] [] there ∙ ap bytes_of (sym is) ∙ bytes_of_bits bytes are in
    rw (is_below blob (length (owners_of table)) inside) (ap Ok saved)

pub blob_in : (table : Table) (blob : ℕ) (bytes : List ℕ) → blob < length (owners_of table) → blob_told blob table ≡ Ok bytes → get_or (blobs_of table) blob [] ≡ bytes
blob_in table blob bytes inside told = let is : Ok (get_or (blobs_of table) blob []) ≡ Ok bytes = rw (is_below blob (length (owners_of table)) inside) at told in cc

pub blobs_count : (table : Table) → length (blobs_of table) ≡ length (owners_of table)
blobs_count table = length-map (image (owners_of table) table.rows) bytes_of ∙ length-map (owners_of table) (map (bit_held table.rows))

-- blobs that are put into a buffer one behind another, up to one of them
module _ (blobs : List (List ℕ)) (b : ℕ) (inside : b < length blobs) (old buffer bytes : List ℕ) (blob_is : get_or blobs b [] ≡ bytes) (done : ℕ) (done_is : done ≡ length (joined (take b blobs)))
    (put : buffer ≡ joined (take b blobs) ++ drop done old) where
  abbrev front : List ℕ
  front = joined (take b blobs)

  rest_is : take (length buffer - done) (drop done buffer) ≡ drop done old
  rest_is = take_rest buffer done ∙ ap (drop done) put ∙ drop_at front (drop done old) done (sym done_is)

  pub has_room : length (joined blobs) ≤ length old → length bytes ≤ length (take (length buffer - done) (drop done buffer))
  has_room fits =
      let more = length-flat_map-take (λ (blob : List ℕ). blob) blobs b [] inside in
      omega (arith, ap (length {A = ℕ}) rest_is, length-drop done old, fits, more, done_is, ap (length {A = ℕ}) blob_is)

  -- and that one
  pub one_put : (new : List ℕ) → new ≡ bytes ++ drop (length bytes) (take (length buffer - done) (drop done buffer))
      → put_mid done (length buffer - done) buffer new ≡ joined (take (b + 1) blobs) ++ drop (done + length bytes) old
  one_put new is =
      let rest = drop (done + length bytes) old in
      let before : take done buffer ≡ front = ap (take done) put ∙ take_at front (drop done old) done (sym done_is) in
      let next : new ≡ bytes ++ rest = is ∙ ap (λ (t : List ℕ). bytes ++ drop (length bytes) t) rest_is ∙ ap (λ (t : List ℕ). bytes ++ t) (drop-drop (length bytes) done old) in
      let behind : drop (length buffer - done) (drop done buffer) ≡ [] = drop_all (length buffer - done) (drop done buffer) (omega (arith, length-drop done buffer)) in
      ap (λ (t : List ℕ). t ++ (new ++ drop (length buffer - done) (drop done buffer))) before
      ∙ ap (λ (t : List ℕ). front ++ (new ++ t)) behind
      ∙ ap (λ (t : List ℕ). front ++ t) (append-nil new ∙ next)
      ∙ sym (append_assoc front bytes rest)
      ∙ ap (λ (t : List ℕ). (front ++ t) ++ rest) (sym blob_is)
      ∙ ap (λ (t : List ℕ). t ++ rest) (flat_map_push (λ (blob : List ℕ). blob) blobs b [] inside)

-- what is read back of the bytes of all blobs
pub returns_same : (table : Table) → ReadsBack table → ReturnsSame table
returns_same table back =
    let left = table_of_saved (record { header = header_of table; blobs = blobs_of table }) in
    (left, rw back.0 refl, ap (λ (rows : List (List ℤ)). record left { rows = rows }) back.1)
