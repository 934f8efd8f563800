-- What a savable table saves is opened as the table.
use Rattle.saved_runs.proofs.Imports.{◌≡◌, ℕ, ◌+◌, ◌*◌, ◌/◌, ◌^◌, ◌<◌, ◌≤◌, false, ℤ, List, [], ◌∷◌, ◌++◌, length, map, nat_lt, Some, Ok, inl, inr, refl, sym, ap, ◌∙◌, subst, length-append, arith, ◌||◌, is_some, sum_by, le-ltb, lt-leb, ltb-false, or_parts, length-map, sum_by-cons, File, file_named, Owner, bit_held, image, bytes_of, length-bytes_of, Open, Table, owners_of, Header, header_text, IsShort, CanLie, Saved, opened, table_of_saved, rows_in, header_of, blobs_of, OpensFiles, HoldsRows, World, quiet, blob_bits, with_view, save, open_view, opened_table, opened_beside, step, IsSavable, once_written, OpensAs, sure, Told, HasRoom}
use Rattle.layout_io.specs.Prelude.{joined}
use Rattle.blob_file.specs.Files as saved_file
use Rattle.saved_runs.proofs.Went.{went, unrefused, same_given}

-- ---- the file of a table

-- neither text of what is not long is
both_short : (first second : ℕ) → (nat_lt 4096 first || nat_lt 4096 second) ≡ false → (first ≤ 4096) × (second ≤ 4096)
both_short first second is =
    let parts = or_parts (nat_lt 4096 first) (nat_lt 4096 second) is in (ltb-false 4096 first parts.0, ltb-false 4096 second parts.1)

-- a table that saves has short texts, and what it saves is its file
record WasSaved (table : Table) (text : List ℕ) : Type 0 where
  short : IsShort (header_of table)
  is : text ≡ saved_file.file_of (header_of table) (blobs_of table)

was_saved : (table : Table) (done : Told) → save table ≡ Ok done → WasSaved table done.text
unfolding save
was_saved table done goes = grind (arith, went, both_short, unrefused, same_given)

-- ---- a file is not too long to be opened

image_length : (layout : List (List Owner)) (rows : List (List ℤ)) → 8 * length (joined (map bytes_of (image layout rows))) ≤ sum_by (length {A = Owner}) layout
image_length [] rows = omega arith
image_length (owners ∷ layout) rows =
    let blob : List ℕ = bytes_of (map (bit_held rows) owners) in
    let rest : List ℕ = joined (map bytes_of (image layout rows)) in
    let here : length blob ≡ length owners / 8 =
    length-bytes_of (map (bit_held rows) owners) ∙ ap (λ (n : ℕ). n / 8) (length-map owners (bit_held rows)) in
    let below : 8 * length rest ≤ sum_by (length {A = Owner}) layout = image_length layout rows in
    let all : length (blob ++ rest) ≡ length blob + length rest = length-append blob rest in
    let step : 8 * length (blob ++ rest) ≤ length owners + sum_by (length {A = Owner}) layout = omega (arith, here, below, all) in
    subst (λ (n : ℕ). 8 * length (blob ++ rest) ≤ n) (sym (sum_by-cons (length {A = Owner}) owners layout)) step

header_length : (header : Header) → IsShort header → length (header_text header) ≤ 8194
header_length header short = grind (arith, length-append)

file_length : (header : Header) (blobs : List (List ℕ)) → length (saved_file.file_of header blobs) ≡ 12 + (length (header_text header) + length (joined blobs))
unfolding saved_file.file_of
file_length header blobs = grind (arith, length-append)

saved_length : (table : Table) → IsShort (header_of table) → CanLie (header_of table) → length (saved_file.file_of (header_of table) (blobs_of table)) ≤ 2 ^ 28 + 8206
saved_length table short lies =
    let bits : blob_bits table ≤ 8 * 2 ^ 28 = bits_within (blob_bits table) (8 * 2 ^ 28) (λ over. lies.within (inl (inr over))) in
    omega (arith, file_length (header_of table) (blobs_of table), header_length (header_of table) short, image_length (owners_of table) table.rows, bits)
  where
    bits_within : (a b : ℕ) → (b < a → ⊥) → a ≤ b
    bits_within a b within = omega arith

-- ---- what is opened where there is room

opens_there : (world : World) (name file : List ℕ) (files : List File) (bytes : List ℕ) (saved : Saved) → opened bytes ≡ Ok saved → length bytes ≤ 2 ^ 28 + 8206
    → HasRoom world name (table_of_saved saved) → file_named files file ≡ Some bytes → step world (Open name file) files false ≡ sure (quiet (with_view world name (table_of_saved saved)))
unfolding step open_view opened_table opened_beside
opens_there world name file files bytes saved opens short has is = grind (arith, is_some, lt-leb, nat_lt, le-ltb)

module _ (opens_files : OpensFiles) (holds_rows : HoldsRows) (table : Table) (done : Told) (can : IsSavable table) (goes : save table ≡ Ok done) where
  abbrev header : Header
  header = header_of table

  abbrev saved : Saved
  saved = record { header = header; blobs = blobs_of table }

  was : WasSaved table done.text
  was = was_saved table done goes

  saved_opened : opened done.text ≡ Ok saved
  saved_opened = (opens_files done.text saved).1 (record { is = was.is; short = was.short; rows = table.rows; are_rows = can.rows; image_is = refl }, can.lines, can.lies)

  -- the rows are the same, and each value is written once
  same_rows : rows_in header (blobs_of table) ≡ table.rows
  same_rows = holds_rows header table.rows can.lines can.lies can.rows

  same_table : table_of_saved saved ≡ once_written table
  same_table = grind (arith, same_rows)

  pub saved_opens : OpensAs done.text (once_written table)
  saved_opens = record {
    saved = saved;
    opens = saved_opened;
    is = same_table;
    goes = λ world name file files has is.
        let short : length done.text ≤ 2 ^ 28 + 8206 = subst (λ (text : List ℕ). length text ≤ 2 ^ 28 + 8206) (sym was.is) (saved_length table was.short can.lies) in
        subst (λ (t : Table). step world (Open name file) files false ≡ sure (quiet (with_view world name t))) same_table
        (opens_there world name file files done.text saved saved_opened short (subst (HasRoom world name) (sym same_table) has) is);
  }
