-- What a view saves as is a file.
use Rattle.blob_file.proofs.Imports.{◌≡◌, ℕ, ◌+◌, ◌*◌, ◌%◌, List, ◌++◌, All, length, ap, ◌∙◌, append_assoc, length-append, arith, sum_by, Owner, joined, Table, owners_of, blob_lengths, magic, four_bytes, record_text, view_text, header_text, file_of, header_of, blobs_of, head_of}
use Rattle.blob_file.proofs.Cuts.{total, total_bits, length-joined}
use Rattle.blob_file.proofs.OneFile.{lengths_of_image}

-- the parts that are written are the file
pub file_text : (table : Table) (first second : List ℕ) → first ≡ record_text (header_of table) → second ≡ view_text (header_of table) →
    head_of first second ++ joined (blobs_of table) ≡ file_of (header_of table) (blobs_of table)
unfolding file_of
file_text table first second one two = grind (arith, append_assoc)

-- how long it is
pub file_length : (table : Table) → All (λ (blob : List Owner). length blob % 8 ≡ 0) (owners_of table) → (lines bytes : ℕ) → lines ≡ length (header_text (header_of table))
    → 8 * bytes ≡ sum_by (length {A = Owner}) (owners_of table) → 12 + lines + bytes ≡ length (file_of (header_of table) (blobs_of table))
unfolding file_of
file_length table whole lines bytes is sum =
    let header = header_text (header_of table) in
    let size = four_bytes (length header) in
    let body = joined (blobs_of table) in
    let long : length body ≡ total (blob_lengths (owners_of table)) = length-joined (blobs_of table) ∙ ap total (lengths_of_image (header_of table) table.rows) in
    omega (arith, is, sum, long, total_bits (owners_of table) whole, length-append magic (size ++ (header ++ body)), length-append size (header ++ body), length-append header body)
