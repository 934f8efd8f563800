-- What is opened of a file, as a function of its bytes: a header and blobs, or the first refusal.
use Rattle.std.specs.Prelude.{ℕ, ◌≡◌, ◌⊎◌, ◌+◌, ◌*◌, ◌==◌, Bool, true, false, not, ◌&&◌, nat_eq, nat_le, if◌then◌else◌, ℤ, List, [], ◌∷◌, length, map, take, drop, sum_by, codes, Option, None, Some, option_map, Result, Ok, Err, is_ok}
use Rattle.record_dim.specs.Std.{list_any}
use Rattle.blob_file.specs.Imports.{list_all, pointwise, indices, extent_of, is_rows, Fields, Record, leaves, kinds_of, holds_by, hold_at, zeros, kind_at, StoreMode, Strict, Wrap, New, Sentence, Define, View, deepest, Two, canonical, line_of, raw_under, table_under, StoreAnswer, store_answer, Table, Write, all_accesses, tallied, no_tally, blob_lengths}
use Rattle.blob_file.specs.Files.{Header, magic, four_bytes, two_lines, owners_by, image_bytes}
use Rattle.blob_file.specs.Headers.{is_nameless, can_lie}
use Rattle.blob_file.specs.declared.fault.FileFault.{FileFault}
use Rattle.blob_file.specs.declared.fault.FileFault.TheVariants as fault

-- a header and the bytes of blobs
pub record Saved : Type 0 where
  pub header : Header
  pub blobs : List (List ℕ)

-- ---- the header

abbrev pub same_bytes : List ℕ → List ℕ → Bool
same_bytes one other = pointwise nat_eq one other

-- the bytes before the first LF, and those behind it
abbrev pub bytes_to_line_end : List ℕ → Option (List ℕ × List ℕ)
bytes_to_line_end [] = None
bytes_to_line_end (byte ∷ bytes) = if byte == 10 then Some ([], bytes) else option_map (λ found. (byte ∷ found.0, found.1)) (bytes_to_line_end bytes)

-- the line of which a text is the canonical one, within the limits on lines
abbrev pub canonical_by : List ℕ → Result Sentence ℕ → Option Sentence
canonical_by text (Err column) = None
canonical_by text (Ok sentence) = if same_bytes (canonical sentence) text && nat_le (deepest sentence) 32 then Some sentence else None

unfoldable pub line_told : List ℕ → Option Sentence
line_told text = if nat_le (length text) 4096 then canonical_by text (line_of Two text) else None

-- the fields of the record `R`
abbrev pub fields_told : Option Sentence → Option Fields
fields_told (Some (Define name (Record fields))) = if same_bytes name (codes "R") then Some fields else None
fields_told _ = None

-- what makes the view `V` over it, with numbers as extents and no name in its mapping
abbrev pub is_plain : New → Bool
is_plain new = same_bytes new.name (codes "V") && (same_bytes new.schema (codes "R") && (not (list_any is_rows new.words) && is_nameless new.term))

abbrev pub new_told : Option Sentence → Option New
new_told (Some (View new)) = if is_plain new then Some new else None
new_told _ = None

abbrev pub mode_by : Bool → StoreMode
mode_by true = Wrap
mode_by false = Strict

abbrev pub with_record : Option Fields → Option New → Option Header
with_record None new = None
with_record (Some fields) None = None
with_record (Some fields) (Some new) = Some (record { fields = fields; extents = map (extent_of 0) new.words; mode = mode_by new.wrap; mapping = new.term })

-- the header of two texts
abbrev pub header_told : List ℕ → List ℕ → Option Header
header_told first second = with_record (fields_told (line_told first)) (new_told (line_told second))

-- the header of two lines of so many bytes, and what stands behind it
abbrev pub behind_first : List ℕ → List ℕ → Option (List ℕ × List ℕ) → Option (Header × List ℕ)
behind_first size first None = None
behind_first size first (Some second) =
    if same_bytes size (four_bytes (length (two_lines first second.0))) then option_map (λ header. (header, second.1)) (header_told first second.0) else None

abbrev pub behind_size : List ℕ → Option (List ℕ × List ℕ) → Option (Header × List ℕ)
behind_size size None = None
behind_size size (Some first) = behind_first size first.0 (bytes_to_line_end first.1)

unfoldable pub header_at : List ℕ → Option (Header × List ℕ)
header_at bytes = behind_size (take 4 bytes) (bytes_to_line_end (drop 4 bytes))

-- ---- the blobs

-- bytes, cut into blobs of these lengths
abbrev pub cut : List ℕ → List ℕ → List (List ℕ)
cut [] bytes = []
cut (count ∷ counts) bytes = take count bytes ∷ cut counts (drop count bytes)

-- the raw numbers that blobs hold, and the rows that they stand for
abbrev pub raw_in : Header → List (List ℕ) → List (List ℤ)
raw_in header blobs = raw_under header.mapping header.extents header.fields blobs

abbrev pub rows_in : Header → List (List ℕ) → List (List ℤ)
rows_in header blobs = table_under header.mapping header.extents header.fields blobs

-- the answer to a store of a value in a leaf
abbrev pub answer_by : Header → StoreAnswer
answer_by header leaf value = store_answer header.mode (kind_at (kinds_of header.fields) leaf) (hold_at (holds_by header.mapping header.fields) leaf) value

-- no leaf, from this one on, refuses its value, and no leaf of some rows does
abbrev pub are_taken : StoreAnswer → ℕ → List ℤ → Bool
are_taken answer leaf [] = true
are_taken answer leaf (value ∷ values) = is_ok (answer leaf value) && are_taken answer (leaf + 1) values

abbrev pub all_taken : StoreAnswer → List (List ℤ) → Bool
all_taken answer rows = list_all (are_taken answer 0) rows

-- the blobs are the image of the rows that they stand for, and each raw number is one that its leaf takes
unfoldable pub are_contents : Header → List (List ℕ) → Bool
are_contents header blobs = all_taken (answer_by header) (raw_in header blobs) && pointwise (pointwise nat_eq) (image_bytes header (rows_in header blobs)) blobs

-- ---- the file, part by part

abbrev pub with_blobs : Header → List (List ℕ) → Result Saved FileFault
with_blobs header blobs = if are_contents header blobs then Ok (record { header = header; blobs = blobs }) else Err fault.Contents

abbrev pub with_body : Header → List ℕ → Result Saved FileFault
with_body header body =
    if 8 * length body == sum_by length (owners_by header) then with_blobs header (cut (blob_lengths (owners_by header)) body) else Err fault.Length

abbrev pub with_header : Option (Header × List ℕ) → Result Saved FileFault
with_header None = Err fault.Header
with_header (Some found) = if can_lie found.0 then with_body found.0 found.1 else Err fault.Layout

unfoldable pub opened : List ℕ → Result Saved FileFault
opened bytes = if same_bytes (take 8 bytes) magic then with_header (header_at (drop 8 bytes)) else Err fault.Magic

-- ---- the table of a file: its rows, and one write of each leaf of each row

abbrev pub row_count : Header → ℕ
row_count header = length (indices header.extents)

abbrev pub leaf_count : Header → ℕ
leaf_count header = length (leaves header.fields)

-- a table of zeros, to which there was no access
abbrev pub empty_table : Header → Table
empty_table header = record {
  fields = header.fields;
  extents = header.extents;
  mapping = header.mapping;
  mode = header.mode;
  rows = zeros (row_count header) (leaf_count header);
  tally = no_tally header.mapping (owners_by header) (leaf_count header);
}

abbrev pub table_of_saved : Saved → Table
table_of_saved saved = record {
  fields = saved.header.fields;
  extents = saved.header.extents;
  mapping = saved.header.mapping;
  mode = saved.header.mode;
  rows = rows_in saved.header saved.blobs;
  tally = tallied (owners_by saved.header) (no_tally saved.header.mapping (owners_by saved.header) (leaf_count saved.header))
      (all_accesses Write (leaf_count saved.header) (row_count saved.header));
}

-- the answer of a reader: the table of what is opened, or the same refusal; memory may run out at any time
abbrev pub IsRead : Result Saved FileFault → Result Table FileFault → Type 0
IsRead told (Ok table) = (saved : Saved) × (told ≡ Ok saved) × (table ≡ table_of_saved saved)
IsRead told (Err found) = (found ≡ fault.NoMemory) ⊎ (told ≡ Err found)

-- the same of one that makes the table in its place
abbrev pub IsReadInto : Result Saved FileFault → Table → Result Unit FileFault → Type 0
IsReadInto told table (Ok done) = IsRead told (Ok table)
IsReadInto told table (Err found) = IsRead told (Err found)
