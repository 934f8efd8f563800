-- Blob files: which bytes are the file of a header and of blobs. Nothing here is shared with what writes and reads them.
use Rattle.std.specs.Prelude.{ℕ, ◌≡◌, ◌/◌, ◌%◌, ◌≤◌, Bool, true, false, ℤ, List, [], ◌∷◌, ◌++◌, length, map, codes}
use Rattle.blob_file.specs.Imports.{Fields, Record, leaves, kinds_of, indices, Fixed, Term, layout_by, holds_by, Owner, image, HasShape, StoreMode, Strict, Wrap, AllStay, joined, bytes_of, Sentence, Define, View, canonical}

-- what the header of a file tells: the fields of a record, the extents of an array, how a value is stored that does not fit, and how the
-- records lie
pub record Header : Type 0 where
  pub fields : Fields
  pub extents : List ℕ
  pub mode : StoreMode
  pub mapping : Term

-- `LLAMAB1` and LF
abbrev pub magic : List ℕ
magic = 76 ∷ 76 ∷ 65 ∷ 77 ∷ 65 ∷ 66 ∷ 49 ∷ 10 ∷ []

-- a number in four bytes, the least significant first
abbrev pub four_bytes : ℕ → List ℕ
four_bytes n = n % 256 ∷ n / 256 % 256 ∷ n / 65536 % 256 ∷ n / 16777216 % 256 ∷ []

-- two texts, each with LF behind it
abbrev pub two_lines : List ℕ → List ℕ → List ℕ
two_lines first second = first ++ 10 ∷ (second ++ 10 ∷ [])

-- the lines that say a header: the record `R`, and the view `V` over it
abbrev pub record_line : Header → Sentence
record_line header = Define (codes "R") (Record header.fields)

abbrev pub is_wrap : StoreMode → Bool
is_wrap Strict = false
is_wrap Wrap = true

abbrev pub view_line : Header → Sentence
view_line header = View (record { name = codes "V"; schema = codes "R"; words = map Fixed header.extents; wrap = is_wrap header.mode; term = header.mapping })

-- their canonical texts
abbrev pub record_text : Header → List ℕ
record_text header = canonical (record_line header)

abbrev pub view_text : Header → List ℕ
view_text header = canonical (view_line header)

abbrev pub header_text : Header → List ℕ
header_text header = two_lines (record_text header) (view_text header)

-- a file: the magic, the number of the header's bytes, the header, and the bytes of the blobs in order
unfoldable pub file_of : Header → List (List ℕ) → List ℕ
file_of header blobs = magic ++ (four_bytes (length (header_text header)) ++ (header_text header ++ joined blobs))

-- neither text is longer than a line of a script may be
pub record IsShort (header : Header) : Type 0 where
  pub of_record : length (record_text header) ≤ 4096
  pub of_view : length (view_text header) ≤ 4096

-- who owns each bit of the blobs, and the bytes of the blobs in which rows of numbers lie
abbrev pub owners_by : Header → List (List Owner)
owners_by header = layout_by header.mapping header.extents header.fields

abbrev pub image_bytes : Header → List (List ℤ) → List (List ℕ)
image_bytes header rows = map bytes_of (image (owners_by header) rows)

-- rows of numbers that a view of this header may hold: a row for each index, in it a number for each leaf, and each one that stays
pub record AreRows (header : Header) (rows : List (List ℤ)) : Type 0 where
  pub shape : HasShape (length (indices header.extents)) (length (leaves header.fields)) rows
  pub stays : AllStay header.mode (length (indices header.extents)) (kinds_of header.fields) (holds_by header.mapping header.fields) rows

-- the bytes are the file of a header and of blobs: its texts are short, and the blobs are the image of such rows
pub record IsFile (bytes : List ℕ) (header : Header) (blobs : List (List ℕ)) : Type 0 where
  pub is : bytes ≡ file_of header blobs
  pub short : IsShort header
  pub rows : List (List ℤ)
  pub are_rows : AreRows header rows
  pub image_is : blobs ≡ image_bytes header rows
