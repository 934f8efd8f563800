-- The laws of blob files.
use Rattle.std.specs.Prelude.{ℕ, ◌≡◌, ◌<◌, ◌≤◌, ◌↔◌, ℤ, List, length, Ok}
use Rattle.blob_file.specs.Imports.{kinds_of, holds_by, hold_at, joined, Table}
use Rattle.blob_file.specs.Files.{Header, AreRows, IsFile, image_bytes}
use Rattle.blob_file.specs.Headers.{IsTyped, HasLines, CanLie}
use Rattle.blob_file.specs.Opened.{Saved, opened, rows_in, with_body}
use Rattle.blob_file.specs.Saving.{blobs_of, header_of}

-- no bytes are the files of two headers, nor of one with two lists of blobs. A header that is not what its types say is none: a `name` of
-- the bytes `a:u8, b` could stand for two fields.
abbrev pub OneFile : Type 0
OneFile =
    (bytes : List ℕ) (one other : Header) (blobs others : List (List ℕ)) → IsFile bytes one blobs → IsFile bytes other others
    → IsTyped one → IsTyped other → (one ≡ other) × (blobs ≡ others)

-- what is opened of bytes is that of which they are the file, where a view can be made with its header
abbrev pub OpensFiles : Type 0
OpensFiles =
    (bytes : List ℕ) (saved : Saved) → (opened bytes ≡ Ok saved) ↔ (IsFile bytes saved.header saved.blobs × HasLines saved.header × CanLie saved.header)

-- the blobs in which rows lie that a view of a header may hold stand for these rows
abbrev pub HoldsRows : Type 0
HoldsRows = (header : Header) (rows : List (List ℤ)) → HasLines header → CanLie header → AreRows header rows → rows_in header (image_bytes header rows) ≡ rows

-- a view of such a header stores each leaf in a bit at least
abbrev pub HoldsBits : Type 0
HoldsBits =
    (header : Header) (leaf : ℕ) → HasLines header → CanLie header → leaf < length (kinds_of header.fields) → 1 ≤ (hold_at (holds_by header.mapping header.fields) leaf).width

-- the bytes of the blobs of a table, one behind another, are read back as its rows
abbrev pub ReadsBack : Table → Type 0
ReadsBack table =
    (with_body (header_of table) (joined (blobs_of table)) ≡ Ok (record { header = header_of table; blobs = blobs_of table }))
    × (rows_in (header_of table) (blobs_of table) ≡ table.rows)
