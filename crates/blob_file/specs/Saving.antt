-- What a view saves as, and what the call that saves it leaves in a sink.
use Rattle.std.specs.Prelude.{ℕ, ◌≡◌, List, [], ◌∷◌, ◌++◌, length, Option, Result, Ok, Err}
use Rattle.blob_file.specs.Imports.{Wrote, Stopped, Table}
use Rattle.blob_file.specs.Files.{Header, magic, four_bytes, two_lines, IsShort, file_of, image_bytes}
use Rattle.blob_file.specs.declared.fault.SaveEnd.{SaveEnd}
use Rattle.blob_file.specs.declared.fault.SaveEnd.TheVariants.{TooBig, Failed, NoMemory}

-- the header of a table, and the bytes of its blobs
abbrev pub header_of : Table → Header
header_of table = record { fields = table.fields; extents = table.extents; mode = table.mode; mapping = table.mapping }

abbrev pub blobs_of : Table → List (List ℕ)
blobs_of table = image_bytes (header_of table) table.rows

-- what stands before the bytes of the blobs, as it is put part by part
abbrev pub head_of : List ℕ → List ℕ → List ℕ
head_of first second = ((magic ++ four_bytes (length (two_lines first second))) ++ (first ++ 10 ∷ [])) ++ (second ++ 10 ∷ [])

-- the sink took the whole file, or a proper prefix of it where a write failed; a text that is too long, and want of memory, leave it as it
-- was
abbrev pub IsSaved : {K : Type 0} → (K → Option (List ℕ)) → (K → ℕ) → K → K → Header → List (List ℕ) → Result Unit SaveEnd → Type 0
IsSaved taken faults old new header blobs (Ok done) = IsShort header × Wrote taken faults old new (file_of header blobs)
IsSaved taken faults old new header blobs (Err TooBig) = (IsShort header → ⊥) × (new ≡ old)
IsSaved taken faults old new header blobs (Err Failed) = IsShort header × Stopped taken faults old new (file_of header blobs)
IsSaved taken faults old new header blobs (Err NoMemory) = new ≡ old
