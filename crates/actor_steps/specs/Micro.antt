-- What actors do to the bytes of a view in an update, one micro-step at a time.
use Rattle.std.specs.Prelude.{ℕ, ◌+◌, ◌*◌, ◌/◌, ◌==◌, Bool, true, ℤ, pos, List, [], ◌∷◌, ◌++◌, length, map, filter, take, drop, slice_index_or, slice_set, Option, Some, None, Result, Ok, Err, if◌then◌else◌}
use Rattle.actor_steps.specs.Imports.{flat_map, range_with_len, list_any, bit_at, LeafType, Term, outcome_of, is_true, EvalFault, index_at, Owner, owner_at, number, written_bit, Hold, table_in, declared_table, Keeping, Setting}
pub use Rattle.places.specs.Prelude.{is_bit_of}
pub use Rattle.actor_steps.specs.declared.place.Place.{Place}

-- the byte at a place; outside of the blobs it is 0
abbrev pub byte_at : List (List ℕ) → Place → ℕ
byte_at memory place = slice_index_or (slice_index_or memory place.blob []) place.byte 0

-- memory with another byte at a place
abbrev pub with_byte : List (List ℕ) → Place → ℕ → List (List ℕ)
with_byte memory place byte = slice_set memory place.blob (slice_set (slice_index_or memory place.blob []) place.byte byte)

-- the bytes of a blob, and those of all blobs, by blob, then byte
abbrev pub bytes_in : List (List Owner) → ℕ → List Place
bytes_in layout blob = map (λ byte. record { blob = blob; byte = byte }) (range_with_len 0 (length (slice_index_or layout blob []) / 8))

abbrev pub all_bytes : List (List Owner) → List Place
all_bytes layout = flat_map (bytes_in layout) (range_with_len 0 (length layout))

-- the owners of the bits of a byte
abbrev pub owners_of_byte : List (List Owner) → Place → List Owner
owners_of_byte layout place = take 8 (drop (8 * place.byte) (slice_index_or layout place.blob []))

-- the bytes that hold a bit of a leaf in a row, by blob, then byte
abbrev pub places_of : List (List Owner) → ℕ → ℕ → List Place
places_of layout row leaf = filter (λ place. list_any (is_bit_of row leaf) (owners_of_byte layout place)) (all_bytes layout)

-- an update: how the rows lie in memory, the type and the hold of each leaf, what a store keeps of a value, the table as it stands, the
-- filter, and the leaves that are set
pub record Job : Type 0 where
  pub layout : List (List Owner)
  pub kinds : List LeafType
  pub holds : List Hold
  pub kept : Keeping
  pub extents : List ℕ
  pub rows : List (List ℤ)
  pub filter : Option (Term ℕ)
  pub sets : List Setting

-- a micro-step loads a byte for the values of a row, or loads a byte that is to be changed, or stores it with the bits of one leaf changed
pub data Micro : Type 0 where
  Fetch : (place : Place) → Micro
  Load : (place : Place) → Micro
  Store : (place : Place) (row : ℕ) (set : Setting) → Micro

-- the bytes that were loaded for values, each at its own place, and the byte that is to be changed
pub record Registers : Type 0 where
  pub loaded : List (List ℕ)
  pub byte : ℕ

-- a row of the table that loaded bytes hold
abbrev pub row_in : Job → List (List ℕ) → ℕ → List ℤ
row_in job loaded row = slice_index_or (declared_table job.kinds (table_in job.layout (length job.rows) job.holds loaded)) row []

-- the number of an answer; 0 for a fault, which no actor meets
abbrev pub number_in : Result ℤ EvalFault → ℤ
number_in (Ok x) = x
number_in (Err fault) = pos 0

-- the value of a right side on a row with these values, as the view keeps it
abbrev pub value_kept_on : Job → List ℤ → ℕ → Setting → ℤ
value_kept_on job values row set = job.kept set.leaf (number_in (outcome_of values (index_at job.extents row) set.value).answer)

-- a byte with only the bits of a leaf in a row changed
abbrev pub with_bits_of : List (List Owner) → Place → ℕ → ℕ → ℤ → ℕ → ℕ
with_bits_of layout place row leaf value byte = number (λ bit. written_bit (owner_at layout place.blob (8 * place.byte + bit)) row leaf value (bit_at byte bit)) 8

-- memory after a micro-step; a store works out its value from the bytes that were loaded
abbrev pub stored : Job → Micro → List (List ℕ) → Registers → List (List ℕ)
stored job (Fetch place) memory registers = memory
stored job (Load place) memory registers = memory
stored job (Store place row set) memory registers =
    with_byte memory place (with_bits_of job.layout place row set.leaf (value_kept_on job (row_in job registers.loaded row) row set) registers.byte)

-- registers after it
abbrev pub loaded : Job → Micro → List (List ℕ) → Registers → Registers
loaded job (Fetch place) memory registers = record registers { loaded = with_byte registers.loaded place (byte_at memory place) }
loaded job (Load place) memory registers = record registers { byte = byte_at memory place }
loaded job (Store place row set) memory registers = registers

-- a row of the table as it stands
abbrev pub row_as_it_stands : Job → ℕ → List ℤ
row_as_it_stands job row = slice_index_or job.rows row []

-- whether the filter lets a row through; each is where there is none
abbrev pub test_of : Job → ℕ → Option (Term ℕ) → Bool
test_of job row None = true
test_of job row (Some filter) = is_true (number_in (outcome_of (row_as_it_stands job row) (index_at job.extents row) filter).answer)

abbrev pub lets_through : Job → ℕ → Bool
lets_through job row = test_of job row job.filter

-- the reads of the filter and of right sides on a row of the table
abbrev pub filter_reads : Job → ℕ → Option (Term ℕ) → List ℕ
filter_reads job row None = []
filter_reads job row (Some filter) = (outcome_of (row_as_it_stands job row) (index_at job.extents row) filter).reads

abbrev pub set_reads : Job → ℕ → Setting → List ℕ
set_reads job row set = (outcome_of (row_as_it_stands job row) (index_at job.extents row) set.value).reads

abbrev pub leaves_read : Job → ℕ → List ℕ
leaves_read job row = filter_reads job row job.filter ++ (if lets_through job row then flat_map (set_reads job row) job.sets else [])

-- whether a leaf is among these
abbrev pub is_in : List ℕ → ℕ → Bool
is_in leaves leaf = list_any (λ other. other == leaf) leaves

-- the leaves that are read on a row, each once, in leaf order
abbrev pub read_leaves : Job → ℕ → List ℕ
read_leaves job row = filter (is_in (leaves_read job row)) (range_with_len 0 (length job.holds))

-- the micro-steps of a row: first it loads each byte of each leaf that is read
abbrev pub fetches : Job → ℕ → List Micro
fetches job row = flat_map (λ leaf. map Fetch (places_of job.layout row leaf)) (read_leaves job row)

-- then, where the filter lets the row through, it loads and stores each byte of each leaf that is set
abbrev pub changes : ℕ → Setting → Place → List Micro
changes row set place = Load place ∷ Store place row set ∷ []

abbrev pub stores_of : Job → ℕ → Setting → List Micro
stores_of job row set = flat_map (changes row set) (places_of job.layout row set.leaf)

abbrev pub row_steps : Job → ℕ → List Micro
row_steps job row = fetches job row ++ (if lets_through job row then flat_map (stores_of job row) job.sets else [])

-- those of an actor that has so many rows from this one on
abbrev pub steps_of : Job → ℕ → ℕ → List Micro
steps_of job first count = flat_map (row_steps job) (range_with_len first count)
