-- Which headers a file can be opened with.
use Rattle.std.specs.Prelude.{ℕ, ◌≡◌, ◌*◌, ◌^◌, Bool, true, false, not, ◌&&◌, ◌||◌, nat_lt, List, map, length, sum_by, is_ok, is_none, None, Ok}
use Rattle.blob_file.specs.Imports.{list_all, bad_shape, bad_extents, ExtentWord, Fixed, Record, kinds_of, records_of, lengths_of, has_names, record_fault, is_name, PathStep, FieldWidth, Term, Aosoa, BitAos, BitSoa, Split, Byteswap, Bytesplit, Change, Count, Heat, Named, leaf_cells, accepted, most_slots, Sentence, Reads, Two, granules_for, IsOverLimits}
use Rattle.record_dim.specs.declared.path.PathStep.TheVariants as step
use Rattle.blob_file.specs.Files.{Header, owners_by, record_line, view_line}

-- no name stands in a mapping
abbrev pub is_nameless : Term → Bool
is_nameless (Split path first rest) = is_nameless first && is_nameless rest
is_nameless (Byteswap inner) = is_nameless inner
is_nameless (Bytesplit inner) = is_nameless inner
is_nameless (Change from to inner) = is_nameless inner
is_nameless (Count inner) = is_nameless inner
is_nameless (Heat granule inner) = is_nameless inner
is_nameless (Named name) = false
is_nameless _ = true

-- a number of 64 bits
abbrev pub is_count : ℕ → Bool
is_count number = nat_lt number (2 ^ 64)

-- a step to a field by its name, or to an element by such a number
abbrev pub is_step : PathStep → Bool
is_step (step.Name name) = is_name name
is_step (step.At number) = is_count number

abbrev pub is_width : FieldWidth → Bool
is_width entry = list_all is_step entry.path && is_count entry.width

-- the paths in a mapping consist of such steps, and its numbers have 64 bits
abbrev pub is_typed : Term → Bool
is_typed (Aosoa lanes order) = is_count lanes
is_typed (BitAos width fields order) = is_count width && list_all is_width fields
is_typed (BitSoa width fields order) = is_count width && list_all is_width fields
is_typed (Split path first rest) = list_all is_step path && (is_typed first && is_typed rest)
is_typed (Byteswap inner) = is_typed inner
is_typed (Bytesplit inner) = is_typed inner
is_typed (Change from to inner) = is_typed inner
is_typed (Count inner) = is_typed inner
is_typed (Heat granule inner) = is_count granule && is_typed inner
is_typed _ = true

-- what a header of a schema, extents and a mapping without names is by their types: its names, also those that the language reserves, are
-- names, and its numbers have 64 bits. The lists and terms of a `Header` say nothing of it, nor does the table of a view.
pub record IsTyped (header : Header) : Type 0 where
  pub names : list_all has_names (records_of (Record header.fields)) ≡ true
  pub lengths : list_all is_count (lengths_of (Record header.fields)) ≡ true
  pub extents : list_all is_count header.extents ≡ true
  pub mapping : is_typed header.mapping ≡ true
  pub nameless : is_nameless header.mapping ≡ true

-- some text is this line in the second version of the language
abbrev pub HasLine : Sentence → Type 0
HasLine sentence = (text : List ℕ) × Reads Two text sentence

-- some texts are the two lines of a header, and no name stands in its mapping
pub record HasLines (header : Header) : Type 0 where
  pub of_record : HasLine (record_line header)
  pub of_view : HasLine (view_line header)
  pub nameless : is_nameless header.mapping ≡ true

-- the words of the extents
abbrev pub words_of : Header → List ExtentWord
words_of header = map Fixed header.extents

-- a view of zeros can be made with a header, if there is memory: its record is a schema, its extents are those of an array, and its mapping
-- is accepted and within the limits of a view
pub record CanLie (header : Header) : Type 0 where
  pub fit : record_fault (Record header.fields) ≡ None
  pub shaped : bad_shape (words_of header) ≡ None
  pub ranged : bad_extents (words_of header) None ≡ None
  pub mapped : accepted header.mapping header.fields (leaf_cells (kinds_of header.fields)) ≡ Ok tt
  pub within : IsOverLimits header.mapping header.extents header.fields → ⊥

-- the same as a test
abbrev pub is_over_limits : Header → Bool
is_over_limits header =
    nat_lt (2 ^ 24) (most_slots header.mapping header.extents)
    || (nat_lt (8 * 2 ^ 28) (sum_by length (owners_by header)) || nat_lt (2 ^ 24) (granules_for header.mapping (owners_by header)))

unfoldable pub can_lie : Header → Bool
can_lie header =
    is_none (record_fault (Record header.fields))
    && (is_none (bad_shape (words_of header))
    && (is_none (bad_extents (words_of header) None)
    && (is_ok (accepted header.mapping header.fields (leaf_cells (kinds_of header.fields)))
    && not (is_over_limits header))))
