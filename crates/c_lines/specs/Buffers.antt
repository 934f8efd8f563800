-- Bytes that are copied into the buffer of a caller, and what they are.
use Rattle.std.specs.Prelude.{◌≡◌, ◌⊎◌, ◌++◌, if◌then◌else◌}
use Rattle.c_lines.specs.Imports.{ℕ, List, [], length, drop, nat_le, nat_lt, slice_index_or, Result, Ok, Err, file_of, record_text, view_text, blobs_of, header_of, FileFault, print_text, joined, texts_of, Table, owners_of, is_long, ◌>>=◌, ok_or}
use Rattle.blob_file.specs.Opened.{Saved, opened, table_of_saved, with_body}
use Rattle.blob_file.specs.declared.fault.FileFault.TheVariants as fault
use Rattle.worlds.specs.declared.fault.BadFile.TheVariants as bad
use Rattle.c_lines.specs.Answers.{Answer, given_or}
use Rattle.c_lines.specs.declared.refusal.Refusal.{Refusal}
use Rattle.c_lines.specs.declared.refusal.Refusal.TheVariants.{NoPlace, NoMemory, NoRoom, TooBig, BadFile}

-- the answer of a copy of bytes into a buffer
abbrev pub room_told : List ℕ → List ℕ → Answer (Unit {0})
room_told bytes buffer = if nat_le (length bytes) (length buffer) then Ok tt else Err NoRoom

abbrev pub put_told : Answer (List ℕ) → List ℕ → Answer (Unit {0})
put_told (Ok bytes) buffer = room_told bytes buffer
put_told (Err refused) buffer = Err refused

-- the buffer after it: the bytes stand at its front, and what is behind them stays; one that is too short stays whole
abbrev pub buffer_after : Answer (List ℕ) → List ℕ → List ℕ
buffer_after (Ok bytes) buffer = if nat_le (length bytes) (length buffer) then bytes ++ drop (length bytes) buffer else buffer
buffer_after (Err refused) buffer = buffer

-- how many bytes there are, also where they have no room
abbrev pub needed_after : Answer (List ℕ) → ℕ → ℕ
needed_after (Ok bytes) old = length bytes
needed_after (Err refused) old = old

-- all of this, but memory may run out at any time, and then both stay
pub record IsPutOrNot (told : Answer (List ℕ)) (buffer : List ℕ) (needed : ℕ) (answer : Answer (Unit {0})) (buffer_new : List ℕ) (needed_new : ℕ) : Type 0 where
  pub answered : answer ≡ put_told told buffer
  pub filled : buffer_new ≡ buffer_after told buffer
  pub counted : needed_new ≡ needed_after told needed

pub record IsStarved (buffer : List ℕ) (needed : ℕ) (answer : Answer (Unit {0})) (buffer_new : List ℕ) (needed_new : ℕ) : Type 0 where
  pub answered : answer ≡ Err NoMemory
  pub kept : buffer_new ≡ buffer
  pub still : needed_new ≡ needed

abbrev pub TellsPut : Answer (List ℕ) → List ℕ → ℕ → Answer (Unit {0}) → List ℕ → ℕ → Type 0
TellsPut told buffer needed answer buffer_new needed_new = IsStarved buffer needed answer buffer_new needed_new ⊎ IsPutOrNot told buffer needed answer buffer_new needed_new

-- the text of a table
abbrev pub printed : Table → List ℕ
printed table = print_text (texts_of table.fields) table.rows

-- the file of a table
abbrev pub file_told : Table → Answer (List ℕ)
file_told table = if is_long table then Err TooBig else Ok (file_of (header_of table) (blobs_of table))

-- the bytes of a blob
abbrev pub blob_told : ℕ → Table → Answer (List ℕ)
blob_told blob table = if nat_lt blob (length (owners_of table)) then Ok (slice_index_or (blobs_of table) blob []) else Err NoPlace

-- the bytes of all blobs, one behind another
abbrev pub lent : Table → List ℕ
lent table = joined (blobs_of table)

-- the texts of the lines of a record and of a view with which a table of zeros like it is made
abbrev pub record_line : Table → List ℕ
record_line table = record_text (header_of table)

abbrev pub view_line : Table → List ℕ
view_line table = view_text (header_of table)

-- the table of a file
abbrev pub file_refusal : FileFault → Refusal
file_refusal fault.Magic = BadFile bad.Magic
file_refusal fault.Header = BadFile bad.Header
file_refusal fault.Layout = BadFile bad.Layout
file_refusal fault.Length = BadFile bad.Length
file_refusal fault.Contents = BadFile bad.Contents
file_refusal fault.NoMemory = NoMemory

abbrev pub saved_told : Result Saved FileFault → Answer Table
saved_told read = do
  saved ← ok_or file_refusal read
  Ok (table_of_saved saved)

abbrev pub opened_told : List ℕ → Answer Table
opened_told bytes = saved_told (opened bytes)

-- the table like another one of whose blobs these are the bytes, one behind another, and what is left of that one
abbrev pub returned : List ℕ → Table → Answer Table
returned bytes table = saved_told (with_body (header_of table) bytes)

abbrev pub after_return : List ℕ → Table → Table
after_return bytes table = given_or table (returned bytes table)

-- what is lent and returned unchanged leaves all but the counts
abbrev pub ReturnsSame : Table → Type 0
ReturnsSame table = (left : Table) × (returned (lent table) table ≡ Ok left) × (left ≡ record table { tally = left.tally })
