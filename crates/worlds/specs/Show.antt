-- `print V`, `counts V`, `heat V`, `layout V`, `bytes V B` and `drop V`.
use Rattle.std.specs.Prelude.{◌*◌}
use Rattle.worlds.specs.Imports.{ℕ, List, [], length, nat_lt, nat_le, Ok, range_with_len, slice_index_or, Owner, image, Run, texts_of, leaves, runs_of, ShowKind, bytes_of, bytes_text, counts_text, heat_text, runs_text, Table, owners_of, all_accesses, Read, print_text}
use Rattle.record_dim.specs.Std.{flat_map}
use Rattle.line_grammar.specs.declared.line.ShowKind.TheVariants as show
use Rattle.worlds.specs.Worlds.{World, removed}
use Rattle.worlds.specs.OnView.{tells, Content, Told, Work, Reads, Shows}
use Rattle.worlds.specs.Outcomes.{Tested, ◌>>=◌, Left, quiet, known, some_or, refused_if}
use Rattle.worlds.specs.Tables.{blob_bits}
use Rattle.worlds.specs.declared.fault.CommandFault.TheVariants.{BadIndex, NotCounted, TooBig}

-- each value is read once
unfoldable pub print : Content → Tested Told
print content = Ok (record { log = all_accesses Read (length (leaves content.fields)) (length content.rows); text = print_text (texts_of content.fields) content.rows })

unfoldable pub counts : Table → Tested Told
counts table = do
  numbers ← some_or NotCounted table.tally.counts
  Ok (tells (counts_text (texts_of table.fields) numbers))

unfoldable pub heat : Table → Tested Told
heat table = do
  numbers ← some_or NotCounted table.tally.heat
  Ok (tells (heat_text numbers))

-- all blobs together have at most 65,536 bytes
abbrev pub small : Table → Tested (Unit {0})
small table = refused_if (nat_lt (8 * 65536) (blob_bits table)) TooBig

-- the runs of all blobs, in order
abbrev pub all_runs : List (List Owner) → List Run
all_runs owners = flat_map (runs_of owners) (range_with_len 0 (length owners))

unfoldable pub layout : Table → Tested Told
layout table = do
  few ← small table
  Ok (tells (runs_text (texts_of table.fields) (all_runs (owners_of table))))

-- what is shown of a table by the name of its view alone
abbrev pub showing : ShowKind → Work
showing show.Print = Reads print
showing show.Counts = Shows counts
showing show.Heat = Shows heat
showing show.Layout = Shows layout

-- the image of the table, blob by blob, each a list of bits
abbrev pub image_of : Table → List (List ℕ)
image_of table = image (owners_of table) table.rows

-- the bytes of a blob
unfoldable pub bytes : Table → ℕ → Tested Told
bytes table blob = do
  there ← refused_if (nat_le (length (image_of table)) blob) BadIndex
  few ← small table
  Ok (tells (bytes_text (bytes_of (slice_index_or (image_of table) blob []))))

unfoldable pub drop_view : World → List ℕ → Tested Left
drop_view world name = do
  table ← known name world.views
  quiet (record world { views = removed name world.views })
