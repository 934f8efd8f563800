-- The files that a shelf in memory keeps.
use Rattle.std.specs.Prelude.{List, map, string_bytes}
use Rattle.layout_io.specs.Files.{File}
use Rattle.layout_io.specs.declared.entries.Entry.{Entry}

-- one entry as a file
abbrev pub file_in : Entry → File
file_in entry = record { name = string_bytes entry.name; bytes = entry.bytes.items }

-- all entries as files
abbrev pub files_in : List Entry → List File
files_in entries = map file_in entries
