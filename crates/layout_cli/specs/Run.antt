-- The run of the program on a list of words: what it writes and how it ends, over the files of its shelf.
use Rattle.std.specs.Prelude.{ℕ, ◌≡◌, ◌^◌, List, ◌∷◌, [], length, Option, None, Some, codes, bytes_eq, nat_lt, if◌then◌else◌}
use Rattle.layout_io.specs.Prelude.{File, file_named}
use Rattle.layout_cli.specs.Generated.{script_text, dataset_text, generated_files}
use Rattle.layout_cli.specs.Numbers.{generated_rows}
use Rattle.worlds.specs.Prelude.{unread_text, Output, Misused, fails_at}
use Rattle.worlds.specs.declared.fault.CommandFault.TheVariants.{ScriptTooLong}
use Rattle.worlds.specs.Outcome.{Unread}
use Rattle.session_runs.specs.Scripts.{faulted, run_form}

abbrev pub usage_text : List ℕ
usage_text = codes "usage: llama run FILE | llama gen N\n"

-- the script that words of the form `run FILE` name
abbrev pub script_name : List (List ℕ) → Option (List ℕ)
script_name (verb ∷ file ∷ []) = if bytes_eq verb (codes "run") then Some file else None
script_name words = None

-- the number of rows that words of the form `gen N` name
abbrev pub gen_words : List (List ℕ) → Option ℕ
gen_words (verb ∷ number ∷ []) = if bytes_eq verb (codes "gen") then generated_rows number else None
gen_words words = None

-- words of neither form
abbrev pub IsMisuse : List (List ℕ) → Type 0
IsMisuse words = (script_name words ≡ None) × (gen_words words ≡ None)

-- what reading a file at a line gives
abbrev pub read_at_line : List File → Option ℕ → ℕ → List ℕ → Option (List ℕ)
read_at_line files unread line name = if fails_at unread line then None else file_named files name

-- the run ends since the file that a line needs was not read
abbrev pub unread_at : ℕ → List ℕ → Output
unread_at line name = record { bytes = unread_text line name; end = Unread line }

-- a script of at most 2^20 bytes, or one that was not read
abbrev pub run_script : List ℕ → Option (List ℕ) → List File → Option ℕ → Output
run_script name None files unread = unread_at 0 name
run_script name (Some script) files unread =
    if nat_lt (2 ^ 20) (length script) then faulted 0 ScriptTooLong else run_form script files unread

-- the script in a file
abbrev pub run_file : List ℕ → List File → Option ℕ → Output
run_file name files unread = run_script name (read_at_line files unread 0 name) files unread

-- the generated script of so many rows, over its dataset alone; no read fails there
abbrev pub run_generated : ℕ → Output
run_generated rows = run_form (script_text rows) (generated_files (dataset_text rows)) None

-- `run FILE`, or `gen N`, or other words
abbrev pub run_words : Option (List ℕ) → Option ℕ → List File → Option ℕ → Output
run_words (Some name) rows files unread = run_file name files unread
run_words None (Some rows) files unread = run_generated rows
run_words None None files unread = record { bytes = usage_text; end = Misused }

-- the whole run
abbrev pub run : List (List ℕ) → List File → Option ℕ → Output
run words files unread = run_words (script_name words) (gen_words words) files unread
