-- The run of a script that was read: its lines, in the version that its version line says.
use Rattle.std.specs.Prelude.{ℕ, ◌+◌, List, ◌∷◌, [], length, slice_set, Option, None, Some, option_map, nat_lt, if◌then◌else◌}
use Rattle.session_runs.specs.Imports.{strip_bom, File, Version, One, version_numbered, version_of, is_blank_line, empty, fault_text, Output, Faulted, lines_in, run_from, ScriptTooLong, BadVersion}
use Rattle.worlds.specs.declared.fault.CommandFault.{CommandFault}
use Rattle.session_runs.specs.Steps.{step_text}

-- the run ends with a fault line
abbrev pub faulted : ℕ → CommandFault → Output
faulted line fault = record { bytes = fault_text line fault; end = Faulted }

-- the lines of a script; a byte order mark at its start is none of their bytes
abbrev pub script_lines : List ℕ → List (List ℕ)
script_lines script = lines_in (strip_bom script)

-- the version line: how many lines stand before it, which are all blank, and its number
abbrev pub version_line : List (List ℕ) → Option (ℕ × ℕ)
version_line [] = None
version_line (line ∷ lines) =
    if nat_lt 4096 (length line) then None
    else (if is_blank_line line then option_map (λ found. (found.0 + 1, found.1)) (version_line lines) else option_map (λ number. (0, number)) (version_of line))

-- the version in which lines are read: the first, where they have no version line
abbrev pub version_said : Option (ℕ × ℕ) → Option Version
version_said None = Some One
version_said (Some found) = version_numbered found.1

-- the lines with an empty one in the place of the version line
abbrev pub without_version : Option (ℕ × ℕ) → List (List ℕ) → List (List ℕ)
without_version None lines = lines
without_version (Some found) lines = slice_set lines found.0 []

-- the place of the version line
abbrev pub version_place : Option (ℕ × ℕ) → ℕ
version_place None = 0
version_place (Some found) = found.0

-- lines with this version line, or with none, in the version that it says
abbrev pub run_versioned : Option Version → Option (ℕ × ℕ) → List File → List (List ℕ) → Option ℕ → Output
run_versioned None head files lines unread = faulted (version_place head + 1) BadVersion
run_versioned (Some version) head files lines unread = run_from (step_text version files) 1 empty (without_version head lines) unread

-- a script of at most 65,536 lines
abbrev pub run_headed : Option (ℕ × ℕ) → List File → List (List ℕ) → Option ℕ → Output
run_headed head files lines unread = run_versioned (version_said head) head files lines unread

-- a script that was read, of any number of lines
unfoldable pub run_form : List ℕ → List File → Option ℕ → Output
run_form script files unread =
    if nat_lt 65536 (length (script_lines script)) then faulted 0 ScriptTooLong
    else run_headed (version_line (script_lines script)) files (script_lines script) unread
