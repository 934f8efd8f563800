-- Blank lines and version lines in a run.
use Rattle.std.specs.Prelude.{ℕ, ◌≡◌, ◌+◌, ◌≤◌, true, List, ◌∷◌, length, Option, None, Some, option_map, nat_lt, if◌then◌else◌}
use Rattle.session_runs.specs.Imports.{File, Version, One, is_blank_line, World, empty, run_from, ScriptTooLong}
use Rattle.session_runs.specs.Steps.{step_text}
use Rattle.session_runs.specs.Scripts.{script_lines, version_line, run_form, faulted}
use Rattle.session_runs.specs.declared.version.FirstLine.{FirstLine}
use Rattle.session_runs.specs.declared.version.FirstLine.TheVariants.{Blank, Version as Numbered, Other}

-- the version line of lines, by what the first of them is and the version line of the others
abbrev pub with_first : FirstLine → Option (ℕ × ℕ) → Option (ℕ × ℕ)
with_first Blank more = option_map (λ found. (found.0 + 1, found.1)) more
with_first (Numbered number) more = Some (0, number)
with_first Other more = None

-- a blank line does nothing in a run, whatever stands behind it: its number is counted
abbrev pub PassesBlanks : Version → List File → Type 0
PassesBlanks version files =
    (number : ℕ) (world : World) (line : List ℕ) (lines : List (List ℕ)) (unread : Option ℕ) → length line ≤ 4096 → is_blank_line line ≡ true
    → run_from (step_text version files) number world (line ∷ lines) unread ≡ run_from (step_text version files) (number + 1) world lines unread

-- a script whose first line that is not blank is no version line is run line by line in the first version
abbrev pub RunsUnversioned : List ℕ → List File → Type 0
RunsUnversioned script files =
    (unread : Option ℕ) → version_line (script_lines script) ≡ None
    → run_form script files unread ≡ (if nat_lt 65536 (length (script_lines script)) then faulted 0 ScriptTooLong
    else run_from (step_text One files) 1 empty (script_lines script) unread)
