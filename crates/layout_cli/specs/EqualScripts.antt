-- Two scripts that differ in their mapping expressions alone, as the program is called on them.
use Rattle.std.specs.Prelude.{ℕ, ◌≡◌, ◌≤◌, ◌^◌, false, List, length, Option, Some}
use Rattle.layout_io.specs.Prelude.{File, file_named}
use Rattle.line_grammar.specs.Prelude.{Sentence}
use Rattle.line_grammar.specs.declared.version.Version.{Version}
use Rattle.worlds.specs.Prelude.{fails_at}
use Rattle.equal_runs.specs.Lines.{AreLines}
use Rattle.equal_runs.specs.EqualRuns.{DifferInTerms}
use Rattle.session_runs.specs.Scripts.{script_lines, version_line, version_said, without_version}
use Rattle.layout_cli.specs.Run.{run_file}

-- the file of this name is a script with this version line, or with none, and otherwise of these lines in this version, within the limits on
-- scripts; a version line is a blank one among them
pub record IsScript (files : List File) (name : List ℕ) (head : Option (ℕ × ℕ)) (version : Version) (lines : List Sentence) : Type 0 where
  pub script : List ℕ
  pub there : file_named files name ≡ Some script
  pub short : length script ≤ 2 ^ 20
  pub few : length (script_lines script) ≤ 65536
  pub headed : version_line (script_lines script) ≡ head
  pub lines_are : AreLines version (without_version head (script_lines script)) lines

-- the runs of two such scripts, with one version line or with none, write the same bytes and end alike; reading fails in a line, if at all
abbrev pub EqualScripts : List File → Type 0
EqualScripts files =
    (name other : List ℕ) (head : Option (ℕ × ℕ)) (version : Version) (lines others : List Sentence) (unread : Option ℕ) → fails_at unread 0 ≡ false → version_said head ≡ Some version
    → IsScript files name head version lines → IsScript files other head version others → DifferInTerms files unread lines others
    → run_file name files unread ≡ run_file other files unread
