-- The versions of the language.
use Rattle.std.specs.Prelude.{ℕ, ◌==◌, Bool, true, false, Option, None, Some, if◌then◌else◌}
use Rattle.line_grammar.specs.declared.version.Version.{Version}
use Rattle.line_grammar.specs.declared.version.Version.TheVariants.{One, Two}
use Rattle.line_grammar.specs.declared.line.ShowKind.{ShowKind}
use Rattle.line_grammar.specs.declared.line.ShowKind.TheVariants.{Print}

-- whether a version has what came with the second
abbrev pub is_two : Version → Bool
is_two One = false
is_two Two = true

-- whether a line that shows this may go on with a window
abbrev pub may_have_window : Version → ShowKind → Bool
may_have_window Two Print = true
may_have_window _ _ = false

-- the version of a number
abbrev pub version_numbered : ℕ → Option Version
version_numbered n = if n == 1 then Some One else (if n == 2 then Some Two else None)
