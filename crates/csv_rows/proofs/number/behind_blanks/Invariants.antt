use Rattle.csv_rows.proofs.Imports.{◌≡◌, drop, behind_blanks}
use Rattle.csv_rows.proofs.number.behind_blanks.Given as goal

abbrev pub invariant-loop-start : goal.invariant-loop-start
invariant-loop-start l = behind_blanks l.bytes ≡ behind_blanks (drop l.start l.bytes)
