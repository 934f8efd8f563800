use Rattle.csv_rows.proofs.Imports.{◌≡◌, ◌-◌, take, length, before_blanks}
use Rattle.csv_rows.proofs.number.before_blanks.Given as goal

abbrev pub invariant-loop-blanks : goal.invariant-loop-blanks
invariant-loop-blanks l = before_blanks l.bytes ≡ before_blanks (take (length l.bytes - l.blanks) l.bytes)
