use Rattle.csv_rows.proofs.Imports.{◌≡◌, drop, line_start}
use Rattle.csv_rows.proofs.lines.behind_all_ends.Given as goal

abbrev pub invariant-loop-start : goal.invariant-loop-start
invariant-loop-start l = line_start l.bytes ≡ line_start (drop l.start l.bytes)
