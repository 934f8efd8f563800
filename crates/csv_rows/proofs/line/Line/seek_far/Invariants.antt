use Rattle.csv_rows.proofs.Imports.{◌≡◌, ◌≤◌, ◌-◌, IsAt}
use Rattle.csv_rows.proofs.line.Line.seek_far.Given as goal

abbrev pub invariant-loop-self : goal.invariant-loop-self
invariant-loop-self l = record {
  at : IsAt l.self.text.now l.self.column l.self.start l.self.known;
  text : l.self.text.now ≡ l.fn.self.text.now;
  low : l.self.column ≤ l.column;
}

abbrev pub decreases-loop-self : goal.decreases-loop-self
decreases-loop-self l = l.column - l.self.column
