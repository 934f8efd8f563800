-- what is read on gives all counts
use Rattle.line_phrases.proofs.Imports.{◌≡◌, ◌≤◌, length, [], read, dims}
use Rattle.line_phrases.proofs.fields.read_dims.Given as goal

abbrev pub invariant-loop-counts : goal.invariant-loop-counts
invariant-loop-counts l = record {
  same : read (dims l.counts.items) l.tokens ≡ read (dims []) l.fn.tokens;
  no_longer : length l.tokens ≤ length l.fn.tokens;
}

abbrev pub decreases-loop-counts : goal.decreases-loop-counts
decreases-loop-counts l = length l.tokens
