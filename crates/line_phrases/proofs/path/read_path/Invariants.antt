use Rattle.line_phrases.proofs.Imports.{◌≡◌, ◌<◌, length, read, parts, path}
use Rattle.line_phrases.proofs.path.read_path.Given as goal

-- what is read on gives the whole path
abbrev pub invariant-loop-path : goal.invariant-loop-path
invariant-loop-path l = record {
  same : read (parts l.path) l.tokens ≡ read path l.fn.tokens;
  shorter : length l.tokens < length l.fn.tokens;
}

abbrev pub decreases-loop-path : goal.decreases-loop-path
decreases-loop-path l = length l.tokens
