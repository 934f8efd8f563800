-- what is counted on gives the whole count, which is no more than the tokens taken
use Rattle.line_phrases.proofs.Imports.{◌≡◌, ◌≤◌, ◌+◌, zero, length, Minus, Signed, read, signs}
use Rattle.line_phrases.proofs.exprs.count_signs.Given as goal

abbrev pub invariant-loop-tokens : goal.invariant-loop-tokens
invariant-loop-tokens l = record {
  same : read (signs (Signed Minus) l.count) l.tokens ≡ read (signs (Signed Minus) zero) l.fn.tokens;
  few : l.count + length l.tokens ≤ l.most;
  most : l.most ≡ length l.fn.tokens;
}

abbrev pub decreases-loop-tokens : goal.decreases-loop-tokens
decreases-loop-tokens l = length l.tokens
