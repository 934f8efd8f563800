-- what is counted on gives the whole count, which is no more than the tokens taken
use Rattle.line_phrases.proofs.Imports.{◌≡◌, ◌≤◌, ◌+◌, zero, length, codes, Word, read, signs}
use Rattle.line_phrases.proofs.exprs.count_words.Given as goal

abbrev pub invariant-loop-tokens : goal.invariant-loop-tokens
invariant-loop-tokens l = record {
  same : read (signs (Word (codes "not")) l.count) l.tokens ≡ read (signs (Word (codes "not")) zero) l.fn.tokens;
  few : l.count + length l.tokens ≤ l.most;
  most : l.most ≡ length l.fn.tokens;
}

abbrev pub decreases-loop-tokens : goal.decreases-loop-tokens
decreases-loop-tokens l = length l.tokens
