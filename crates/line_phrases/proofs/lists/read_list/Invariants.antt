-- what is read on gives the whole list
use Rattle.line_phrases.proofs.Imports.{◌≡◌, ◌<◌, length, read, later, listed}
use Rattle.line_phrases.proofs.lists.read_list.Given as goal

abbrev pub invariant-loop-alloc : goal.invariant-loop-alloc
invariant-loop-alloc g l = record {
  same : read (later g.P.Phrase.phrase l.found) l.tokens ≡ read (listed g.P.Phrase.phrase) l.fn.tokens;
  shorter : length l.tokens < length l.fn.tokens;
}

abbrev pub decreases-loop-alloc : goal.decreases-loop-alloc
decreases-loop-alloc g l = length l.tokens
