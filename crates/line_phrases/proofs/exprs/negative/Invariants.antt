-- the value so far
use Rattle.line_phrases.proofs.Imports.{◌≡◌, Neg, wrapped, boxed_term}
use Rattle.line_phrases.proofs.exprs.negative.Given as goal

abbrev pub invariant-loop : goal.invariant-loop
invariant-loop l = boxed_term l.value ≡ wrapped Neg l.counter (boxed_term l.fn.inner)
