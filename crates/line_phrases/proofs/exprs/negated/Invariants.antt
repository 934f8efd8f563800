-- the value so far
use Rattle.line_phrases.proofs.Imports.{◌≡◌, Not, wrapped, boxed_term}
use Rattle.line_phrases.proofs.exprs.negated.Given as goal

abbrev pub invariant-loop : goal.invariant-loop
invariant-loop l = boxed_term l.value ≡ wrapped Not l.counter (boxed_term l.fn.inner)
