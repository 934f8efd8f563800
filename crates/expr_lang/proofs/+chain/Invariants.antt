-- what is left of a value is no deeper than the value
use Rattle.expr_lang.proofs.Imports.{◌≤◌, size-Links}
use Rattle.expr_lang.proofs.+chain.Given as goal

abbrev pub invariant-bound::Links::drop-loop-self : goal.invariant-bound::Links::drop-loop-self
invariant-bound::Links::drop-loop-self l = size-Links l.self ≤ size-Links l.initial.self
