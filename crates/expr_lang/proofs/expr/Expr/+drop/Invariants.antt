-- what is left of a value is no deeper than the value
use Rattle.expr_lang.proofs.Imports.{◌≤◌}
use Rattle.expr_lang.proofs.expr.Expr.+drop.Given as goal

abbrev pub invariant-loop-self : goal.invariant-loop-self
invariant-loop-self l =
    goal.size-drop (record { self = l.self; the-lifetimes = _ }) ≤ goal.size-drop (record { self = l.initial.self; the-lifetimes = _ })
