-- the first unknown name of what is left, or else what is found already, is the first of all
use Rattle.expr_lang.proofs.Imports.{◌≡◌, ◌≤◌, slice_get, option_or, paths_of, schema_fields, size-Expr, term_of, unknowns, told}
use Rattle.expr_lang.proofs.binding.+first_unknown.Given as goal

abbrev pub decreases-first_unknown : goal.decreases-first_unknown
decreases-first_unknown l = goal.size-first_unknown l

abbrev pub invariant-loop-node : goal.invariant-loop-node
invariant-loop-node l =
    let paths = paths_of (schema_fields l.schema) in
    record {
      no_deeper : size-Expr l.node ≤ size-Expr l.expr;
      same : option_or (slice_get (unknowns paths l.rank (term_of l.node)) 0) (told l.found) ≡ slice_get (unknowns paths l.rank (term_of l.expr)) 0;
    }
