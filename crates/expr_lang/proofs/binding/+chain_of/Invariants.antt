-- the links so far, behind what is left, make the whole
use Rattle.expr_lang.proofs.Imports.{◌≡◌, ◌≤◌, paths_of, schema_fields, size-Expr, term_of, numbered, links_term}
use Rattle.expr_lang.proofs.binding.+chain_of.Given as goal

abbrev pub decreases-chain_of : goal.decreases-chain_of
decreases-chain_of l = goal.size-chain_of l

abbrev pub invariant-loop-node : goal.invariant-loop-node
invariant-loop-node l =
    let paths = paths_of (schema_fields l.schema) in
    record {
      no_deeper : size-Expr l.node ≤ size-Expr l.expr;
      same : links_term (numbered paths (term_of l.node)) l.links ≡ numbered paths (term_of l.expr);
    }
