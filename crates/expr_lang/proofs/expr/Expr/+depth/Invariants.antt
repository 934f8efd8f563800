-- the deepest operand so far, or what is left below its level, gives the depth; what is left is no deeper than the value
use Rattle.expr_lang.proofs.Imports.{◌≡◌, ◌≤◌, ◌+◌, ◌-◌, ◌^◌, min, max, size-Expr, term_of, depth_of}
use Rattle.expr_lang.proofs.expr.Expr.+depth.Given as goal

abbrev pub decreases-depth : goal.decreases-depth
decreases-depth l = goal.size-depth l

abbrev pub invariant-loop-node : goal.invariant-loop-node
invariant-loop-node l = record {
  no_deeper : size-Expr l.node ≤ size-Expr l.initial.node;
  same : min (max l.deepest (l.level + depth_of (term_of l.node))) (2 ^ 64 - 1) ≡ min (depth_of (term_of l.self)) (2 ^ 64 - 1);
}
