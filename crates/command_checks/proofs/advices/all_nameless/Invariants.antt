use Rattle.command_checks.proofs.Imports.{◌≡◌, true, length, map, take, All, term_of, nameless, each, is_nameless, mapping_of, Ok}
use Rattle.command_checks.proofs.advices.all_nameless.Given as goal

abbrev pub invariant-loop-expr : goal.invariant-loop-expr
invariant-loop-expr l = record {
  whole : each (nameless (map mapping_of l.mappings)) (take l.expr-index (map term_of l.exprs)) ≡ Ok (map term_of l.whole);
  nameless : All (λ expr. is_nameless (term_of expr) ≡ true) l.whole;
  long : length l.whole ≡ l.expr-index;
}
