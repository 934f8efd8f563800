use Rattle.advisor.proofs.Lemmas.{All, [], ◌∷◌, is_ok, Split, term_of, MapExpr, judge, IsPriced, terms_in, AreBehind}
use Rattle.advisor.proofs.splits.push_rests.Given as goal

abbrev pub invariant-loop-at : goal.invariant-loop-at
invariant-loop-at l = record {
  priced : All (IsPriced l.view l.price.granule l.price.passes.now) l.pool.items;
  terms : AreBehind (λ term. is_ok (judge l.view l.price.granule term)) (λ (expr : MapExpr). Split l.path (term_of l.first.expr.now) (term_of expr) ∷ []) l.listed
      (terms_in l.initial.pool.items) l.at (terms_in l.pool.items);
}
