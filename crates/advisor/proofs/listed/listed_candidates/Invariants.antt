use Rattle.advisor.proofs.Imports.{◌≡◌, All, map, take, drop, term_of, judge, first_judged_fault, IsPriced, terms_in}
use Rattle.advisor.proofs.listed.listed_candidates.Given as goal

abbrev pub invariant-loop-at : goal.invariant-loop-at
invariant-loop-at l = record {
  priced : All (IsPriced l.view l.price.granule l.price.passes.now) l.pool.items;
  terms : terms_in l.pool.items ≡ map term_of (take l.at l.listed);
  fault : first_judged_fault (judge l.view l.price.granule) 0 (map term_of l.listed) ≡ first_judged_fault (judge l.view l.price.granule) l.at (map term_of (drop l.at l.listed));
}
