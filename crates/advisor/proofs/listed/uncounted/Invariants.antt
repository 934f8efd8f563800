use Rattle.advisor.proofs.Imports.{◌≡◌, All, map, take, term_of, uncounted, IsBuiltTerm}
use Rattle.advisor.proofs.listed.uncounted.Given as goal

abbrev pub invariant-loop-at : goal.invariant-loop-at
invariant-loop-at l = record {
  terms : map term_of l.listed.items ≡ map uncounted (map term_of (take l.at l.maps));
  built : All (λ expr. IsBuiltTerm (term_of expr)) l.listed.items;
}
