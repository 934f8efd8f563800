use Rattle.command_checks.proofs.Imports.{◌≡◌, ◌<◌, length, take, All, leaf_count_of, each, weighted_term, weighted_at, Ok}
use Rattle.command_checks.proofs.terms.leaves_of.Given as goal

abbrev pub invariant-loop-text : goal.invariant-loop-text
invariant-loop-text l = record {
  terms : each (weighted_term l.view.fields) (take l.text-index l.texts) ≡ Ok (weighted_at (take l.text-index l.texts) l.leaves.items);
  inside : All (λ leaf. leaf < leaf_count_of l.view) l.leaves.items;
  paired : length l.leaves.items ≡ l.text-index;
}
