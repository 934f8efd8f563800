use Rattle.row_updates.proofs.Lemmas.{◌≡◌, ◌≤◌, length, size-Links, chain_term, AreWithin, AreStepsSafe, leaf_count_of, IsIdle, IsRunOf, IsWorthSoFar}
use Rattle.row_updates.proofs.runs.+run.Given as goal

abbrev pub invariant-chain_run-loop-links : goal.invariant-chain_run-loop-links
invariant-chain_run-loop-links g l = record {
  no_deeper : size-Links l.links ≤ size-Links l.chain.links;
  same : l.view ≡ l.fn.view;
  idle : IsIdle l.view;
  within : AreWithin (leaf_count_of l.view) (length l.view.extents) l.links;
  safe : AreStepsSafe l.run.leaves.now l.run.places.now l.links;
  rows : IsRunOf l.view l.run (length l.other);
  long : length l.other ≡ length l.values;
  so_far : IsWorthSoFar l.fn.view l.run (chain_term l.chain) l.links l.values;
}
