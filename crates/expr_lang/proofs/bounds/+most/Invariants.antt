use Rattle.expr_lang.proofs.Imports.{◌≤◌, ◌<◌, ◌^◌, length, size-Links, chain_term, AreWithin}
use Rattle.expr_lang.proofs.MostSoFar.{IsMostSoFar}
use Rattle.expr_lang.proofs.bounds.+most.Given as goal

abbrev pub invariant-chain_most-loop-links : goal.invariant-chain_most-loop-links
invariant-chain_most-loop-links l = record {
  no_deeper : size-Links l.links ≤ size-Links l.chain.links;
  within : AreWithin (length l.leaves) (length l.places) l.links;
  near : l.most < 2 ^ 63;
  so_far : IsMostSoFar l.leaves l.places l.levels (chain_term l.chain) l.links l.most;
}
