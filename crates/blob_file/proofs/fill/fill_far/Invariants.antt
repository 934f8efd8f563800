-- the rows so far have their numbers
use Rattle.blob_file.proofs.Imports.{◌≡◌, ◌+◌, HasStored, kept_run, IsTakenLeaf, raw_in, header_of}
use Rattle.blob_file.proofs.fill.fill_far.Given as goal

abbrev pub invariant-loop-k : goal.invariant-loop-k
invariant-loop-k g l = record {
  stored : HasStored l.leaf l.first l.k l.initial.view l.view (kept_run l.leaf l.first l.rows l.initial.view (raw_in (header_of l.initial.view) l.blobs));
  taken : IsTakenLeaf l.leaf l.first l.k l.initial.view (raw_in (header_of l.initial.view) l.blobs);
  steps : l.steps ≡ l.initial.steps + l.k;
}
