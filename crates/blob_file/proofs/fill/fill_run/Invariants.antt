-- the leaves so far have their numbers
use Rattle.blob_file.proofs.Imports.{◌≡◌, ◌+◌, ◌*◌, length, AreRowsMoved, kept_rows, kept_of, after_stores, run_writes, AreTaken, raw_in, header_of}
use Rattle.blob_file.proofs.fill.fill_run.Given as goal

abbrev pub invariant-loop-leaf : goal.invariant-loop-leaf
invariant-loop-leaf g l = record {
  same : l.view ≡ after_stores l.initial.view l.view.rows (run_writes l.leaf l.first (length l.initial.lows));
  stored : AreRowsMoved l.leaf l.first (length l.initial.lows) (kept_rows (kept_of l.initial.view) (raw_in (header_of l.initial.view) l.blobs)) l.initial.view.rows l.view.rows;
  taken : AreTaken l.leaf l.first (length l.initial.lows) l.initial.view (raw_in (header_of l.initial.view) l.blobs);
  count : length l.lows ≡ length l.initial.lows;
  steps : l.steps ≡ l.initial.steps + length l.initial.lows * l.leaf;
}
