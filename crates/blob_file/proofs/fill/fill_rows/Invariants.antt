-- the rows so far have their numbers
use Rattle.blob_file.proofs.Imports.{◌≡◌, ◌+◌, ◌-◌, ◌*◌, ◌≤◌, length, AreBefore, kept_rows, kept_of, leaf_count_of, after_stores, Write, all_accesses, AreTaken, raw_in, header_of}
use Rattle.blob_file.proofs.fill.fill_rows.Given as goal

abbrev pub invariant-loop-first : goal.invariant-loop-first
invariant-loop-first g l = record {
  same : l.view ≡ after_stores l.initial.view l.view.rows (all_accesses Write (leaf_count_of l.initial.view) l.first);
  inside : l.first ≤ l.count;
  before : AreBefore (leaf_count_of l.initial.view) l.first (kept_rows (kept_of l.initial.view) (raw_in (header_of l.initial.view) l.blobs)) l.view.rows;
  taken : AreTaken (leaf_count_of l.initial.view) 0 l.first l.initial.view (raw_in (header_of l.initial.view) l.blobs);
  lows : length l.lows ≡ 256;
  steps : l.steps ≡ l.initial.steps + l.first * leaf_count_of l.initial.view;
}

abbrev pub decreases-loop-first : goal.decreases-loop-first
decreases-loop-first g l = l.count - l.first
