use Rattle.layout_copy.proofs.Lemmas.{◌≡◌, ◌+◌, ◌*◌, ◌≤◌, length, leaf_count_of, after_log, Read, all_accesses, AreCopied}
use Rattle.layout_copy.proofs.fieldwise.copy_fields.Given as goal

abbrev pub invariant-loop-row : goal.invariant-loop-row
invariant-loop-row g l = record {
  source : l.source ≡ after_log l.initial.source (all_accesses Read (leaf_count_of l.initial.source) l.row);
  values : length l.values ≡ leaf_count_of l.initial.source;
  copied : AreCopied l.initial.source l.initial.target l.target l.row;
  steps : l.steps ≤ l.initial.steps + 2 * (l.row * leaf_count_of l.initial.source);
}
