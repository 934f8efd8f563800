use Rattle.layout_copy.proofs.Lemmas.{◌≡◌, ◌+◌, ◌≤◌, [], get_or, answer_of, after_log, Read, row_accesses, AreRead}
use Rattle.layout_copy.proofs.fieldwise.read_row.Given as goal

abbrev pub invariant-loop-leaf : goal.invariant-loop-leaf
invariant-loop-leaf g l = record {
  source : l.source ≡ after_log l.initial.source (row_accesses Read l.leaf l.row);
  read : AreRead (answer_of l.target) (get_or l.initial.source.rows l.row []) l.values l.leaf;
  steps : l.steps ≤ l.initial.steps + l.leaf;
}
