use Rattle.c_lines.proofs.Imports.{◌≡◌, length, map, take, entry, Read, after_log}
use Rattle.c_lines.proofs.by_rows.read_each.Given as goal

abbrev pub invariant-loop-k : goal.invariant-loop-k
invariant-loop-k g l = record {
  count : length l.values ≡ length l.initial.values;
  read : map g.N.Number64.number (take l.k l.values) ≡ map (λ row. entry l.fn.view.rows row l.leaf) (take l.k (g.R.RowList.rows l.rows));
  log : l.view ≡ after_log l.fn.view (map (λ row. Read row l.leaf) (take l.k (g.R.RowList.rows l.rows)));
}
