use Rattle.csv_rows.proofs.Lemmas.{◌≡◌, drop, length, Loading}
use Rattle.csv_rows.proofs.load.load_records.Given as goal

abbrev pub invariant-loop-records : goal.invariant-loop-records
invariant-loop-records g l = record {
  reading : g.R.Records.stands l.records;
  left : g.R.Records.left l.records ≡ drop l.row (g.R.Records.left l.initial.records);
  loading : Loading l.initial.view l.view l.columns (g.R.Records.left l.initial.records) l.row;
  values : length l.values ≡ length l.initial.values;
}

abbrev pub decreases-loop-records : goal.decreases-loop-records
decreases-loop-records g l = length (g.R.Records.left l.records)
