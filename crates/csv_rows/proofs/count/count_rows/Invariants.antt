use Rattle.csv_rows.proofs.Imports.{◌≡◌, ◌+◌, length, csv_records, record_count}
use Rattle.csv.specs.declared.parser.State.TheVariants as st
use Rattle.csv_rows.proofs.count.count_rows.Given as goal

abbrev pub invariant-loop-rest : goal.invariant-loop-rest
invariant-loop-rest l = l.records + record_count st.StartRecord l.text ≡ length (csv_records l.bytes)

abbrev pub decreases-loop-rest : goal.decreases-loop-rest
decreases-loop-rest l = record_count st.StartRecord l.text
