use Rattle.csv_rows.proofs.Imports.{◌≡◌, ◌≤◌, length, record_count, field_state}
use Rattle.csv.specs.declared.parser.State.TheVariants as st
use Rattle.csv_rows.proofs.count.behind_fields.Given as goal

abbrev pub invariant-loop-end : goal.invariant-loop-end
invariant-loop-end l = record {
  count : record_count (field_state l.opens) l.rest ≡ record_count st.StartField l.text;
  within : length l.rest ≤ length l.text;
}

abbrev pub decreases-loop-end : goal.decreases-loop-end
decreases-loop-end l = length l.rest
