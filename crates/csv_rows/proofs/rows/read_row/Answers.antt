use Rattle.csv_rows.proofs.Lemmas.{rules, arith, ◌≡◌, ◌<◌, ◌∙◌, ⊎_elim, pos, refl, true, is_ok, Ok, Err, FitsSigned, take, get_or, length, w128, to_z-of_z, cases_eq, length-set, get_or-set_same, get_or-set_other, kept_row, answer_of, kept_of, value_at, place_of, asked_again}
use Rattle.csv_rows.proofs.Leaves.{leaf_read, leaf_refused}
use Rattle.csv_rows.proofs.rows.read_row.Goals as goal

pub returns-in_err-values-clause-refused : goal.returns-in_err-values-clause-refused
returns-in_err-values-clause-refused g c =
    let result : c.from_residual.result ≡ Err c.in_err-values.field-0.0 = search rules in
    rw result (leaf_refused c.args.view.now c.args.columns.now c.laws_of_table.ensures.paired c.args.row (g.R.Records.fields c.args.records.now) c.loop-leaf.leaf (get_or c.args.columns.now c.loop-leaf.leaf 0) (take c.loop-leaf.leaf (kept_row (kept_of c.args.view.now) c.loop-leaf.values)) c.in_err-values.field-0.0 c.requires.columns (omega arith) refl (rw c.loop-leaf.invariant.asked.same at c.in_err-values.ensures.refused) c.loop-leaf.invariant.read)

pub loop-leaf-preserved : goal.loop-leaf-preserved
loop-leaf-preserved g c =
    let value = c.in_ok-values.field-0 in
    let fits : FitsSigned w128 value = search rules in
    let room : c.loop-leaf.leaf < length c.loop-leaf.values = omega (arith, c.loop-leaf.invariant.count, c.requires.columns, c.requires.values) in
    let taken : is_ok (answer_of c.args.view.now c.loop-leaf.leaf value) ≡ true = c.in_ok-values.ensures.taken in
    let found : value_at (place_of c.args.view.now c.args.row c.loop-leaf.leaf (get_or c.args.columns.now c.loop-leaf.leaf 0)) (g.R.Records.fields c.args.records.now) ≡ Ok (kept_of c.args.view.now c.loop-leaf.leaf value) = rw c.loop-leaf.invariant.asked.same at c.in_ok-values.ensures.kept in
    rw (to_z-of_z w128 value fits) (record {
      asked = asked_again g.R.Records.stands g.R.Records.fields g.R.Records.left c.args.records.now c.loop-leaf.records c.value_at.new.records c.loop-leaf.invariant.asked c.value_at.ensures.asked;
      count = length-set c.loop-leaf.values c.loop-leaf.leaf value ∙ c.loop-leaf.invariant.count;
      read = leaf_read c.args.view.now c.args.columns.now c.laws_of_table.ensures.paired c.args.row (g.R.Records.fields c.args.records.now) c.loop-leaf.leaf (get_or c.args.columns.now c.loop-leaf.leaf 0) c.loop-leaf.values value c.requires.columns (omega arith) room refl found c.loop-leaf.invariant.read;
      taken = λ k below. ⊎_elim
          (λ (same : k ≡ c.loop-leaf.leaf). rw (same, get_or-set_same c.loop-leaf.values c.loop-leaf.leaf value (pos 0) room) taken)
          (λ other. rw (get_or-set_other c.loop-leaf.values c.loop-leaf.leaf k value (pos 0) other) (c.loop-leaf.invariant.taken k (omega arith)))
          (cases_eq k c.loop-leaf.leaf);
    })
