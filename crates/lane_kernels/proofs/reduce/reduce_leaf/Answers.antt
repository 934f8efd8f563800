use Rattle.lane_kernels.proofs.Imports.{◌≡◌, ℕ, ℤ, List, [], Some, None, FitsSigned, length, take, map, min, ◌+◌, ◌-◌, refl, sym, ap, subst, ◌∙◌, arith, length-take, w128, slice_get, common_steps, get_or_from_slice_get, indices, LeafType, Truth, kinds_of, Fields, low_64, column_reads, raised, run_of, run_steps, Table, leaf_type_of, leaf_types_of, after_log, with_more, CanAdd}
use Rattle.lane_kernels.proofs.LeafRuns.{run_raised, run_narrow, column_sum_fits, none_reduced, more_reduced, spent_more}
use Rattle.lane_kernels.proofs.Reductions.{none_before, plain_more, run_can_add}
use Rattle.lane_kernels.proofs.reduce.reduce_leaf.Given as given
use Rattle.lane_kernels.proofs.reduce.reduce_leaf.Goals as goal
use Rattle.lane_kernels.proofs.reduce.reduce_leaf.Goals.{After-count-count, After-read_run}

-- the type of the leaf, and as many rows as the loop goes through
kind_is : (g : given.Over) (c : After-count-count g) → leaf_type_of c.args.view.now c.args.leaf ≡ c.leaf_type-kind.result
kind_is g c =
    let view = c.args.view.now in
    let kind = c.leaf_type-kind.result in
    let entry : slice_get (leaf_types_of view) c.args.leaf ≡ Some kind = subst (λ (f : Fields). slice_get (kinds_of f) c.args.leaf ≡ Some kind) c.schema.ensures.value c.leaf_type-kind.ensures in
    get_or_from_slice_get (leaf_types_of view) c.args.leaf kind Truth entry

count_is : (g : given.Over) (c : After-count-count g) → c.count-count.result ≡ length c.args.view.now.rows
count_is g c = c.count-count.ensures.rows ∙ ap (λ (e : List ℕ). length (indices e)) c.extents.ensures.value ∙ sym c.extents.ensures.table.rows

pub loop-row-init : goal.loop-row-init
loop-row-init g c =
    let view = c.args.view.now in
    let kind = leaf_type_of view c.args.leaf in
    let all : length view.rows - 0 ≡ length view.rows = omega arith in
    record {
      done = none_reduced view c.args.form c.args.leaf c.with_more-number.result (plain_more c.args.form c.with_more-number.result None [] c.with_more-number.ensures ∙ none_before c.args.form []);
      inside = omega arith;
      lows = refl;
      values = refl;
      spent = ap (λ (n : ℕ). c.args.steps.now + run_steps kind n) all;
    }

-- a run of so many rows, its low bits and its values
long : (g : given.Over) (c : After-read_run g) → length (take c.min-step.result c.loop-row.lows) ≡ c.min-step.result
long g c = omega (arith, length-take c.min-step.result c.loop-row.lows, c.loop-row.invariant.lows, c.min-step.ensures)

lows_are : (g : given.Over) (c : After-read_run g) → c.read_run.new.values ≡ map low_64 (run_of c.args.leaf c.loop-row.row c.min-step.result c.args.view.now)
lows_are g c =
    c.read_run.ensures.values ∙ ap (λ (n : ℕ). map low_64 (run_of c.args.leaf c.loop-row.row n c.loop-row.view)) (long g c)
    ∙ ap (λ (t : Table). map low_64 (run_of c.args.leaf c.loop-row.row c.min-step.result t)) c.loop-row.invariant.done.log

values_are : (g : given.Over) (c : After-read_run g) (kind : LeafType) → leaf_type_of c.args.view.now c.args.leaf ≡ kind
    → map (raised kind) c.read_run.new.values ≡ run_of c.args.leaf c.loop-row.row c.min-step.result c.args.view.now
values_are g c kind is =
    ap (λ (k : LeafType). map (raised k) c.read_run.new.values) (sym is) ∙ ap (map (raised (leaf_type_of c.args.view.now c.args.leaf))) (lows_are g c)
    ∙ run_raised c.args.view.now c.args.leaf c.loop-row.row c.min-step.result c.extents.ensures.table c.requires

pub with_run-number-requires-clause-narrow : goal.with_run-number-requires-clause-narrow
with_run-number-requires-clause-narrow g c = λ narrow.
    let at = (goal.at.with_run-number-requires-clause-narrow g c).After-read_run in
    let is = kind_is g (goal.at.with_run-number-requires-clause-narrow g c).After-count-count in grind (arith, run_narrow, lows_are)

pub with_run-number-requires-clause-fit : goal.with_run-number-requires-clause-fit
with_run-number-requires-clause-fit g c =
    let at = (goal.at.with_run-number-requires-clause-fit g c).After-read_run in
    let before = (goal.at.with_run-number-requires-clause-fit g c).After-count-count in
    let view = c.args.view.now in
    let fits : ℤ → Type 0 = λ z. FitsSigned w128 z in
    subst (CanAdd (λ z. z) fits c.args.form c.loop-row.number) (sym (values_are g at c.leaf_type-kind.result (kind_is g before)))
    (grind (arith, run_can_add, column_sum_fits, count_is))

pub loop-row-preserved : goal.loop-row-preserved
loop-row-preserved g c =
    let at = (goal.at.loop-row-preserved g c).After-read_run in
    let before = (goal.at.loop-row-preserved g c).After-count-count in
    let view = c.args.view.now in
    let leaf = c.args.leaf in
    let row = c.loop-row.row in
    let step = c.min-step.result in
    let count = length view.rows in
    let kind = leaf_type_of view leaf in
    let many = count_is g before in
    let run = long g at in
    let is : step ≡ min (count - row) 256 = c.min-step.ensures ∙ ap (λ (n : ℕ). min (n - row) 256) many in
    let read : c.read_run.new.self ≡ after_log c.loop-row.view (column_reads leaf row step) = c.read_run.ensures.same ∙ ap (λ (n : ℕ). after_log c.loop-row.view (column_reads leaf row n)) run in
    let took : c.read_run.new.steps ≡ c.loop-row.steps + run_steps kind step = grind arith in
    let more : c.with_run-number.result ≡ with_more c.args.form c.loop-row.number (run_of leaf row step view) = c.with_run-number.ensures ∙ ap (with_more c.args.form c.loop-row.number) (values_are g at c.leaf_type-kind.result (kind_is g before)) in
    record {
      done = more_reduced view c.loop-row.view c.read_run.new.self c.args.form leaf row step c.loop-row.number c.with_run-number.result c.loop-row.invariant.done read more;
      inside = omega (arith, is, many, c.loop-row-test.true);
      lows = grind (arith, common_steps, c.read_run.auto.values);
      values = grind (arith, common_steps, c.with_run-number.auto.values);
      spent = spent_more kind count row step c.args.steps.now c.loop-row.steps c.read_run.new.steps is c.loop-row.invariant.spent took;
    }
