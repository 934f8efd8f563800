use Rattle.csv_rows.proofs.Lemmas.{rules, ◌≡◌, ◌∙◌, refl, sym, arith, true, Err, inr, kept_row, kept_of, after_stores-none, Loading, next_left, row_loaded, row_refused}
use Rattle.csv_rows.proofs.load.load_records.Goals as goal

pub loop-records-init : goal.loop-records-init
loop-records-init g c =
    let loading : Loading c.args.view.now c.args.view.now c.args.columns.now (g.R.Records.left c.args.records.now) 0 =
    record { front = refl; rest = refl; count = refl; within = omega arith; same = after_stores-none c.args.view.now } in
    record { reading = c.requires.reading; left = refl; loading = loading; values = refl }

pub returns-in_err-load_row : goal.returns-in_err-load_row
returns-in_err-load_row g c =
    let i = c.loop-records.invariant in
    let found : c.in_ok-next.field-0 ≡ true = search rules in
    let read = rw found at c.in_ok-next.ensures in
    let next = next_left (g.R.Records.left c.args.records.now) (g.R.Records.left c.loop-records.records) c.loop-records.row (g.R.Records.fields c.next.new.self) (g.R.Records.left c.next.new.self) i.left read.1 in
    let result : c.from_residual-in_err-load_row.result ≡ Err c.in_err-load_row.field-0.0 = search rules in
    let told = row_refused c.args.view.now c.loop-records.view c.args.columns.now (g.R.Records.left c.args.records.now) c.loop-records.row (g.R.Records.fields c.next.new.self) (g.R.Records.left c.next.new.self) c.in_err-load_row.field-0.0 i.loading next c.in_err-load_row.ensures.refused in
    record { loaded = rw result tt; refused = rw result (inr told.0); kept = rw (result, c.in_err-load_row.ensures.same) told.1; same = rw result tt }

pub loop-records-preserved : goal.loop-records-preserved
loop-records-preserved g c =
    let i = c.loop-records.invariant in
    let found : c.in_ok-next.field-0 ≡ true = search rules in
    let read = rw found at c.in_ok-next.ensures in
    let next = next_left (g.R.Records.left c.args.records.now) (g.R.Records.left c.loop-records.records) c.loop-records.row (g.R.Records.fields c.next.new.self) (g.R.Records.left c.next.new.self) i.left read.1 in
    let after = row_loaded c.args.view.now c.loop-records.view c.load_row.new.view c.args.columns.now (g.R.Records.left c.args.records.now) c.loop-records.row (g.R.Records.fields c.next.new.self) (g.R.Records.left c.next.new.self) (kept_row (kept_of c.loop-records.view) c.load_row.new.values) i.loading c.requires.rows next c.in_ok-load_row.ensures.read c.in_ok-load_row.ensures.stored in
    record { reading = c.in_ok-load_row.ensures.asked.standing; left = c.in_ok-load_row.ensures.asked.behind ∙ sym next.behind_it; loading = after; values = c.in_ok-load_row.ensures.count ∙ i.values }
