use Rattle.c_lines.proofs.Lemmas.{rules, arith, named_of, filled_refused, filled_made}
use Rattle.c_lines.proofs.make.filled_as.Goals as goal

pub returns-in_err-zeros_for : goal.returns-in_err-zeros_for
returns-in_err-zeros_for g c = filled_refused (named_of c.args.asked.now.record c.args.found.now) c.args.asked.now.new.words c.args.csv.now c.in-Ok.rows c.in_err-zeros_for.field-0.0 c.from_residual.result (omega arith)
    c.in-Ok.ensures (search rules) c.in_err-zeros_for.ensures.zeros

pub returns : goal.returns
returns g c = filled_made (named_of c.args.asked.now.record c.args.found.now) c.args.asked.now.new.words c.args.csv.now c.in-Ok.rows c.in_ok-zeros_for.field-0 c.with_rows.result (omega arith) c.in-Ok.ensures
    c.in_ok-zeros_for.ensures.zeros c.with_rows.ensures
