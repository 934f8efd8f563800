use Rattle.instrument.proofs.Imports.{rules, ◌≡◌, Err, refl, Writes-puts_err, Writes-puts, Puts-append, Failed, runs_text}
use Rattle.instrument.proofs.runs_text.write_runs.Goals as goal

pub returns-in_err-put_runs : goal.returns-in_err-put_runs
unfolding runs_text
returns-in_err-put_runs g c =
    let is : c.from_residual-in_err-put_runs.result ≡ Err c.in_err-put_runs.field-0.0 = search rules in
    rw is (Writes-puts_err {T = Unit {0}} {E = Failed} (Err c.in_err-put_runs.field-0.0) c.new-buffer.ensures refl (Puts-append c.in_ok-put.ensures (rw c.as_slice.ensures at c.in_err-put_runs.ensures)))

pub returns : goal.returns
unfolding runs_text
returns g c = Writes-puts c.flush.new.sink c.flush.result c.new-buffer.ensures (Puts-append c.in_ok-put.ensures (rw c.as_slice.ensures at c.in_ok-put_runs.ensures)) c.flush.ensures.writes
