use Rattle.instrument.proofs.Imports.{rules, ◌≡◌, Err, refl, Writes-puts_err, Writes-puts, Puts-append, Failed, counts_text}
use Rattle.instrument.proofs.counts_text.write_counts.Goals as goal

pub returns-in_err-put_leaves : goal.returns-in_err-put_leaves
unfolding counts_text
returns-in_err-put_leaves g c =
    let is : c.from_residual-in_err-put_leaves.result ≡ Err c.in_err-put_leaves.field-0.0 = search rules in
    rw is (Writes-puts_err {T = Unit {0}} {E = Failed} (Err c.in_err-put_leaves.field-0.0) c.new-buffer.ensures refl (Puts-append c.in_ok-put.ensures c.in_err-put_leaves.ensures))

pub returns : goal.returns
unfolding counts_text
returns g c = Writes-puts c.flush.new.sink c.flush.result c.new-buffer.ensures (Puts-append c.in_ok-put.ensures c.in_ok-put_leaves.ensures) c.flush.ensures.writes
