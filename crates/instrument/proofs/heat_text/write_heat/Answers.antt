use Rattle.instrument.proofs.Imports.{rules, ◌≡◌, Err, refl, Writes-puts_err, Writes-puts, Puts-append, Failed, heat_text}
use Rattle.instrument.proofs.heat_text.write_heat.Goals as goal

pub returns-in_err-put_blobs : goal.returns-in_err-put_blobs
unfolding heat_text
returns-in_err-put_blobs g c =
    let is : c.from_residual-in_err-put_blobs.result ≡ Err c.in_err-put_blobs.field-0.0 = search rules in
    rw is (Writes-puts_err {T = Unit {0}} {E = Failed} (Err c.in_err-put_blobs.field-0.0) c.new-buffer.ensures refl (Puts-append c.in_ok-put.ensures c.in_err-put_blobs.ensures))

pub returns : goal.returns
unfolding heat_text
returns g c = Writes-puts c.flush.new.sink c.flush.result c.new-buffer.ensures (Puts-append c.in_ok-put.ensures c.in_ok-put_blobs.ensures) c.flush.ensures.writes
