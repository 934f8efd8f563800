use Rattle.instrument.proofs.Imports.{rules, ◌≡◌, IsErr, Err, refl, Writes-puts_err, Writes-puts, Puts-stop, Puts-append, Failed, bytes_text}
use Rattle.instrument.proofs.bytes.write_bytes.Goals as goal

pub returns-in_err-put_bytes : goal.returns-in_err-put_bytes
unfolding bytes_text
returns-in_err-put_bytes g c =
    let err : IsErr c.from_residual.result = search rules in
    Writes-puts_err c.from_residual.result c.new-buffer.ensures err (Puts-stop c.from_residual.result _ err c.in_err-put_bytes.ensures)

pub returns-in_err-put_line_end : goal.returns-in_err-put_line_end
unfolding bytes_text
returns-in_err-put_line_end g c =
    let is : c.from_residual-in_err-put_line_end.result ≡ Err c.in_err-put_line_end.field-0.0 = search rules in
    rw is (Writes-puts_err {T = Unit {0}} {E = Failed} (Err c.in_err-put_line_end.field-0.0) c.new-buffer.ensures refl (Puts-append c.in_ok-put_bytes.ensures c.in_err-put_line_end.ensures))

pub returns : goal.returns
unfolding bytes_text
returns g c = Writes-puts c.flush.new.sink c.flush.result c.new-buffer.ensures (Puts-append c.in_ok-put_bytes.ensures c.in_ok-put_line_end.ensures) c.flush.ensures.writes
