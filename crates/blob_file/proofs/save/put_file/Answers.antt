use Rattle.blob_file.proofs.Imports.{rules, ◌≡◌, IsErr, Err, refl, Writes-puts_err, Writes-puts, Puts-stop, Puts-append, joined, blobs_of}
use Rattle.layout_io.specs.declared.ends.Failed.{Failed}
use Rattle.blob_file.proofs.save.put_file.Goals as goal

pub returns-in_err-put_header : goal.returns-in_err-put_header
returns-in_err-put_header g c =
    let err : IsErr c.from_residual.result = search rules in
    Writes-puts_err c.from_residual.result c.new-buffer.ensures err (Puts-stop c.from_residual.result (joined (blobs_of c.args.view.now)) err c.in_err-put_header.ensures)

pub returns-in_err-put_blobs : goal.returns-in_err-put_blobs
returns-in_err-put_blobs g c =
    let is : c.from_residual-in_err-put_blobs.result ≡ Err c.in_err-put_blobs.field-0.0 = search rules in
    rw is (Writes-puts_err {T = Unit {0}} {E = Failed} (Err c.in_err-put_blobs.field-0.0) c.new-buffer.ensures refl (Puts-append c.in_ok-put_header.ensures c.in_err-put_blobs.ensures))

pub returns : goal.returns
returns g c = Writes-puts c.flush.new.sink c.flush.result c.new-buffer.ensures (Puts-append c.in_ok-put_header.ensures c.in_ok-put_blobs.ensures) c.flush.ensures.writes
