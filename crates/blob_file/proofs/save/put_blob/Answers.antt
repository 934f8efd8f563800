use Rattle.blob_file.proofs.Lemmas.{rules, arith, IsErr, large_put, large_stopped}
use Rattle.blob_file.proofs.save.put_blob.Goals as goal

pub returns-in_err-flush : goal.returns-in_err-flush
returns-in_err-flush g c =
    let err : IsErr c.from_residual.result = search rules in
    large_stopped c.from_residual.result c.args.blob.now err (omega arith) c.flush.ensures.emptied c.in_err-flush.ensures.writes

pub returns-then-len-gt-BUFFER_BYTES : goal.returns-then-len-gt-BUFFER_BYTES
returns-then-len-gt-BUFFER_BYTES g c = large_put c.write_blob.result c.args.blob.now (omega arith) c.flush.ensures.emptied c.in_ok-flush.ensures.writes c.write_blob.ensures
