use Rattle.layout_io.proofs.Imports.{rules, IsErr, Writes-err, Stopped-flat_map}
use Rattle.layout_io.proofs.text_buffer.write_parts.Goals as goal

pub returns-in_err-put : goal.returns-in_err-put
returns-in_err-put g c =
    let stop = c.in_err-put.ensures.gathers _ _ c.loop-part.invariant in
    let err : IsErr c.from_residual.result = search rules in
    Writes-err _ err (Stopped-flat_map (λ part. part.now) _ _ _ c.loop-part-test.true stop)
