use Rattle.worlds.proofs.Imports.{rules, IsErr, [], Writes-err, Gathers, Gathers-start}
use Rattle.worlds.proofs.lines.write_line.Goals as goal

pub returns-in_err-put_parts : goal.returns-in_err-put_parts
returns-in_err-put_parts g c =
    let start : Gathers {K = g.row.K.Denot} g.K.Sink.taken g.K.Sink.faults c.args.sink.now c.args.sink.now c.new-buffer.result [] = rw c.new-buffer.ensures (Gathers-start _ _ _ _) in
    let stop = c.in_err-put_parts.ensures.gathers c.args.sink.now [] start in
    let err : IsErr c.from_residual.result = search rules in
    Writes-err _ err stop
