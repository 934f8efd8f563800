use Rattle.view_commands.proofs.Imports.{rules, IsErr, [], Writes-err, Gathers, Gathers-start}
use Rattle.view_commands.proofs.written.write_line.Goals as goal

pub returns-in_err-put_parts : goal.returns-in_err-put_parts
returns-in_err-put_parts g c =
    let start : Gathers {K = g.row.K.Denot} g.K.Sink.taken g.K.Sink.faults c.args.out.now c.args.out.now c.new-buffer.result [] = rw c.new-buffer.ensures (Gathers-start _ _ _ _) in
    let stop = c.in_err-put_parts.ensures.gathers c.args.out.now [] start in
    let err : IsErr c.from_residual.result = search rules in
    Writes-err _ err stop
