use Rattle.subviews.proofs.Imports.{rules, IsErr, Writes-puts_err, Puts-stop, print_text}
use Rattle.subviews.proofs.print.print_window.Goals as goal

pub returns-in_err-put_names-clause-writes : goal.returns-in_err-put_names-clause-writes
unfolding print_text
returns-in_err-put_names-clause-writes g c =
    let err : IsErr c.from_residual.result = search rules in
    Writes-puts_err c.from_residual.result c.new-buffer.ensures err (Puts-stop c.from_residual.result _ err c.in_err-put_names.ensures)
