use Rattle.c_lines.proofs.Lemmas.{rules, anew_refused, laid}
use Rattle.c_lines.proofs.relayout.lay_anew.Goals as goal

pub returns-in_err-fresh : goal.returns-in_err-fresh
returns-in_err-fresh g c = anew_refused c.args.line.now c.args.view.now c.in_err-fresh.field-0.0 c.from_residual.result (search rules) c.in_err-fresh.ensures.told

pub returns : goal.returns
returns g c = laid c.args.line.now c.args.view.now c.in_ok-fresh.fresh c.laid_over.new.view c.laid_over.result c.in_ok-fresh.ensures.told c.in_ok-fresh.ensures.alike c.laid_over.ensures.answer c.laid_over.ensures.left
