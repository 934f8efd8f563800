use Rattle.c_lines.proofs.Lemmas.{rules, term_of, none_made, relaid_done, relaid_not}
use Rattle.c_lines.proofs.relayout.relaid.Goals as goal

pub returns-in_err-fresh : goal.returns-in_err-fresh
returns-in_err-fresh g c = λ name. none_made name (term_of c.args.written.now) c.args.view.now c.in_err-fresh.field-0.0 _ (search rules) c.in_err-fresh.ensures.made

pub returns-in_err-laid_over : goal.returns-in_err-laid_over
returns-in_err-laid_over g c = λ name.
    relaid_not name (term_of c.args.written.now) c.args.view.now c.in_ok-fresh.fresh c.laid_over.new.view c.in_err-laid_over.field-0.0 _ (search rules) c.in_ok-fresh.ensures.made c.in_ok-fresh.ensures.alike c.in_err-laid_over.ensures.answer c.in_err-laid_over.ensures.left

pub returns : goal.returns
returns g c = λ name. relaid_done name (term_of c.args.written.now) c.args.view.now c.in_ok-fresh.fresh c.laid_over.new.view c.in_ok-fresh.ensures.made c.in_ok-fresh.ensures.alike c.in_ok-laid_over.ensures.answer c.in_ok-laid_over.ensures.left
