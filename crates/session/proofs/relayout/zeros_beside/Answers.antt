use Rattle.session.proofs.Imports.{◌≡◌, subst, IfOk, get_or_default, term_of, ViewEntry, zeros_like}
use Rattle.session.proofs.relayout.zeros_beside.Goals as goal

pub returns-clause-zeros : goal.returns-clause-zeros
returns-clause-zeros c = λ d.
    subst (λ (e : ViewEntry). IfOk c.made.result (λ view. view ≡ zeros_like e.view (term_of c.args.expr.now)))
    (get_or_default c.args.views.now c.args.place c.index-views-place.result d c.requires.place)
    (rw (c.mode.ensures, c.schema.ensures.value, c.extents.ensures.value) at c.made.ensures.zeros)
