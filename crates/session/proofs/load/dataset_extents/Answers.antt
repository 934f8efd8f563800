use Rattle.session.proofs.Imports.{rules, ◌≡◌, Err}
use Rattle.session.proofs.load.dataset_extents.Goals as goal

pub returns-in_err-extents-clause-extents : goal.returns-in_err-extents-clause-extents
returns-in_err-extents-clause-extents c =
    let is : c.from_residual-in_err-extents.result ≡ Err c.in_err-extents.field-0.0 = search rules in
    rw is (rw c.in_ok-rows.ensures at c.in_err-extents.ensures.extents)

pub returns-clause-extents : goal.returns-clause-extents
returns-clause-extents c = rw c.in_ok-rows.ensures at c.in_ok-extents.ensures.extents
