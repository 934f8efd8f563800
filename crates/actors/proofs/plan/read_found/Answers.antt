use Rattle.actors.proofs.Imports.{◌∙◌, ℕ, List, get_or, [], ℤ, ap, rows_read, row_held}
use Rattle.actors.proofs.plan.read_found.Goals as goal

pub returns-clause-row : goal.returns-clause-row
returns-clause-row c =
    let table = c.args.view.now in
    c.read_held.ensures.row ∙ ap (λ (w : List (List ℕ)). row_held table w c.args.row) c.requires.found
    ∙ ap (λ (t : List (List ℤ)). get_or t c.args.row []) (rows_read table c.laws_of_view.ensures.lawful)
