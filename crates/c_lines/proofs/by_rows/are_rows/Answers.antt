use Rattle.c_lines.proofs.Lemmas.{◌∙◌, ℕ, length, get_or, sym, ltb-true, nat_lt, passes}
use Rattle.c_lines.proofs.by_rows.are_rows.Goals as goal

pub returns-clause-rows : goal.returns-clause-rows
returns-clause-rows g c all k inside =
    let rows = g.R.RowList.rows c.args.rows.now in
    let most = length c.args.view.now.rows in
    ltb-true (get_or rows k 0) most (passes (λ (n : ℕ). nat_lt n most) rows k (sym c.are_in.ensures ∙ all) inside)
