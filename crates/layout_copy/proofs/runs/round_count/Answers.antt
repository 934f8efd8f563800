use Rattle.layout_copy.proofs.Lemmas.{◌∙◌, ◌+◌, ◌%◌, ℕ, ap, arith, min, multiple_on}
use Rattle.layout_copy.proofs.runs.round_count.Goals as goal

pub returns-clause-whole : goal.returns-clause-whole
returns-clause-whole c = λ more whole.
    let lanes : ℕ = min c.args.from.lanes c.args.to.lanes in
    ap (λ (n : ℕ). (c.args.slot + n) % lanes) (omega (arith, more)) ∙ multiple_on c.args.slot 64 lanes whole
