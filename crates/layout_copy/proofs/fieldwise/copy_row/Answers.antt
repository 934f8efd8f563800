use Rattle.layout_copy.proofs.Lemmas.{◌≡◌, ◌<◌, ◌∙◌, ℕ, ℤ, pos, true, List, [], None, is_ok, length, get_or, subst, sym, ap, arith, answer_of, refusing, each_taken}
use Rattle.layout_copy.proofs.fieldwise.copy_row.Goals as goal

pub store_row-requires-clause-taken : goal.store_row-requires-clause-taken
store_row-requires-clause-taken g c leaf inside =
    let answer = answer_of c.args.target.now in
    let row = get_or c.args.source.now.rows c.args.row [] in
    let none : refusing answer 0 row ≡ None = sym c.in_default.ensures.refused in
    let long : leaf < length row = omega (arith, inside, ap length c.in_default.ensures.read, c.read_row.ensures.count, c.requires.values, c.requires.leaves) in
    subst (λ (values : List ℤ). is_ok (answer leaf (get_or values leaf (pos 0))) ≡ true) (sym c.in_default.ensures.read)
    (sym (ap (λ (n : ℕ). is_ok (answer n (get_or row leaf (pos 0)))) (omega arith)) ∙ each_taken answer 0 leaf row long none)
