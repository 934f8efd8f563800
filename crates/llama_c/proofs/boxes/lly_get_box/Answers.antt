use Rattle.llama_c.proofs.Lemmas.{length, on_box, gathered, reads_signed, numbers_given}
use Rattle.llama_c.proofs.boxes.lly_get_box.Goals as goal

pub returns-clause-values : goal.returns-clause-values
returns-clause-values c =
    let old = c.args.values.now in
    numbers_given (on_box c.args.low.now c.args.high.now (λ rows. gathered reads_signed rows (length old) c.args.leaf)) old _ _ _ _ c.get_box-answer.ensures.values c.deref_mut.ensures.value c.in-Some.ensures.view
