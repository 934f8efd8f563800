use Rattle.llama_c.proofs.Lemmas.{length, gathered, reads_signed, numbers_given}
use Rattle.llama_c.proofs.by_rows.lly_gather.Goals as goal

pub returns-clause-values : goal.returns-clause-values
returns-clause-values c =
    let old = c.args.values.now in
    numbers_given (gathered reads_signed c.args.rows.now (length old) c.args.leaf) old _ _ _ _ c.gather-answer.ensures.values c.deref_mut.ensures.value c.in-Some.ensures.view
