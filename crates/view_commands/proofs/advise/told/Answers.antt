use Rattle.view_commands.proofs.Imports.{rules, ◌≡◌, Err, map, term_of, told_by, mapping_of, question_of}
use Rattle.view_commands.proofs.Advice.{none_told, told_goes}
use Rattle.view_commands.proofs.advise.told.Goals as goal

pub returns-in_err-advice-clause-told : goal.returns-in_err-advice-clause-told
returns-in_err-advice-clause-told g c =
    let words = c.args.words.now in
    let fault = c.in_err-advice.field-0.0 in
    let is : c.from_residual-in_err-advice.result ≡ Err fault = search rules in
    rw is (none_told (map mapping_of words.mappings.now) c.args.view.now words.granule.now words.passes.now (map term_of words.maps.now) words.splits.now (question_of c.in_ok-question.question) fault
    (rw (c.as_slice-passes.ensures, c.as_slice.ensures) at c.in_ok-question.ensures.asked) c.in_err-advice.ensures.advice)

pub returns-clause-told : goal.returns-clause-told
returns-clause-told g c =
    let words = c.args.words.now in
    rw c.in_ok-advice_text.ensures (told_goes (map mapping_of words.mappings.now) c.args.view.now words.granule.now words.passes.now (map term_of words.maps.now) words.splits.now (question_of c.in_ok-question.question) (told_by c.in_ok-advice.field-0)
    (rw (c.as_slice-passes.ensures, c.as_slice.ensures) at c.in_ok-question.ensures.asked) c.in_ok-advice.ensures.advice)
