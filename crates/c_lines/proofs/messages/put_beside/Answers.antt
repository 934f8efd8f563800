use Rattle.c_lines.proofs.Lemmas.{rules, ◌∙◌, ap, List, ℕ, Ok, SFits, to_z-of_z, w32, words_beside, put_as, put_refused, put_told_as}
use Rattle.c_lines.proofs.messages.put_beside.Goals as goal

pub returns-in_err-words : goal.returns-in_err-words
returns-in_err-words c =
    let fits : SFits w32 c.args.answer = search rules in
    put_refused (words_beside c.args.answer) c.in_err-words.field-0.0 c.args.buffer.now c.args.needed.now _ (rw (to_z-of_z w32 c.args.answer fits) at c.in_err-words.ensures) (search rules)

pub returns : goal.returns
returns c =
    let fits : SFits w32 c.args.answer = search rules in
    put_told_as _ (words_beside c.args.answer) c.args.buffer.now c.args.needed.now c.copy_out.result c.copy_out.new.buffer c.copy_out.new.needed
    (ap (λ (text : List ℕ). Ok text) c.as_bytes.ensures.value ∙ (rw (to_z-of_z w32 c.args.answer fits) at c.in_ok-words.ensures))
    (put_as _ c.args.buffer.now c.args.needed.now c.copy_out.result c.copy_out.new.buffer c.copy_out.new.needed c.copy_out.ensures.told c.copy_out.ensures.buffer c.copy_out.ensures.needed)
