use Rattle.c_lines.proofs.Lemmas.{rules, ap, Option, Refusal, SFits, to_z-of_z, w32, words_by, put_told_as}
use Rattle.c_lines.proofs.messages.put_message.Goals as goal

pub returns-in-Some : goal.returns-in-Some
returns-in-Some c =
    let fits : SFits w32 c.args.answer = search rules in
    put_told_as _ _ c.args.buffer.now c.args.needed.now c.put_words.result c.put_words.new.buffer c.put_words.new.needed
    (ap (λ (told : Option Refusal). words_by c.args.answer told) (rw (to_z-of_z w32 c.args.answer fits) at c.in-Some.ensures)) c.put_words.ensures

pub returns-in-None : goal.returns-in-None
returns-in-None c =
    let fits : SFits w32 c.args.answer = search rules in
    put_told_as _ _ c.args.buffer.now c.args.needed.now c.put_beside.result c.put_beside.new.buffer c.put_beside.new.needed
    (ap (λ (told : Option Refusal). words_by c.args.answer told) (rw (to_z-of_z w32 c.args.answer fits) at c.in-None.ensures)) (rw (to_z-of_z w32 c.args.answer fits) at c.put_beside.ensures)
