use Rattle.c_lines.proofs.Lemmas.{rules, sentence_of, is_tell, commanded, bytes_in, text_read, text_refused}
use Rattle.c_lines.proofs.showing.shown_by.Goals as goal

pub returns-in_err-line : goal.returns-in_err-line
returns-in_err-line g c = text_refused bytes_in commanded is_tell c.args.text.now c.args.view.now c.in_err-line.field-0.0 _ (search rules) c.in_err-line.ensures.told

pub returns : goal.returns
returns g c = text_read bytes_in commanded is_tell c.args.text.now (sentence_of c.in_ok-line.line) c.args.view.now c.tell_command-told.new.view c.tell_command-told.result c.in_ok-line.ensures.told c.tell_command-told.ensures
