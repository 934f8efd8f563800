use Rattle.c_lines.proofs.Imports.{rules, Ok, Err, refl, is_tell, line_taken}
use Rattle.c_lines.proofs.Tellings.{told_as}
use Rattle.c_lines.proofs.showing.tell_line.Goals as goal

pub returns-in_err-told : goal.returns-in_err-told
returns-in_err-told g c = record {
  told = Err c.in_err-told.field-0.0;
  tells = told_as (line_taken is_tell c.args.text.now) c.args.view.now (Err c.in_err-told.field-0.0) c.shown_by.new.view c.in_err-told.ensures;
  answered = search rules;
  filled = refl;
  counted = refl;
}

pub returns : goal.returns
returns g c = record {
  told = Ok c.in_ok-told.told.bytes.items;
  tells = told_as (line_taken is_tell c.args.text.now) c.args.view.now (Ok c.in_ok-told.told) c.shown_by.new.view c.in_ok-told.ensures;
  answered = rw c.taken.ensures at c.copy_out.ensures.told;
  filled = rw c.taken.ensures at c.copy_out.ensures.buffer;
  counted = rw c.taken.ensures at c.copy_out.ensures.needed;
}
