use Rattle.c_lines.proofs.Lemmas.{Fields, SaysStep, Table, ap, subst, shown_done, shown_not}
use Rattle.c_lines.proofs.showing.told_by.Goals as goal

pub returns-in-Ok : goal.returns-in-Ok
returns-in-Ok g c = shown_done c.args.view.now c.run.new.view _ c.new-sink.result c.run.new.out c.new-sink.ensures c.in-Ok.ensures.answers

pub returns-in-Err : goal.returns-in-Err
returns-in-Err g c = shown_not c.args.view.now c.run.new.view _ c.new-sink.result c.run.new.out c.in-Err.fault c.told_refusal.result c.in-Err.ensures.answers (c.in-Err.ensures.kept c.requires.stays)
    (subst (λ (fields : Fields). SaysStep fields c.in-Err.fault c.told_refusal.result) (ap (λ (table : Table). table.fields) (c.in-Err.ensures.kept c.requires.stays)) c.told_refusal.ensures)
