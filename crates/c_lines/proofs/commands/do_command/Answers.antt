use Rattle.c_lines.proofs.Lemmas.{refl, assignment_of, map, option_map, number_text, is_do, numbered, reading, assigned, kernel_run, counting, reduction, updated, line_does, line_is}
use Rattle.expr_lang.specs.Prelude.{term_of}
use Rattle.c_lines.proofs.commands.do_command.Goals as goal

pub returns-in-Assign : goal.returns-in-Assign
returns-in-Assign g c =
    line_does number_text numbered is_do c.args.line.now _ (λ table. assigned table c.in-Assign.index c.in-Assign.path (term_of c.in-Assign.value)) c.args.view.now c.changed.new.view c.changed.result c.in-Assign.is refl refl c.changed.ensures

pub returns-in-Update : goal.returns-in-Update
returns-in-Update g c =
    line_does number_text numbered is_do c.args.line.now _ (λ table. updated table (option_map term_of c.in-Update.filter) (map assignment_of c.in-Update.sets)) c.args.view.now c.changed-in-Update.new.view c.changed-in-Update.result c.in-Update.is refl refl c.changed-in-Update.ensures

pub returns-in-Kernel : goal.returns-in-Kernel
returns-in-Kernel g c =
    line_does number_text numbered is_do c.args.line.now _ (λ table. kernel_run table c.in-Kernel.kernel c.in-Kernel.lanes) c.args.view.now c.changed-in-Kernel.new.view c.changed-in-Kernel.result c.in-Kernel.is refl refl c.changed-in-Kernel.ensures

pub returns-in-Reduce : goal.returns-in-Reduce
returns-in-Reduce g c =
    line_does number_text numbered is_do c.args.line.now _ (reading (λ content. reduction content c.in-Reduce.kind c.in-Reduce.path)) c.args.view.now c.changed-in-Reduce.new.view c.changed-in-Reduce.result c.in-Reduce.is refl refl c.changed-in-Reduce.ensures

pub returns-in-Count : goal.returns-in-Count
returns-in-Count g c =
    line_does number_text numbered is_do c.args.line.now _ (reading (λ content. counting content (term_of c.in-Count.filter))) c.args.view.now c.changed-in-Count.new.view c.changed-in-Count.result c.in-Count.is refl refl c.changed-in-Count.ensures

pub returns-in-Relayout : goal.returns-in-Relayout
returns-in-Relayout g c = line_is number_text numbered is_do c.args.line.now _ c.args.view.now c.relaid.new.view c.relaid.result c.in-Relayout.is refl (c.relaid.ensures c.in-Relayout.view)
