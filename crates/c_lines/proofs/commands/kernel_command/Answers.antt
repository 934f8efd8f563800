use Rattle.c_lines.proofs.Lemmas.{refl, number_text, is_kernel, numbered, kernel_run, line_does}
use Rattle.c_lines.proofs.commands.kernel_command.Goals as goal

pub returns-in-Kernel : goal.returns-in-Kernel
returns-in-Kernel g c =
    line_does number_text numbered is_kernel c.args.line.now _ (λ table. kernel_run table c.in-Kernel.kernel c.in-Kernel.lanes) c.args.view.now c.changed.new.view c.changed.result c.in-Kernel.is refl refl c.changed.ensures
