use Rattle.view_commands.proofs.Imports.{rules, IsLeft, common_steps, arith}
use Rattle.view_commands.specs.ExitsLaws.{gave_up}
use Rattle.view_commands.proofs.Shown.{then_broke, then_wrote}
use Rattle.view_commands.proofs.Windows.{no_window, window_goes}
use Rattle.view_commands.proofs.window.PrintWindowWork.run.Goals as goal

pub returns-in_err-window-clause-answers : goal.returns-in_err-window-clause-answers
returns-in_err-window-clause-answers g c =
    let fault = c.in_err-window.field-0.0 in
    gave_up (IsLeft c.args.view.now) g.K.Sink.taken g.K.Sink.faults c.args.out.now _ fault _ (search rules)
    (no_window c.args.view.now c.args.self.now.window.now fault (rw c.as_slice.ensures at c.in_err-window.ensures.window))

pub returns-in_err-print_window-clause-answers : goal.returns-in_err-print_window-clause-answers
returns-in_err-print_window-clause-answers g c = grind (arith, common_steps, window_goes, then_broke)

pub returns-clause-answers : goal.returns-clause-answers
returns-clause-answers g c = grind (arith, common_steps, window_goes, then_wrote)
