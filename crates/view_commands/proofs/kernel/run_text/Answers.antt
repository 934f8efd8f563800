use Rattle.view_commands.proofs.Imports.{rules, refl, kernel_left, fit_kernel}
use Rattle.view_commands.proofs.Arms.{kernel_done, kernel_refused, no_kernel}
use Rattle.view_commands.proofs.Changing.{stopped}
use Rattle.view_commands.proofs.kernel.run_text.Goals as goal

pub returns-in_err-kernel-clause-number : goal.returns-in_err-kernel-clause-number
returns-in_err-kernel-clause-number g c =
    let table = c.args.view.now in
    stopped _ (λ row. kernel_left table row (fit_kernel table.fields c.args.text.now c.args.lanes)) table _ c.in_err-kernel.field-0.0 _ (search rules) c.in_err-kernel.ensures.fit
    (no_kernel table c.args.text.now c.args.lanes) (λ fault row is. rw is refl)

pub returns-in-Ok-clause-number : goal.returns-in-Ok-clause-number
returns-in-Ok-clause-number g c =
    rw c.widened.ensures (kernel_done c.args.view.now c.run_lanes.new.view c.args.text.now c.args.lanes c.in_ok-kernel.kernel c.in-Ok.number (λ row. kernel_left c.args.view.now row (fit_kernel c.args.view.now.fields c.args.text.now c.args.lanes)) c.in_ok-kernel.ensures.fit c.in-Ok.ensures.run)

pub returns-in-Err-clause-number : goal.returns-in-Err-clause-number
returns-in-Err-clause-number g c =
    rw c.kernel_fault.ensures (kernel_refused c.args.view.now c.run_lanes.new.view c.args.text.now c.args.lanes c.in_ok-kernel.kernel c.in-Err.fault c.in_ok-kernel.ensures.fit c.in-Err.ensures.run)
