use Rattle.command_checks.specs.Inner.Stencils.{stencil_of}
use Rattle.view_commands.proofs.Stencils.{rounds_done, rounds_refused}
use Rattle.view_commands.proofs.stencil.run_rounds.Goals as goal

pub returns-in-Ok : goal.returns-in-Ok
returns-in-Ok g c = rounds_done c.args.view.now c.stencil-done.new.view c.args.rounds (stencil_of c.args.fit.now) (rw c.as_slice.ensures.value at c.in-Ok.ensures.stored) (rw c.as_slice.ensures.value at c.in-Ok.ensures.counted)

pub returns-in-Err : goal.returns-in-Err
returns-in-Err g c = rw c.store_fault.ensures (rounds_refused c.args.view.now c.stencil-done.new.view c.args.rounds (stencil_of c.args.fit.now) c.in-Err.refused
    (rw c.as_slice.ensures.value at c.in-Err.ensures.refused) (rw c.as_slice.ensures.value at c.in-Err.ensures.so_far))
