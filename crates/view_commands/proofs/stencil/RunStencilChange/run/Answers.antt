use Rattle.view_commands.proofs.Imports.{◌*◌, rules, refl, common_steps, arith}
use Rattle.command_checks.specs.Inner.Stencils.{stencil_of}
use Rattle.view_commands.proofs.Changing.{changed_as, stopped}
use Rattle.view_commands.proofs.Stencils.{no_room_left, run_is, unfit}
use Rattle.view_commands.specs.Changes.{rounds_left}
use Rattle.view_commands.proofs.stencil.RunStencilChange.run.Goals as goal

pub returns-in_err-fit-clause-changed : goal.returns-in_err-fit-clause-changed
returns-in_err-fit-clause-changed g c = grind (arith, common_steps, stopped, unfit)

pub returns-in_err-check_room-clause-changed : goal.returns-in_err-check_room-clause-changed
returns-in_err-check_room-clause-changed g c =
    let this = c.args.self.now in
    let table = c.args.view.now in
    let fit = rw (c.as_slice.ensures, c.as_slice-2.ensures) at c.in_ok-fit.ensures.fit in
    no_room_left (8 * this.live) table this.window.now this.path.now this.terms.now this.divisor.now this.rounds.now (stencil_of c.in_ok-fit.fit) c.in_err-check_room.field-0.0 _ (search rules) fit c.in_err-check_room.ensures

pub returns-clause-changed : goal.returns-clause-changed
returns-clause-changed g c =
    let this = c.args.self.now in
    let table = c.args.view.now in
    let fit = rw (c.as_slice.ensures, c.as_slice-2.ensures) at c.in_ok-fit.ensures.fit in
    let whole = run_is (8 * this.live) table this.window.now this.path.now this.terms.now this.divisor.now this.rounds.now (stencil_of c.in_ok-fit.fit) fit c.in_ok-check_room.ensures in
    changed_as _ _ _ (λ row. rounds_left table (stencil_of c.in_ok-fit.fit) this.rounds.now) table c.run_rounds.new.view c.run_rounds.result whole (λ row. rw fit refl) c.run_rounds.ensures
