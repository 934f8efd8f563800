use Rattle.c_lines.proofs.Imports.{rules, SFits, to_z-of_z, w32}
use Rattle.c_lines.proofs.messages.refusal_by.Goals as goal

pub returns : goal.returns
returns c =
    let answer : SFits w32 c.args.answer = search rules in
    let cause : SFits w32 c.args.fault.now.cause = search rules in
    rw (to_z-of_z w32 c.args.answer answer, to_z-of_z w32 c.args.fault.now.cause cause, c.refusals_at.ensures) at c.first_told.ensures
