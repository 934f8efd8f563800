-- The refusal of a test of a command, as that of a call; the tests here neither read a file nor write.
use Rattle.c_lines.specs.Imports.{Result, StepFault, ok_or}
use Rattle.command_checks.specs.declared.fault.StepFault.TheVariants as step
use Rattle.c_lines.specs.Answers.{Answer}
use Rattle.c_lines.specs.declared.refusal.Refusal.{Refusal}
use Rattle.c_lines.specs.declared.refusal.Refusal.TheVariants.{NoMemory}
use Rattle.c_lines.specs.Told.{refusal_of}

abbrev pub step_refusal : StepFault → Refusal
step_refusal (step.Command fault) = refusal_of fault
step_refusal _ = NoMemory

abbrev pub answered : {A : Type 0} → Result A StepFault → Answer A
answered given = ok_or step_refusal given
