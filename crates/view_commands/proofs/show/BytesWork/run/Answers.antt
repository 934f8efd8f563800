use Rattle.view_commands.proofs.Imports.{ap, ◌∙◌, bits_of, bytes_of, bytes_text, done_to, GivesUp-then, Told, telling, Tested, common_steps, arith}
use Rattle.view_commands.specs.ExitsLaws.{gave_up}
use Rattle.view_commands.proofs.Shown.{tells_left, then_broke, then_wrote}
use Rattle.view_commands.proofs.show.BytesWork.run.Goals as goal

pub returns-in_err-blob-clause-answers : goal.returns-in_err-blob-clause-answers
returns-in_err-blob-clause-answers g c = grind (arith, common_steps, gave_up, GivesUp-then)

pub returns-in_err-write_bytes-clause-answers : goal.returns-in_err-write_bytes-clause-answers
returns-in_err-write_bytes-clause-answers g c = grind (arith, common_steps, then_broke, tells_left)

pub returns-clause-answers : goal.returns-clause-answers
returns-clause-answers g c =
    let table = c.args.view.now in
    let text = bytes_text (bytes_of (bits_of c.in_ok-blob.blob.now)) in
    then_wrote g.K.Sink.taken g.K.Sink.faults c.args.out.now c.write_bytes.new.sink c.args.view.now _ text
    (ap (λ (outcome : Tested Told). done_to table (telling (λ shown. outcome) table)) c.in_ok-blob.ensures ∙ tells_left table text) c.in_ok-write_bytes.ensures
