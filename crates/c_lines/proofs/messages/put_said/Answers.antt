use Rattle.c_lines.proofs.Lemmas.{◌≡◌, said_words, put_as}
use Rattle.c_lines.proofs.messages.put_said.Goals as goal

pub returns-in-Word : goal.returns-in-Word
returns-in-Word c =
    let same : c.as_bytes.result.now ≡ said_words c.args.said.now = rw c.in-Word.is c.as_bytes.ensures.value in
    put_as (said_words c.args.said.now) c.args.buffer.now c.args.needed.now c.copy_out.result c.copy_out.new.buffer c.copy_out.new.needed
    (rw same at c.copy_out.ensures.told) (rw same at c.copy_out.ensures.buffer) (rw same at c.copy_out.ensures.needed)

pub returns-in-Fault : goal.returns-in-Fault
returns-in-Fault c = rw c.in-Fault.is c.put_fault.ensures
