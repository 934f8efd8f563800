use Rattle.c_lines.proofs.Lemmas.{◌≡◌, ◌∙◌, fault_words, line_taken, put_as}
use Rattle.c_lines.proofs.messages.put_fault.Goals as goal

pub words_in-requires : goal.words_in-requires
words_in-requires c = (line_taken c.args.fault.now c.new-sink.result.bytes.items c.taken.result.now c.new-sink.ensures (rw c.taken.ensures c.in-Ok.ensures.bytes)).long

pub returns-in-Ok : goal.returns-in-Ok
returns-in-Ok c =
    let line = line_taken c.args.fault.now c.new-sink.result.bytes.items c.taken.result.now c.new-sink.ensures (rw c.taken.ensures c.in-Ok.ensures.bytes) in
    let same : c.words_in.result.now ≡ fault_words c.args.fault.now = c.words_in.ensures ∙ line.words in
    put_as (fault_words c.args.fault.now) c.args.buffer.now c.args.needed.now c.copy_out.result c.copy_out.new.buffer c.copy_out.new.needed
    (rw same at c.copy_out.ensures.told) (rw same at c.copy_out.ensures.buffer) (rw same at c.copy_out.ensures.needed)
