use Rattle.layout_io.proofs.Imports.{IsErr, rules, Puts-loop_err, text_of_part}
use Rattle.layout_io.proofs.text_buffer.TextBuffer.put_parts.Goals as goal

pub returns-in_err-put_part : goal.returns-in_err-put_part
returns-in_err-put_part g c =
    let err : IsErr c.from_residual.result = search rules in
    Puts-loop_err _ text_of_part _ _ _ c.loop-part-test.true err c.loop-part.invariant c.in_err-put_part.ensures
