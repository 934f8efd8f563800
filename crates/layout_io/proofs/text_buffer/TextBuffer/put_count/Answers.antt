use Rattle.layout_io.proofs.Imports.{arith, decimal-digits_text, common_steps}
use Rattle.layout_io.proofs.text_buffer.TextBuffer.put_count.Goals as goal

pub returns : goal.returns
returns g c = grind (arith, common_steps, decimal-digits_text)
