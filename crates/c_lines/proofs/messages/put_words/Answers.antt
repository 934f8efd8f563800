use Rattle.c_lines.proofs.Lemmas.{List, ℕ, Ok, ap, put_told_as}
use Rattle.c_lines.proofs.messages.put_words.Goals as goal

pub returns-in-Ok : goal.returns-in-Ok
returns-in-Ok c =
    put_told_as _ _ c.args.buffer.now c.args.needed.now c.put_said.result c.put_said.new.buffer c.put_said.new.needed
    (ap (λ (text : List ℕ). Ok text) c.in-Ok.ensures) c.put_said.ensures
