use Rattle.layout_io.specs.GatheringLaws.{Writes-gathered}
use Rattle.layout_io.proofs.text_buffer.TextBuffer.flush.Goals as goal

pub returns-clause-writes : goal.returns-clause-writes
returns-clause-writes g c = λ first text gathers. Writes-gathered _ _ gathers (rw (← c.self.view_is) c.write_all-outcome.ensures.writes)
