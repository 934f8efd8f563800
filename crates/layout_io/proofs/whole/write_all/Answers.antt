use Rattle.layout_io.proofs.Loops.{WritesFront-more}
use Rattle.layout_io.proofs.whole.write_all.Goals as goal

pub loop-done-preserved : goal.loop-done-preserved
loop-done-preserved g c = WritesFront-more _ _ c.loop-done.invariant c.loop-done-test.true c.in_ok-done.ensures.bound c.in_ok-done.ensures.taken c.in_ok-done.ensures.faults
