use Rattle.bench_layouts.proofs.kernels.run_rounds.Goals as goal

pub run_lanes-requires-clause-kernel : goal.run_lanes-requires-clause-kernel
run_lanes-requires-clause-kernel g c = c.requires.kernel c.loop-round.view c.loop-round.invariant
