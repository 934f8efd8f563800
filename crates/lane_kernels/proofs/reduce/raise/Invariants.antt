use Rattle.lane_kernels.proofs.Imports.{◌≡◌, map, take, raised}
use Rattle.lane_kernels.proofs.reduce.raise.Given as goal

abbrev pub invariant-loop-at : goal.invariant-loop-at
invariant-loop-at l = take l.at l.values ≡ map (raised l.kind) (take l.at l.lows)
