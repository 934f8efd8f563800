use Rattle.blob_file.proofs.Imports.{◌≡◌, ◌+◌, run_steps}
use Rattle.blob_file.proofs.fill.count_rest.Given as goal

abbrev pub invariant-loop-row : goal.invariant-loop-row
invariant-loop-row g l = l.steps + run_steps l.fn.kind l.rows ≡ l.initial.steps + l._row
