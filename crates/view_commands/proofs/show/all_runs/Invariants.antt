use Rattle.view_commands.proofs.Imports.{◌≡◌, range_with_len, runs_of, owners_of}
use Rattle.record_dim.specs.Std.{flat_map}
use Rattle.view_commands.proofs.show.all_runs.Given as goal

abbrev pub invariant-loop-blob : goal.invariant-loop-blob
invariant-loop-blob l = l.runs ≡ flat_map (runs_of (owners_of l.view)) (range_with_len 0 l.blob)
