use Rattle.worlds.proofs.Imports.{◌≡◌, ◌+◌, List, length, Some, File, World, lines_in, run_from}
use Rattle.worlds.proofs.Folding.{SoFar}
use Rattle.worlds.proofs.fold.run_lines.Given as goal

abbrev pub invariant-loop-line : goal.invariant-loop-line
invariant-loop-line g l = record {
  so_far : (files : List File) (world : World) → g.H.Shelf.files l.initial.shelf ≡ Some files → g.S.Stepper.stands l.initial.session world
      → SoFar (g.S.Stepper.stands l.session) g.K.Sink.taken g.K.Sink.faults l.initial.sink l.sink (g.S.Stepper.outcome l.initial.session files) (run_from (g.S.Stepper.outcome l.initial.session files) (l.before + 1) world (lines_in l.script)) (l.number + 1) (lines_in l.rest);
  same : g.S.Stepper.outcome l.session ≡ g.S.Stepper.outcome l.initial.session;
  count : l.number + length (lines_in l.rest) ≡ l.before + length (lines_in l.script);
  files : g.H.Shelf.files l.shelf ≡ g.H.Shelf.files l.initial.shelf;
  reads : g.H.Shelf.faults l.shelf ≡ g.H.Shelf.faults l.initial.shelf;
  writes : g.K.Sink.faults l.sink ≡ g.K.Sink.faults l.initial.sink;
}

abbrev pub decreases-loop-line : goal.decreases-loop-line
decreases-loop-line g l = length l.rest
