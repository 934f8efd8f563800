use Rattle.layout_io.proofs.Imports.{◌≡◌, drop, file_named, files_in}
use Rattle.layout_io.proofs.entries.find.Given as goal

abbrev pub invariant-loop-entry : goal.invariant-loop-entry
invariant-loop-entry l = file_named (files_in (drop l.entry-index l.entries)) l.name ≡ file_named (files_in l.entries) l.name
