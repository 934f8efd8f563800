use Rattle.layout_cli.proofs.Imports.{ℕ, ◌∙◌, subst, Rose, run_file, IsRun}
use Rattle.layout_cli.proofs.Runs.{run_starved, file_read, run_read}
use Rattle.layout_cli.proofs.llama.run_script.Goals as goal

pub returns-in-Ok-clause-run : goal.returns-in-Ok-clause-run
returns-in-Ok-clause-run g c = λ files told.
    let name = c.args.name.now in
    let read = c.in-Ok.ensures.whole in
    let is = file_read _ files name c.as_slice.result.now told (rw c.as_slice.ensures read.0) in
    let small = rw (← c.as_slice.ensures) at read.1 in
    let P = λ (n : ℕ). IsRun {K = g.row.K.Denot} g.K.Sink.taken c.args.sink.now c.run_form.new.sink (run_file name files) (Rose n (g.H.Shelf.faults c.run_form.new.shelf)) c.run_form.result in
    subst P read.2 (run_read _ _ _ files name c.as_slice.result.now _ _ is small (c.run_form.ensures.run files (c.read_all.ensures.files ∙ told)))

pub returns-in-Err-NoMemory-clause-run : goal.returns-in-Err-NoMemory-clause-run
returns-in-Err-NoMemory-clause-run g c = λ files told. run_starved _ _ _ _
