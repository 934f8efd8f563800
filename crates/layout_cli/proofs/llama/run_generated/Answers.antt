use Rattle.layout_cli.proofs.Imports.{◌≡◌, Some, ap, ◌∙◌, arith, script_text, dataset_text, generated_files}
use Rattle.layout_cli.proofs.Runs.{run_starved}
use Rattle.layout_cli.proofs.Generated.{generated_run, generated_cause}
use Rattle.layout_cli.proofs.llama.run_generated.Goals as goal

pub returns-in_default-clause-run : goal.returns-in_default-clause-run
returns-in_default-clause-run g c = run_starved _ _ _ _

pub returns-in_default-gen_dataset-clause-run : goal.returns-in_default-gen_dataset-clause-run
returns-in_default-gen_dataset-clause-run g c = run_starved _ _ _ _

pub returns-clause-run : goal.returns-clause-run
returns-clause-run g c =
    let rows = c.args.rows in
    let script : c.as_bytes.result.now ≡ script_text rows = c.as_bytes.ensures.value ∙ c.as_str.ensures ∙ c.in-Ok.ensures in
    let dataset : c.new-shelf.result ≡ dataset_text rows = c.new-shelf.ensures ∙ c.in-Ok-gen_dataset.ensures in
    let ran = c.run_form.ensures.run (generated_files (dataset_text rows)) (ap (λ d. Some (generated_files d)) dataset) in
    generated_run g.K.Sink.taken _ _ rows _ (omega arith) (rw script at ran)

pub returns-clause-cause : goal.returns-clause-cause
returns-clause-cause g c =
    let ran = returns-clause-run g c in
    generated_cause c.args.rows (Some (generated_files c.new-shelf.result)) _ _ _ ran.out (omega arith) ran.answer c.run_form.ensures.cause
