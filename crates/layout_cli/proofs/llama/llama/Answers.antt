use Rattle.layout_cli.proofs.Imports.{◌≡◌, Some, map, string_bytes, option_map, ⊎_elim, ap, sym, ◌∙◌, script_name}
use Rattle.layout_cli.proofs.Generated.{file_run}
use Rattle.layout_cli.proofs.Runs.{cause_of_form}
use Rattle.layout_cli.proofs.llama.llama.Goals as goal

pub returns-in-Some-clause-run : goal.returns-in-Some-clause-run
returns-in-Some-clause-run g c = λ files given.
    let words = map string_bytes c.args.words.now in
    let named : script_name words ≡ Some c.in-Some.name.now = sym c.script_name.ensures ∙ ap (option_map (λ name. name.now)) c.in-Some.is in
    file_run _ _ _ words c.in-Some.name.now files _ _ named
    (⊎_elim (λ told. c.run_script.ensures.run files told) (λ none. let clash = sym named ∙ none in absurd (cc)) given)

pub returns-in-Some-clause-cause : goal.returns-in-Some-clause-cause
returns-in-Some-clause-cause g c = cause_of_form _ _ _ _ _ _ _ c.run_script.ensures.cause
