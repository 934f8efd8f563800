-- The runs of scripts that are within the limits are those over their lines.
use Rattle.layout_cli.proofs.Imports.{◌≡◌, ℕ, ◌≤◌, ◌^◌, Bool, false, ltb, List, length, Option, None, Some, sym, ap, ◌∙◌, arith, if◌then◌else◌, nat_tests, File, file_named, Sentence, Version, World, empty, Outcome, Left, ScriptTooLong, run_from, fails_at, DoesLines, EqualRuns, step_text, run_form, run_headed, run_versioned, faulted, script_lines, version_line, version_said, without_version, run_file, run_script, IsScript, EqualScripts, RunsUnversioned}
use Rattle.session_runs.proofs.Texts.{text_steps}

-- a text that is a line within the limits does what the line does
pub text_does : (version : Version) (files : List File) → DoesLines version files (step_text version files)
text_does version files world text line unread is = text_steps version files world text line unread is.short is.parsed is.shallow

-- a script within the limits is run line by line, in the version that it says
script_run : (files : List File) (name : List ℕ) (head : Option (ℕ × ℕ)) (version : Version) (lines : List Sentence) (unread : Option ℕ) (is : IsScript files name head version lines) → fails_at unread 0 ≡ false → version_said head ≡ Some version
    → run_file name files unread ≡ run_from (step_text version files) 1 empty (without_version head (script_lines is.script)) unread
unfolding run_form
script_run files name head version lines unread is reads said =
    let all = script_lines is.script in
    let short : ltb (2 ^ 20) (length is.script) ≡ false = below (2 ^ 20) (length is.script) is.short in
    let few : ltb 65536 (length all) ≡ false = below 65536 (length all) is.few in
    ap (λ (b : Bool). run_script name (if b then None else file_named files name) files unread) reads ∙ ap (λ file. run_script name file files unread) is.there
    ∙ ap (λ (b : Bool). if b then faulted 0 ScriptTooLong else run_form is.script files unread) short
    ∙ ap (λ (b : Bool). if b then faulted 0 ScriptTooLong else run_headed (version_line all) files all unread) few
    ∙ ap (λ (h : Option (ℕ × ℕ)). run_headed h files all unread) is.headed
    ∙ ap (λ (v : Option Version). run_versioned v head files all unread) said
  where
    below : (limit n : ℕ) → n ≤ limit → ltb limit n ≡ false
    below limit n few = grind (arith, nat_tests)

pub equal_scripts_from : ((version : Version) (files : List File) (outcome : World → List ℕ → Bool → Outcome Left) → DoesLines version files outcome → EqualRuns version files outcome) → (files : List File) → EqualScripts files
equal_scripts_from equal files name other head version lines others unread reads said is also differ =
    script_run files name head version lines unread is reads said
    ∙ equal version files (step_text version files) (text_does version files) (without_version head (script_lines is.script)) (without_version head (script_lines also.script)) lines others unread is.lines_are also.lines_are differ
    ∙ sym (script_run files other head version others unread also reads said)

-- a script without a version line
pub runs_unversioned : (script : List ℕ) (files : List File) → RunsUnversioned script files
unfolding run_form
runs_unversioned script files unread none =
    let lines = script_lines script in
    ap (λ (head : Option (ℕ × ℕ)). if ltb 65536 (length lines) then faulted 0 ScriptTooLong else run_headed head files lines unread) none
