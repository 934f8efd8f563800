-- From the run over the lines of a script to the run of the script.
use Rattle.session_runs.proofs.Imports.{◌≡◌, ℕ, ◌+◌, ◌≤◌, ◌<◌, inl, Bool, true, false, ltb, List, length, take, drop, Option, None, Some, Result, Ok, Err, refl, ap, ◌∙◌, arith, if◌then◌else◌, nat_tests, File, Writes, empty, fault_text, Fault, ScriptTooLong, BadVersion, Output, IsRun, ended_status, run_from, Status, CommandFault, version_numbered, Version, One, step_text, run_form, run_headed, run_versioned, faulted, script_lines, version_line, run_of_same, same_runs}
use Rattle.session_runs.proofs.Heads.{skips}

-- a run that is a fault alone
run_faulted : {K T E : Type 0} (taken : K → Option (List ℕ)) (faults : K → ℕ) (old new : K) (run : Option ℕ → Output) (read_failed : Type 0) (line : ℕ) (fault : Fault) (written : Result T E) → run None ≡ faulted line fault → Writes taken faults old new written (fault_text line fault) → IsRun taken old new run read_failed (ended_status written CommandFault)
run_faulted taken faults old new run read_failed line fault (Ok done) is wrote = record { out = fault_text line fault; bytes = wrote.bytes; answer = is }
run_faulted taken faults old new run read_failed line fault (Err failed) is stopped = record {
  out = take stopped.count (fault_text line fault);
  bytes = stopped.bytes;
  answer = (fault_text line fault, inl (ap (λ (o : Output). o.bytes) is), stopped.count, stopped.proper, refl);
}

-- a script of too many lines
pub run_long : {K T E : Type 0} (taken : K → Option (List ℕ)) (faults : K → ℕ) (old new : K) (script : List ℕ) (files : List File) (read_failed : Type 0) (written : Result T E) → 65536 < length (script_lines script) → Writes taken faults old new written (fault_text 0 ScriptTooLong) → IsRun taken old new (run_form script files) read_failed (ended_status written CommandFault)
unfolding run_form
run_long taken faults old new script files read_failed written long writes =
    let over : ltb 65536 (length (script_lines script)) ≡ true = grind (arith, nat_tests) in
    let is : run_form script files None ≡ faulted 0 ScriptTooLong =
    ap (λ (b : Bool). if b then faulted 0 ScriptTooLong else run_headed (version_line (script_lines script)) files (script_lines script) None) over in
    run_faulted taken faults old new (run_form script files) read_failed 0 ScriptTooLong written is writes

-- any other script is run in the version that it says
pub run_short : {K : Type 0} (taken : K → Option (List ℕ)) (old new : K) (script : List ℕ) (files : List File) (read_failed : Type 0) (status : Status) → length (script_lines script) ≤ 65536 → IsRun taken old new (run_headed (version_line (script_lines script)) files (script_lines script)) read_failed status → IsRun taken old new (run_form script files) read_failed status
unfolding run_form
run_short taken old new script files read_failed status short run =
    let within : ltb 65536 (length (script_lines script)) ≡ false = grind (arith, nat_tests) in
    let head = version_line (script_lines script) in
    run_of_same taken old new (run_headed head files (script_lines script)) (run_form script files) read_failed status (same_runs (run_headed head files (script_lines script)) (run_form script files)
    (λ unread. ap (λ (b : Bool). if b then faulted 0 ScriptTooLong else run_headed head files (script_lines script) unread) within)) run

-- lines without a version line
pub run_plain : {K : Type 0} (taken : K → Option (List ℕ)) (old new : K) (lines : List (List ℕ)) (files : List File) (read_failed : Type 0) (status : Status) → version_line lines ≡ None → IsRun taken old new (run_from (step_text One files) 1 empty lines) read_failed status → IsRun taken old new (run_headed (version_line lines) files lines) read_failed status
run_plain taken old new lines files read_failed status none run =
    run_of_same taken old new (run_from (step_text One files) 1 empty lines) (run_headed (version_line lines) files lines) read_failed status
    (same_runs (run_from (step_text One files) 1 empty lines) (run_headed (version_line lines) files lines) (λ unread. ap (λ (head : Option (ℕ × ℕ)). run_headed head files lines unread) none)) run

-- lines with a version line, of which those behind it are done
pub run_behind_head : {K : Type 0} (taken : K → Option (List ℕ)) (old new : K) (lines : List (List ℕ)) (files : List File) (read_failed : Type 0) (status : Status) (found : ℕ × ℕ) (version : Version) → version_line lines ≡ Some found → version_numbered found.1 ≡ Some version
    → IsRun taken old new (run_from (step_text version files) (found.0 + 1 + 1) empty (drop (found.0 + 1) lines)) read_failed status → IsRun taken old new (run_headed (version_line lines) files lines) read_failed status
run_behind_head taken old new lines files read_failed status found version is said run =
    let first = run_from (step_text version files) (found.0 + 1 + 1) empty (drop (found.0 + 1) lines) in
    let place : 1 + found.0 + 1 ≡ found.0 + 1 + 1 = omega arith in
    run_of_same taken old new first (run_headed (version_line lines) files lines) read_failed status
    (same_runs first (run_headed (version_line lines) files lines) (λ unread.
    ap (λ (head : Option (ℕ × ℕ)). run_headed head files lines unread) is
    ∙ ap (λ (v : Option Version). run_versioned v (Some found) files lines unread) said
    ∙ skips version files unread lines 1 empty found is
    ∙ ap (λ (n : ℕ). run_from (step_text version files) n empty (drop (found.0 + 1) lines) unread) place)) run

-- lines with a version line of a number that is no version
pub run_unknown : {K T E : Type 0} (taken : K → Option (List ℕ)) (faults : K → ℕ) (old new : K) (lines : List (List ℕ)) (files : List File) (read_failed : Type 0) (found : ℕ × ℕ) (written : Result T E) → version_line lines ≡ Some found → version_numbered found.1 ≡ None
    → Writes taken faults old new written (fault_text (found.0 + 1) BadVersion) → IsRun taken old new (run_headed (version_line lines) files lines) read_failed (ended_status written CommandFault)
run_unknown taken faults old new lines files read_failed found written is said writes =
    let fault : run_headed (version_line lines) files lines None ≡ faulted (found.0 + 1) BadVersion =
    ap (λ (head : Option (ℕ × ℕ)). run_headed head files lines None) is ∙ ap (λ (v : Option Version). run_versioned v (Some found) files lines None) said in
    run_faulted taken faults old new (run_headed (version_line lines) files lines) read_failed (found.0 + 1) BadVersion written fault writes
