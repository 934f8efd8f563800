-- From the run of a script that was read to the run of the words that name it.
use Rattle.layout_cli.proofs.Imports.{◌≡◌, ℕ, ◌+◌, ◌≤◌, ◌^◌, inl, Bool, true, false, ltb, List, [], ◌∷◌, length, Option, None, Some, refl, sym, ap, subst, ◌∙◌, arith, rules, tests, if◌then◌else◌, IsSomeAnd, nat_tests, File, file_named, HasFile, with_bytes-nil, World, empty, Outcome, Ok, Err, Refusal, NotRead, Left, ScriptTooLong, Output, End, Unread, Gives, IsRun, HasCause, run_from, after, fails_at, Status, Done, CommandFault, Usage, SourceFault, SinkFault, NoMemory, Version, step_text, run_form, run_headed, run_versioned, faulted, script_lines, version_line, version_said, without_version, run_file, run_script, IsSame, run_of_same}

-- nothing was taken, and there was no memory
pub run_starved : {K : Type 0} (taken : K → Option (List ℕ)) (old : K) (run : Option ℕ → Output) (read_failed : Type 0) → IsRun taken old old run read_failed NoMemory
run_starved taken old run read_failed = record {
  out = [];
  bytes = sym (with_bytes-nil (taken old));
  answer = ((run None).bytes, inl refl, 0, omega arith, refl);
}

-- a script that was read whole is the file of this name
pub file_read : (told : Option (List File)) (files : List File) (name script : List ℕ) → told ≡ Some files → HasFile told name (λ file. script ≡ file) → file_named files name ≡ Some script
file_read told files name script is_told has = found (file_named files name) script (subst (λ (t : Option (List File)). HasFile t name (λ file. script ≡ file)) is_told has) where
  found : (file : Option (List ℕ)) (script : List ℕ) → IsSomeAnd file (λ f. script ≡ f) → file ≡ Some script
  found None script has = absurd has
  found (Some file) script has = ap Some (sym has)

-- the line that was not read, and 0 where each was
abbrev line_in : End → ℕ
line_in (Unread line) = line
line_in end = 0

-- a run from a line on stops at no line before it
unread_later : (outcome : World → List ℕ → Bool → Outcome Left) (number : ℕ) (world : World) (lines : List (List ℕ)) (unread : Option ℕ) (line : ℕ) → (run_from outcome number world lines unread).end ≡ Unread line → number ≤ line
unread_later outcome number world [] unread line is = absurd (cc)
unread_later outcome number world (text ∷ lines) unread line is = of_outcome (λ next. unread_later outcome (number + 1) next lines unread line) (outcome world text (fails_at unread number)) is where
  of_outcome : ((next : World) → (run_from outcome (number + 1) next lines unread).end ≡ Unread line → number + 1 ≤ line) → (o : Outcome Left) → (after number o (λ next. run_from outcome (number + 1) next lines unread)).end ≡ Unread line → number ≤ line
  of_outcome below (Ok left) is = omega (arith, below left.held is)
  of_outcome below (Err (Refusal fault)) is = absurd (cc)
  of_outcome below (Err (NotRead name)) is = let here : number ≡ line = ap line_in is in omega (arith, here)

-- the lines of a script have numbers from 1 on
versioned_later : (said : Option Version) (head : Option (ℕ × ℕ)) (files : List File) (lines : List (List ℕ)) (line : ℕ) → (run_versioned said head files lines (Some line)).end ≡ Unread line → 1 ≤ line
versioned_later None head files lines line is = absurd (cc)
versioned_later (Some version) head files lines line is = unread_later (step_text version files) 1 empty (without_version head lines) (Some line) line is

form_later : (script : List ℕ) (files : List File) (line : ℕ) (text : List ℕ) → Gives (run_form script files (Some line)) text (Unread line) → 1 ≤ line
unfolding run_form
form_later script files line text gives = of_test (ltb 65536 (length (script_lines script))) (version_line (script_lines script)) (ap (λ (o : Output). o.end) gives) where
  of_test : (test : Bool) (head : Option (ℕ × ℕ)) → (if test then faulted 0 ScriptTooLong else run_headed head files (script_lines script) (Some line)).end ≡ Unread line → 1 ≤ line
  of_test true head is = absurd (cc)
  of_test false head is = versioned_later (version_said head) head files (script_lines script) line is

-- the run goes on with a script that was read
goes_on : (files : List File) (name script : List ℕ) (unread : Option ℕ) → file_named files name ≡ Some script → length script ≤ 2 ^ 20 → fails_at unread 0 ≡ false → run_file name files unread ≡ run_form script files unread
goes_on files name script unread is small reads =
    let short : ltb (2 ^ 20) (length script) ≡ false = search (rules, tests) in
    ap (λ (b : Bool). run_script name (if b then None else file_named files name) files unread) reads ∙ ap (λ file. run_script name file files unread) is ∙ ap (λ (b : Bool). if b then faulted 0 ScriptTooLong else run_form script files unread) short

-- a script that was read is run as the words say that name it
pub run_read : {K : Type 0} (taken : K → Option (List ℕ)) (old new : K) (files : List File) (name script : List ℕ) (read_failed : Type 0) (status : Status) → file_named files name ≡ Some script → length script ≤ 2 ^ 20 → IsRun taken old new (run_form script files) read_failed status → IsRun taken old new (run_file name files) read_failed status
run_read taken old new files name script read_failed status is small run =
    let same : IsSame (run_form script files) (run_file name files) = record {
      unfailed = goes_on files name script None is small refl;
      failed = λ line text gives. goes_on files name script (Some line) is small (later line (form_later script files line text gives));
    } in
    run_of_same taken old new (run_form script files) (run_file name files) read_failed status same run
  where
    later : (line : ℕ) → 1 ≤ line → fails_at (Some line) 0 ≡ false
    later line some = grind (arith, nat_tests)

-- what words of a form say of the counts
pub cause_of_form : (misused : Type 0) (files : Option (List File)) (shelf_old shelf_new sink_old sink_new : ℕ) (status : Status) →
    HasCause ⊥ files shelf_old shelf_new sink_old sink_new status → HasCause misused files shelf_old shelf_new sink_old sink_new status
cause_of_form misused files shelf_old shelf_new sink_old sink_new Usage cause = absurd cause.0
cause_of_form misused files shelf_old shelf_new sink_old sink_new other cause = cause
