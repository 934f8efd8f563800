-- The run over the generated script reads no file that is not there, so it ends as a run that reads nothing.
use Rattle.layout_cli.proofs.Imports.{◌≡◌, ℕ, ◌+◌, ◌≤◌, Bool, true, false, inl, ⊎_elim, List, [], ◌∷◌, get_or, drop, length, Option, None, Some, Result, Ok, Err, refl, sym, ap, subst, ◌∙◌, arith, lit≤, if◌then◌else◌, AllByRecursion, Rose, File, Sentence, deepest, line_of, World, empty, Outcome, Refusal, NotRead, Left, LineTooLong, TooDeep, ScriptTooLong, Output, End, Unread, Gives, IsText, run_from, after, Answers, IsRun, HasCause, HasSinkCause, Status, Done, CommandFault, Usage, SourceFault, SinkFault, NoMemory, script_text, dataset_text, generated_lines, generated_files, One, step_text, step_line, run_form, run_headed, script_lines, version_line, faulted, run, run_file, run_words, run_generated, script_name, gen_words, said_first, nat_lt}
use Rattle.layout_cli.proofs.ScriptLines.{script_lines_are}
use Rattle.layout_cli.proofs.FileLines.{ReadsDataset, lines_read}
use Rattle.layout_cli.proofs.Readable.{IsReadable, goes, faults, refused_or, step_reads}

abbrev IsUnread : End → Type 0
IsUnread (Unread line) = Unit {0}
IsUnread end = ⊥

-- lines that can read what they read
run_reads : (outcome : World → List ℕ → Bool → Outcome Left) (lines : List (List ℕ)) → AllByRecursion (λ text. (world : World) → IsReadable (outcome world text false)) lines
    → (number : ℕ) (world : World) → IsUnread (run_from outcome number world lines None).end → ⊥
run_reads outcome [] reads number world unread = unread
run_reads outcome (text ∷ lines) reads number world unread =
    of_outcome (λ next. run_reads outcome lines reads.1 (number + 1) next) (outcome world text false) (reads.0 world) unread where
      of_outcome : ((next : World) → IsUnread (run_from outcome (number + 1) next lines None).end → ⊥) → (o : Outcome Left) → IsReadable o → IsUnread (after number o (λ next. run_from outcome (number + 1) next lines None)).end → ⊥
      of_outcome below (Ok _) (goes left) unread = below left.held unread
      of_outcome below (Err (Refusal _)) (faults fault) unread = unread
      of_outcome below (Err (NotRead _)) is unread = elim is [ ]

-- a line that reads the dataset, if a file
text_reads : (dataset text : List ℕ) → ReadsDataset dataset text → (world : World) → IsReadable (step_text One (generated_files dataset) world text false)
text_reads dataset text reads world = refused_or (nat_lt 4096 (length text)) LineTooLong (of_read (line_of One text) refl) where
  of_read : (read : Result Sentence ℕ) → line_of One text ≡ read → IsReadable (step_line (generated_files dataset) world read false)
  of_read (Err column) is = faults _
  of_read (Ok sentence) is = refused_or (nat_lt 32 (deepest sentence)) TooDeep (step_reads world sentence (generated_files dataset) dataset (reads sentence is))

texts_read : (dataset : List ℕ) (lines : List (List ℕ)) → AllByRecursion (ReadsDataset dataset) lines → AllByRecursion (λ text. (world : World) → IsReadable (step_text One (generated_files dataset) world text false)) lines
texts_read dataset [] reads = tt
texts_read dataset (text ∷ lines) reads = (text_reads dataset text reads.0, texts_read dataset lines reads.1)

-- the first line of the generated script is a record
generated_headless : (rows : ℕ) → version_line (generated_lines rows) ≡ None
generated_headless rows = said_first (get_or (generated_lines rows) 0 []) (drop 1 (generated_lines rows)) None (lit≤ tt) refl refl

-- the end of the run over the generated script
generated_reads : (rows : ℕ) → rows ≤ 65536 → IsUnread (run_generated rows).end → ⊥
unfolding run_form
generated_reads rows few unread = of_test (nat_lt 65536 (length (script_lines (script_text rows)))) (version_line (script_lines (script_text rows))) headless unread where
  dataset : List ℕ
  dataset = dataset_text rows

  reads : AllByRecursion (λ text. (world : World) → IsReadable (step_text One (generated_files dataset) world text false)) (script_lines (script_text rows))
  reads = subst (AllByRecursion (λ text. (world : World) → IsReadable (step_text One (generated_files dataset) world text false))) (sym (script_lines_are rows few)) (texts_read dataset (generated_lines rows) (lines_read dataset rows))

  headless : version_line (script_lines (script_text rows)) ≡ None
  headless = ap version_line (script_lines_are rows few) ∙ generated_headless rows

  of_test : (test : Bool) (head : Option (ℕ × ℕ)) → head ≡ None → IsUnread (if test then faulted 0 ScriptTooLong else run_headed head (generated_files dataset) (script_lines (script_text rows)) None).end → ⊥
  of_test true head none unread = unread
  of_test false (Some found) none unread = absurd (cc)
  of_test false None none unread = run_reads (step_text One (generated_files dataset)) (script_lines (script_text rows)) reads 1 empty unread

-- no read failed of a shelf that counts none
unrisen : Rose 0 0 → ⊥
unrisen rose = omega (arith, rose)

unread_end : (output : Output) (out : List ℕ) (line : ℕ) → Gives output out (Unread line) → IsUnread output.end
unread_end output out line gives = subst (λ (o : Output). IsUnread o.end) (sym gives) tt

-- where no read fails the text is that of the run in which none does
text_same : (first whole : Option ℕ → Output) (failed other : Type 0) (text : List ℕ) → whole None ≡ first None → (failed → ⊥) → IsText first failed text → IsText whole other text
text_same first whole failed other text same none is =
    ⊎_elim (λ (plain : (first None).bytes ≡ text). inl (ap (λ (o : Output). o.bytes) same ∙ plain)) (λ (read : failed × (line : ℕ) × Gives (first (Some line)) text (Unread line)). absurd (none read.0)) is

generated_answer : (rows : ℕ) (status : Status) (out : List ℕ) → rows ≤ 65536 → Answers (run_form (script_text rows) (generated_files (dataset_text rows))) (Rose 0 0) status out → Answers (λ unread. run_generated rows) ⊥ status out
generated_answer rows SourceFault out few answer =
    absurd (⊎_elim unrisen (λ (plain : Gives (run_generated rows) out (Unread answer.0)). generated_reads rows few (unread_end (run_generated rows) out answer.0 plain)) answer.2)
generated_answer rows SinkFault out few answer = (answer.0, text_same (run_form (script_text rows) (generated_files (dataset_text rows))) (λ unread. run_generated rows) (Rose 0 0) ⊥ answer.0 refl unrisen answer.1, answer.2, answer.3, answer.4)
generated_answer rows NoMemory out few answer = (answer.0, text_same (run_form (script_text rows) (generated_files (dataset_text rows))) (λ unread. run_generated rows) (Rose 0 0) ⊥ answer.0 refl unrisen answer.1, answer.2, answer.3, answer.4)
generated_answer rows other out few answer = answer

-- the run over a shelf of the dataset is that of `gen N`
pub generated_run : {K : Type 0} (taken : K → Option (List ℕ)) (old new : K) (rows : ℕ) (status : Status) → rows ≤ 65536 → IsRun taken old new (run_form (script_text rows) (generated_files (dataset_text rows))) (Rose 0 0) status → IsRun taken old new (λ unread. run_generated rows) ⊥ status
generated_run taken old new rows status few is = record { out = is.out; bytes = is.bytes; answer = generated_answer rows status is.out few is.answer }

-- and its status is that of a run that reads nothing
pub generated_cause : (rows : ℕ) (files : Option (List File)) (sink_old sink_new : ℕ) (status : Status) (out : List ℕ) → rows ≤ 65536 → Answers (λ unread. run_generated rows) ⊥ status out → HasCause ⊥ files 0 0 sink_old sink_new status → HasSinkCause sink_old sink_new status
generated_cause rows files sink_old sink_new Usage out few answer cause = absurd cause.0
generated_cause rows files sink_old sink_new SourceFault out few answer cause = absurd (generated_reads rows few (unread_end (run_generated rows) out answer.0 answer.1))
generated_cause rows files sink_old sink_new other out few answer cause = cause.1

-- the run of words of the form `run FILE`
pub file_run : {K : Type 0} (taken : K → Option (List ℕ)) (old new : K) (words : List (List ℕ)) (name : List ℕ) (files : List File) (read_failed : Type 0) (status : Status) → script_name words ≡ Some name → IsRun taken old new (run_file name files) read_failed status → IsRun taken old new (run words files) read_failed status
file_run taken old new words name files read_failed status named is =
    let same : run words files ≡ run_file name files = ap (λ name. run_words name (gen_words words) files) named in
    rw same is
