-- From the line that a text is to the text.
use Rattle.session_runs.proofs.Imports.{◌≡◌, ℕ, ◌≤◌, ltb, Bool, false, List, length, Option, None, Some, Result, Ok, Err, refl, sym, ap, subst, ◌∙◌, arith, ◌⊎◌, if◌then◌else◌, IsSome, nat_tests, Rose, File, Sentence, deepest, Line, Version, line_of, HasItsFields, StepFault, ending_of, LineEnd, IsFit, fault_ending, UnreadOnly, World, Unread, Unreadable, EndsBy, EndCause, Outcome, Faults, Left, step, LineTooLong, TooDeep, step_text, step_line, EndsAs, TellsFile}
use Rattle.line_grammar.specs.declared.line.Line.TheVariants as line
use Rattle.command_checks.specs.declared.fault.StepFault.TheVariants as fault
use Rattle.worlds.specs.declared.fold.LineEnd.TheVariants as end

-- a text that is a line does what the line does
pub text_steps : (version : Version) (files : List File) (world : World) (text : List ℕ) (sentence : Sentence) (unread : Bool) → length text ≤ 4096 → line_of version text ≡ Ok sentence → deepest sentence ≤ 32 → step_text version files world text unread ≡ step world sentence files unread
text_steps version files world text sentence unread short is shallow =
    let within : ltb 4096 (length text) ≡ false = grind (arith, nat_tests) in
    let few : ltb 32 (deepest sentence) ≡ false = grind (arith, nat_tests) in
    ap (λ (b : Bool). if b then Faults LineTooLong else step_line files world (line_of version text) unread) within
    ∙ ap (λ (l : Result Sentence ℕ). step_line files world l unread) is
    ∙ ap (λ (b : Bool). if b then Faults TooDeep else step world sentence files unread) few

-- a line whose file was not read ends the run with the file's name
told_unread : {K : Type 0} (taken : K → Option (List ℕ)) (faults : K → ℕ) (old new : K) (name : List ℕ) (file : Option (List ℕ)) (outcome : Bool → Outcome Left) (read_failed : Type 0) (ending : LineEnd) →
    file ≡ Some name → TellsFile name ending → EndsBy taken faults old new outcome read_failed (Unread file) → EndsBy taken faults old new outcome read_failed (ending_of ending)
told_unread taken faults old new name file outcome read_failed (end.Source told) is tells unread =
    subst (λ (f : Option (List ℕ)). EndsBy taken faults old new outcome read_failed (Unread f)) (is ∙ ap Some (sym tells)) unread
told_unread taken faults old new name file outcome read_failed end.NoMemory is tells unread =
    let known : Unreadable taken faults old new outcome read_failed name = subst (λ (f : Option (List ℕ)). EndsBy taken faults old new outcome read_failed (Unread f)) is unread in
    record { count = 0; few = omega arith; bytes = known.wrote.bytes; unfailed = known.wrote.unfailed }
told_unread taken faults old new name file outcome read_failed ending is tells unread = absurd tells

-- a line that is whole is fit for a session
pub fit_of_whole : (l : Line) → HasItsFields l → IsFit l
fit_of_whole (line.Define name dim) whole = whole
fit_of_whole _ whole = tt

-- which counts rose where a file was not read
unread_cause : (name : List ℕ) (files : Option (List File)) (shelf_old shelf_new sink_old sink_new : ℕ) (ending : LineEnd) →
    TellsFile name ending → (Rose shelf_old shelf_new ⊎ IsSome files) × (shelf_old ≤ shelf_new) × (sink_new ≡ sink_old) → EndCause files shelf_old shelf_new sink_old sink_new (ending_of ending)
unread_cause name files shelf_old shelf_new sink_old sink_new (end.Source told) tells cause = cause
unread_cause name files shelf_old shelf_new sink_old sink_new end.NoMemory tells cause = (cause.1, cause.2)
unread_cause name files shelf_old shelf_new sink_old sink_new ending tells cause = absurd tells

-- a line that a session refused so ends the run so
pub ends_as : {K : Type 0} (taken : K → Option (List ℕ)) (faults : K → ℕ) (old new : K) (file : Option (List ℕ)) (outcome : Bool → Outcome Left) (read_failed : Type 0) (refusal : StepFault) (ending : LineEnd) →
    EndsAs file refusal ending → EndsBy taken faults old new outcome read_failed (fault_ending file refusal) → EndsBy taken faults old new outcome read_failed (ending_of ending)
ends_as taken faults old new None outcome read_failed fault.Source ending tells ends = absurd ends
ends_as taken faults old new (Some name) outcome read_failed fault.Source ending tells ends = told_unread taken faults old new name (Some name) outcome read_failed ending refl tells ends
ends_as taken faults old new file outcome read_failed refusal ending is ends = rw is ends

-- and so the counts rose; where it was not read, the line reads a file
pub cause_as : (file : Option (List ℕ)) (files : Option (List File)) (shelf_old shelf_new sink_old sink_new : ℕ) (refusal : StepFault) (ending : LineEnd) →
    (refusal ≡ fault.Source → IsSome file) → EndsAs file refusal ending → EndCause files shelf_old shelf_new sink_old sink_new (fault_ending file refusal) → EndCause files shelf_old shelf_new sink_old sink_new (ending_of ending)
cause_as None files shelf_old shelf_new sink_old sink_new fault.Source ending some tells cause = absurd (cc (some refl))
cause_as (Some name) files shelf_old shelf_new sink_old sink_new fault.Source ending some tells cause = unread_cause name files shelf_old shelf_new sink_old sink_new ending tells cause
cause_as file files shelf_old shelf_new sink_old sink_new refusal ending some is cause = rw is cause

-- only a line that reads a file has one that was not read
pub reads_some : (A : Type 0) {B : Type 0} (file : Option (List ℕ)) (outcome : List File → Bool → Outcome B) (refusal : StepFault) → UnreadOnly {A = A} file outcome (Err refusal) → refusal ≡ fault.Source → IsSome file
reads_some A None outcome fault.Source only is = absurd only
reads_some A (Some name) outcome fault.Source only is = refl
reads_some A file outcome refusal only is = absurd (cc)
