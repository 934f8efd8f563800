-- A run that is the same as another one, as far as reads fail there.
use Rattle.std.specs.Prelude.{◌≡◌, ℕ, List, Option, None, Some}
use Rattle.session_runs.specs.Imports.{inl, inr, ⊎_elim, ap, ◌∙◌, Output, Gives, IsText, Answers, IsRun, Unread, Status, Done, CommandFault, Usage, SourceFault, SinkFault, NoMemory}

-- two runs that are the same where no read fails, and where one fails at a line of the first
pub record IsSame (first whole : Option ℕ → Output) : Type 0 where
  pub unfailed : whole None ≡ first None
  pub failed : (line : ℕ) (text : List ℕ) → Gives (first (Some line)) text (Unread line) → whole (Some line) ≡ first (Some line)

text_of_same : (first whole : Option ℕ → Output) (read_failed : Type 0) (text : List ℕ) → IsSame first whole → IsText first read_failed text → IsText whole read_failed text
text_of_same first whole read_failed text same is_text = ⊎_elim
    (λ (plain : (first None).bytes ≡ text). inl (ap (λ (o : Output). o.bytes) same.unfailed ∙ plain))
    (λ (unread : read_failed × (line : ℕ) × Gives (first (Some line)) text (Unread line)). inr (unread.0, unread.1, same.failed unread.1 text unread.2 ∙ unread.2))
    is_text

same_answer : (first whole : Option ℕ → Output) (read_failed : Type 0) (status : Status) (out : List ℕ) → IsSame first whole
    → Answers first read_failed status out → Answers whole read_failed status out
same_answer first whole read_failed SourceFault out same answer =
    (answer.0, same.failed answer.0 out answer.1 ∙ answer.1, ⊎_elim (λ (failed : read_failed). inl failed) (λ (plain : Gives (first None) out (Unread answer.0)). inr (same.unfailed ∙ plain)) answer.2)
same_answer first whole read_failed SinkFault out same answer = (answer.0, text_of_same first whole read_failed answer.0 same answer.1, answer.2, answer.3, answer.4)
same_answer first whole read_failed NoMemory out same answer = (answer.0, text_of_same first whole read_failed answer.0 same answer.1, answer.2, answer.3, answer.4)
same_answer first whole read_failed other out same answer = same.unfailed ∙ answer

pub run_of_same : {K : Type 0} (taken : K → Option (List ℕ)) (old new : K) (first whole : Option ℕ → Output) (read_failed : Type 0) (status : Status)
    → IsSame first whole → IsRun taken old new first read_failed status → IsRun taken old new whole read_failed status
run_of_same taken old new first whole read_failed status same run = record { out = run.out; bytes = run.bytes; answer = same_answer first whole read_failed status run.out same run.answer }

-- two runs that are the same wherever reading fails
pub same_runs : (first whole : Option ℕ → Output) → ((unread : Option ℕ) → whole unread ≡ first unread) → IsSame first whole
same_runs first whole all = record { unfailed = all None; failed = λ line text gives. all (Some line) }
