-- A file that is read, or not, on the way to a table.
use Rattle.session.proofs.Imports.{◌≡◌, ◌∙◌, ◌⊎◌, ◌<◌, ◌≤◌, ℕ, Bool, true, false, nat_lt, List, length, Option, Some, None, Result, Ok, Err, inl, inr, ⊎_elim, refl, subst, arith, nat_tests, IsSomeAnd, File, file_named, IsMissing, HasFile, Outcome, Goes, Faults, CannotRead, ◌>>=◌, refused_if, TooBig, Gives, GivesUp, goes_then, StepFault, Loads, IsUnread, UnreadOnly, ToldFor, read_within, ap, Tested, Unread, sure}
use Rattle.command_checks.specs.declared.fault.StepFault.TheVariants as step

-- a file of this name is there
pub file_there : (told : Option (List File)) (files : List File) (name : List ℕ) (P : List ℕ → Type 0) → told ≡ Some files → HasFile told name P → (bytes : List ℕ) × (file_named files name ≡ Some bytes) × P bytes
file_there told files name P is has = there_is (file_named files name) (subst (λ (t : Option (List File)). HasFile t name P) is has)
  where
    there_is : (file : Option (List ℕ)) → IsSomeAnd file P → (bytes : List ℕ) × (file ≡ Some bytes) × P bytes
    there_is None has = absurd has
    there_is (Some bytes) has = (bytes, refl, has)

pub file_missing : (told : Option (List File)) (files : List File) (name : List ℕ) → told ≡ Some files → IsMissing told name → file_named files name ≡ None
file_missing told files name is missing = subst (λ (t : Option (List File)). IsMissing t name) is missing

-- the file is read
pub was_read : (most : ℕ) (files : List File) (name bytes : List ℕ) → file_named files name ≡ Some bytes → length bytes ≤ most → read_within most files false name ≡ Goes bytes
was_read most files name bytes is short =
    let within : nat_lt most (length bytes) ≡ false = grind (arith, nat_tests) in
    rw (is, within) refl

-- it is not
pub was_unread : (most : ℕ) (files : List File) (name : List ℕ) (read_failed : Type 0) → read_failed ⊎ (file_named files name ≡ None) → IsUnread name (λ unread. read_within most files unread name) read_failed
was_unread most files name read_failed cause = record {
  is = refl;
  cause = ⊎_elim (λ (failed : read_failed). inl failed) (λ (none : file_named files name ≡ None). inr (rw none refl)) cause;
}

-- it is too long
pub was_long : (most : ℕ) (files : List File) (name bytes : List ℕ) → file_named files name ≡ Some bytes → most < length bytes → read_within most files false name ≡ Faults TooBig
was_long most files name bytes is long =
    let over : nat_lt most (length bytes) ≡ true = grind (arith, nat_tests) in
    rw (is, over) refl

-- a test of how long bytes are comes with what gives them, or with what is made of them
tested : {A B : Type 0} (test : Bool) (x : A) (rest : A → Tested B) → sure (refused_if test TooBig >>= (λ short. rest x)) ≡ ((sure (refused_if test TooBig) >>= (λ short. Goes x)) >>= (λ y. sure (rest y)))
tested true x rest = refl
tested false x rest = refl

pub within_first : {B : Type 0} (most : ℕ) (held : Outcome (List ℕ)) (rest : List ℕ → Tested B) → (held >>= (λ bytes. sure (refused_if (nat_lt most (length bytes)) TooBig >>= (λ short. rest bytes))))
    ≡ ((held >>= (λ bytes. sure (refused_if (nat_lt most (length bytes)) TooBig) >>= (λ short. Goes bytes))) >>= (λ bytes. sure (rest bytes)))
within_first most (Ok bytes) rest = tested (nat_lt most (length bytes)) bytes rest
within_first most (Err stop) rest = refl

-- a test that gives up before the file is read
pub before_reading : {A B X : Type 0} (name : List ℕ) (view : A → B) (outcome : Bool → Outcome B) (first : Tested X) (next : X → Outcome B) (read_failed : Type 0) (fault : StepFault) (result : Result A StepFault) →
    outcome false ≡ (sure first >>= next) → result ≡ Err fault → GivesUp first fault → Loads name view outcome read_failed result
before_reading name view outcome first next read_failed (step.Command refusal) result same is gives = rw is (same ∙ rw gives refl)
before_reading name view outcome first next read_failed step.NoMemory result same is gives = rw is tt
before_reading name view outcome first next read_failed fault result same is gives = absurd gives

-- what comes behind an outcome that is not reached
pub after_load : {A B C D : Type 0} (name : List ℕ) (view : A → B) (done : C → D) (outcome : Bool → Outcome B) (rest : B → Outcome D) (read_failed : Type 0) (fault : StepFault) (result : Result C StepFault) →
    result ≡ Err fault → Loads {A = A} name view outcome read_failed (Err fault) → Loads name done (λ unread. outcome unread >>= rest) read_failed result
after_load name view done outcome rest read_failed (step.Command refusal) result is loads =
    let refused : outcome false ≡ Faults refusal = loads in
    rw (is, refused) refl
after_load name view done outcome rest read_failed step.NoMemory result is loads = rw is tt
after_load name view done outcome rest read_failed step.Source result is loads =
    let unread : IsUnread name outcome read_failed = loads in
    rw is (record {
      is = rw unread.is refl;
      cause = ⊎_elim (λ (failed : read_failed). inl failed) (λ (always : outcome false ≡ CannotRead name). inr (rw always refl)) unread.cause;
    })
after_load name view done outcome rest read_failed step.Sink result is loads = absurd loads

pub unread_after : (A : Type 0) {B C D : Type 0} (name : List ℕ) (outcome : List File → Bool → Outcome B) (rest : B → Outcome D) (fault : StepFault) (result : Result C StepFault) →
    result ≡ Err fault → UnreadOnly {A = A} (Some name) outcome (Err fault) → UnreadOnly (Some name) (λ files unread. outcome files unread >>= rest) result
unread_after A name outcome rest step.Source result is unread = rw is (λ files. rw (unread files) refl)
unread_after A name outcome rest other result is unread = rw is tt

-- what is told of a load is told of what comes first
pub told_first : {A B : Type 0} (told : Option (List File)) (files : List File) (first : Outcome A) (rest : A → Outcome B) → ToldFor told (first >>= rest) files → ToldFor told first files
told_first told files (Err (Unread name)) rest is = is
told_first told files first rest is = tt

-- the same outcomes, said otherwise
loads_same : {A B : Type 0} (name : List ℕ) (view : A → B) (whole outcome : Bool → Outcome B) (read_failed : Type 0) (result : Result A StepFault) →
    ((unread : Bool) → whole unread ≡ outcome unread) → Loads name view outcome read_failed result → Loads name view whole read_failed result
loads_same name view whole outcome read_failed (Ok x) same goes = same false ∙ goes
loads_same name view whole outcome read_failed (Err (step.Command refusal)) same is = same false ∙ is
loads_same name view whole outcome read_failed (Err step.NoMemory) same loads = tt
loads_same name view whole outcome read_failed (Err step.Source) same unread = record {
  is = same true ∙ unread.is;
  cause = ⊎_elim (λ (failed : read_failed). inl failed) (λ (always : outcome false ≡ CannotRead name). inr (same false ∙ always)) unread.cause;
}
loads_same name view whole outcome read_failed (Err step.Sink) same loads = absurd loads

-- the outcome is what is made of the bytes of this file, which has at most so many
pub record IsOf {B : Type 0} (most : ℕ) (name : List ℕ) (rest : List ℕ → Tested B) (outcome : List File → Bool → Outcome B) : Type 0 where
  pub is : (files : List File) (unread : Bool) → outcome files unread ≡ (read_within most files unread name >>= (λ bytes. sure (rest bytes)))

-- then it reads the file, so the files are told
pub told_of : {B : Type 0} {most : ℕ} {name : List ℕ} {rest : List ℕ → Tested B} {outcome : List File → Bool → Outcome B} (told : Option (List File)) (files : List File) →
    IsOf most name rest outcome → ToldFor told (outcome files true) files → told ≡ Some files
told_of {B} told files reads given = subst (λ (o : Outcome B). ToldFor told o files) (reads.is files true) given

-- the file was read
pub loads_of : {A B : Type 0} {most : ℕ} {name : List ℕ} {rest : List ℕ → Tested B} {outcome : List File → Bool → Outcome B} (view : A → B) (files : List File) (bytes : List ℕ) (read_failed : Type 0) (result : Result A StepFault) →
    IsOf most name rest outcome → read_within most files false name ≡ Goes bytes → Gives view result (rest bytes) → Loads name view (outcome files) read_failed result
loads_of {rest} view files bytes read_failed (Ok x) reads read gives = reads.is files false ∙ goes_then _ (λ bytes. sure (rest bytes)) bytes read ∙ ap sure gives
loads_of {rest} view files bytes read_failed (Err (step.Command refusal)) reads read gives = reads.is files false ∙ goes_then _ (λ bytes. sure (rest bytes)) bytes read ∙ ap sure gives
loads_of view files bytes read_failed (Err step.NoMemory) reads read gives = tt
loads_of view files bytes read_failed (Err fault) reads read gives = absurd gives

-- it was not
pub unloads_of : {A B : Type 0} {most : ℕ} {name : List ℕ} {rest : List ℕ → Tested B} {outcome : List File → Bool → Outcome B} (view : A → B) (files : List File) (read_failed : Type 0) (fault : StepFault) (result : Result A StepFault) →
    IsOf most name rest outcome → result ≡ Err fault → Loads {A = List ℕ} name (λ bytes. bytes) (λ unread. read_within most files unread name) read_failed (Err fault) → Loads name view (outcome files) read_failed result
unloads_of {most} {name} {rest} {outcome} view files read_failed fault result reads is loads =
    loads_same name view (outcome files) (λ unread. read_within most files unread name >>= (λ bytes. sure (rest bytes))) read_failed result (reads.is files)
    (after_load {A = List ℕ} name (λ (bytes : List ℕ). bytes) view (λ unread. read_within most files unread name) (λ bytes. sure (rest bytes)) read_failed fault result is loads)

-- and no other file is told as unread
pub unread_of : (A : Type 0) {B : Type 0} {most : ℕ} {name : List ℕ} {rest : List ℕ → Tested B} {outcome : List File → Bool → Outcome B} (fault : StepFault) (result : Result A StepFault) →
    IsOf most name rest outcome → result ≡ Err fault → UnreadOnly (Some name) outcome result
unread_of A step.Source result reads is = rw is (λ files. reads.is files true)
unread_of A other result reads is = rw is tt

-- a test that gives up tells no file as unread
pub unread_test : {A B X : Type 0} (file : Option (List ℕ)) (first : Tested X) (outcome : List File → Bool → Outcome B) (fault : StepFault) (result : Result A StepFault) → result ≡ Err fault → GivesUp first fault → UnreadOnly file outcome result
unread_test file first outcome step.Source result is gives = absurd gives
unread_test file first outcome other result is gives = rw is tt

-- nor does one that is done without a file
pub unread_gives : {A B C : Type 0} (file : Option (List ℕ)) (view : A → B) (first : Tested B) (outcome : List File → Bool → Outcome C) (result : Result A StepFault) → Gives view result first → UnreadOnly file outcome result
unread_gives file view first outcome (Ok x) gives = tt
unread_gives {A} file view first outcome (Err fault) gives = unread_test {A = A} file first outcome fault (Err fault) refl gives
