-- How the lines that were done make a run of all lines.
use Rattle.worlds.proofs.Imports.{◌≡◌, ℕ, ◌+◌, ◌≤◌, inl, inr, ⊎_elim, Bool, true, false, List, [], ◌∷◌, ◌++◌, length, take, Option, None, Some, Result, Ok, Err, refl, sym, ap, subst, ◌∙◌, arith, append_assoc, length-append, nat_tests, append-nil, take-append-le, ⊤, ◌⊎◌, with_bytes, Wrote, Writes, Wrote-append, Stopped-second, with_bytes-append, Writes-last, take_past, Stopped-front, World, Outcome, Goes, Faults, CannotRead, Left, fault_text, unread_text, Fault, Output, IsText, Gives, Unread, Answers, IsRun, ended_status, run_from, after, prepend, fails_at, Did, Refused, Unreadable, Broke, Fronted, text_of, Status, Done, CommandFault, SourceFault, SinkFault, NoMemory, Refusal, NotRead}

-- reading fails nowhere, or at this line or a later one
abbrev pub IsAhead : ℕ → Option ℕ → Type 0
IsAhead number None = ⊤
IsAhead number (Some line) = number ≤ line

-- the run of all lines goes on as that of the lines from this number on, behind what was written
pub record GoesOn (outcome : World → List ℕ → Bool → Outcome Left) (run : Option ℕ → Output) (number : ℕ) (world : World) (lines : List (List ℕ)) (written : List ℕ) : Type 0 where
  pub on : (unread : Option ℕ) → IsAhead number unread → run unread ≡ prepend written (run_from outcome number world lines unread)

-- what a loop over the lines keeps
pub record SoFar {K : Type 0} (Stands : World → Type 0) (taken : K → Option (List ℕ)) (faults : K → ℕ) (old now : K) (outcome : World → List ℕ → Bool → Outcome Left) (run : Option ℕ → Output) (number : ℕ) (lines : List (List ℕ)) : Type 0 where
  pub world : World
  pub written : List ℕ
  pub stands : Stands world
  pub wrote : Wrote taken faults old now written
  pub goes : GoesOn outcome run number world lines written

-- reading does not fail at a line before the one where it fails
not_here : (number : ℕ) (unread : Option ℕ) → IsAhead (number + 1) unread → fails_at unread number ≡ false
not_here number unread ahead = grind (arith, nat_tests)

still_ahead : (number : ℕ) (unread : Option ℕ) → IsAhead (number + 1) unread → IsAhead number unread
still_ahead number unread ahead = grind arith

prepend-append : (a b : List ℕ) (output : Output) → prepend a (prepend b output) ≡ prepend (a ++ b) output
prepend-append a b output = ap (λ bytes. record { bytes = bytes; end = output.end }) (sym (append_assoc a b output.bytes))

-- one line more was done
pub one_more : {S K : Type 0} (Stands : S → World → Type 0) (taken : K → Option (List ℕ)) (faults : K → ℕ) (old mid new : K) (outcome : World → List ℕ → Bool → Outcome Left) (run : Option ℕ → Output) (number : ℕ) (line : List ℕ) (lines : List (List ℕ)) (before next : S) → (so_far : SoFar (Stands before) taken faults old mid outcome run number (line ∷ lines)) → Did Stands taken faults mid new (outcome so_far.world line false) next → SoFar (Stands next) taken faults old new outcome run (number + 1) lines
one_more Stands taken faults old mid new outcome run number line lines before next so_far did = record {
  world = did.left.held;
  written = so_far.written ++ did.left.text;
  stands = did.stands;
  wrote = Wrote-append so_far.wrote did.wrote;
  goes = grind (arith, still_ahead, not_here, prepend-append);
}

-- a text was written, or not to its end, and the run has this text and status
pub run_by : {K T E : Type 0} (taken : K → Option (List ℕ)) (faults : K → ℕ) (old new : K) (run : Option ℕ → Output) (read_failed : Type 0) (text : List ℕ) (status : Status) (written : Result T E) → Writes taken faults old new written text → Answers run read_failed status text → IsText run read_failed text → IsRun taken old new run read_failed (ended_status written status)
run_by taken faults old new run read_failed text status written h9 answer is_text = grind arith

-- all lines were done
pub at_end : {K : Type 0} {Stands : World → Type 0} (taken : K → Option (List ℕ)) (faults : K → ℕ) (old now : K) (outcome : World → List ℕ → Bool → Outcome Left) (run : Option ℕ → Output) (read_failed : Type 0) (number : ℕ) → SoFar Stands taken faults old now outcome run number [] → IsRun taken old now run read_failed Done
at_end taken faults old now outcome run read_failed number so_far = grind (arith, append-nil)

-- the run where reading fails nowhere, at a line whose outcome is this
run_at : {K : Type 0} {Stands : World → Type 0} {taken : K → Option (List ℕ)} {faults : K → ℕ} {old now : K} {outcome : World → List ℕ → Bool → Outcome Left} {run : Option ℕ → Output} {number : ℕ} {line : List ℕ} {lines : List (List ℕ)} (so_far : SoFar Stands taken faults old now outcome run number (line ∷ lines)) (o : Outcome Left) → outcome so_far.world line false ≡ o → run None ≡ prepend so_far.written (after number o (λ w. run_from outcome (number + 1) w lines None))
run_at {outcome} {number} {lines} so_far o is = grind arith

-- a command was refused
pub at_fault : {K T E : Type 0} {Stands : World → Type 0} (taken : K → Option (List ℕ)) (faults : K → ℕ) (old mid ready new : K) (outcome : World → List ℕ → Bool → Outcome Left) (run : Option ℕ → Output) (read_failed : Type 0) (number : ℕ) (line : List ℕ) (lines : List (List ℕ)) (fault : Fault) (written : Result T E) → (so_far : SoFar Stands taken faults old mid outcome run number (line ∷ lines)) → Refused taken faults mid ready (outcome so_far.world line false) (Faults fault) → Writes taken faults ready new written (fault_text number fault) → IsRun taken old new run read_failed (ended_status written CommandFault)
at_fault taken faults old mid ready new outcome run read_failed number line lines fault written so_far refused writes =
    let is = run_at so_far (Faults fault) refused.is in
    let before : Wrote taken faults old ready so_far.written = subst (λ text. Wrote taken faults old ready text) (append-nil so_far.written) (Wrote-append so_far.wrote refused.wrote) in
    run_by taken faults old new run read_failed (so_far.written ++ fault_text number fault) CommandFault written (Writes-last new written (fault_text number fault) before writes) is (inl (ap (λ (o : Output). o.bytes) is))

-- a file was not read
pub at_unread : {K T E : Type 0} {Stands : World → Type 0} (taken : K → Option (List ℕ)) (faults : K → ℕ) (old mid ready new : K) (outcome : World → List ℕ → Bool → Outcome Left) (run : Option ℕ → Output) (read_failed : Type 0) (number : ℕ) (line : List ℕ) (lines : List (List ℕ)) (name : List ℕ) (written : Result T E) → (so_far : SoFar Stands taken faults old mid outcome run number (line ∷ lines)) → Unreadable taken faults mid ready (outcome so_far.world line) read_failed name → Writes taken faults ready new written (unread_text number name) → IsRun taken old new run read_failed (ended_status written SourceFault)
at_unread taken faults old mid ready new outcome run read_failed number line lines name written so_far unreadable writes =
    let text = so_far.written ++ unread_text number name in
    let here : fails_at (Some number) number ≡ true = grind (arith, nat_tests) in
    let reflexive : number ≤ number = omega arith in
    let failing : run (Some number) ≡ record { bytes = text; end = Unread number } = grind arith in
    let before : Wrote taken faults old ready so_far.written = subst (λ t. Wrote taken faults old ready t) (append-nil so_far.written) (Wrote-append so_far.wrote unreadable.wrote) in
    let cause : read_failed ⊎ Gives (run None) text (Unread number) = ⊎_elim (λ (failed : read_failed). inl failed) (λ (always : outcome so_far.world line false ≡ CannotRead name). inr (run_at so_far (CannotRead name) always)) unreadable.cause in
    let is_text : IsText run read_failed text = ⊎_elim (λ (failed : read_failed). inr (failed, number, failing)) (λ (always : Gives (run None) text (Unread number)). inl (ap (λ (o : Output). o.bytes) always)) cause in
    run_by taken faults old new run read_failed text SourceFault written (Writes-last new written (unread_text number name) before writes) (number, failing, cause) is_text

-- a write failed within a line's text
pub at_break : {K : Type 0} {Stands : World → Type 0} (taken : K → Option (List ℕ)) (faults : K → ℕ) (old mid new : K) (outcome : World → List ℕ → Bool → Outcome Left) (run : Option ℕ → Output) (read_failed : Type 0) (number : ℕ) (line : List ℕ) (lines : List (List ℕ)) → (so_far : SoFar Stands taken faults old mid outcome run number (line ∷ lines)) → Broke taken faults mid new (outcome so_far.world line false) → IsRun taken old new run read_failed SinkFault
at_break taken faults old mid new outcome run read_failed number line lines so_far broke =
    let is = run_at so_far (Goes broke.left) broke.goes in
    let rest = (run_from outcome (number + 1) broke.left.held lines None).bytes in
    let whole : (so_far.written ++ broke.left.text) ++ rest ≡ (run None).bytes = append_assoc so_far.written broke.left.text rest ∙ sym (ap (λ (o : Output). o.bytes) is) in
    let stop = Stopped-front rest (run None).bytes whole (Stopped-second so_far.wrote broke.stopped) in grind arith

-- what stands behind the text of a line in the bytes of the run
behind : (number : ℕ) (o : Outcome Left) (written : List ℕ) (rest : World → Output) → (more : List ℕ) × ((written ++ text_of o) ++ more ≡ (prepend written (after number o rest)).bytes)
behind number (Ok left) written rest = ((rest left.held).bytes, append_assoc written left.text (rest left.held).bytes)
behind number (Err (Refusal fault)) written rest = (fault_text number fault, append_assoc written [] (fault_text number fault))
behind number (Err (NotRead name)) written rest = (unread_text number name, append_assoc written [] (unread_text number name))

-- memory was wanting within a line
pub at_starved : {K : Type 0} {Stands : World → Type 0} (taken : K → Option (List ℕ)) (faults : K → ℕ) (old mid new : K) (outcome : World → List ℕ → Bool → Outcome Left) (run : Option ℕ → Output) (read_failed : Type 0) (number : ℕ) (line : List ℕ) (lines : List (List ℕ)) → (so_far : SoFar Stands taken faults old mid outcome run number (line ∷ lines)) → Fronted taken faults mid new (text_of (outcome so_far.world line false)) → IsRun taken old new run read_failed NoMemory
at_starved taken faults old mid new outcome run read_failed number line lines so_far fronted =
    let o = outcome so_far.world line false in
    let is = run_at so_far o refl in
    let more = behind number o so_far.written (λ w. run_from outcome (number + 1) w lines None) in
    let whole : (so_far.written ++ text_of o) ++ more.0 ≡ (run None).bytes = more.1 ∙ sym (ap (λ (x : Output). x.bytes) is) in
    let n = length so_far.written + fronted.count in
    let few : n ≤ length (so_far.written ++ text_of o) = omega (arith, length-append so_far.written (text_of o), fronted.few) in
    let front : so_far.written ++ take fronted.count (text_of o) ≡ take n (run None).bytes =
    sym (take_past so_far.written (text_of o) fronted.count) ∙ sym (take-append-le n (so_far.written ++ text_of o) more.0 few) ∙ ap (take n) whole in
    record {
      out = take n (run None).bytes;
      bytes = fronted.bytes ∙ ap (λ held. with_bytes held (take fronted.count (text_of o))) so_far.wrote.bytes ∙ with_bytes-append (taken old) so_far.written (take fronted.count (text_of o)) ∙ ap (with_bytes (taken old)) front;
      answer = ((run None).bytes, inl refl, n, fits n (so_far.written ++ text_of o) more.0 (run None).bytes few whole, refl);
    } where
      fits : (n : ℕ) (a b c : List ℕ) → n ≤ length a → a ++ b ≡ c → n ≤ length c
      fits n a b c few whole = subst (λ (xs : List ℕ). n ≤ length xs) whole (omega (arith, length-append a b, few))

-- the first line is cut off
pub cut_off : {K : Type 0} {Stands : World → Type 0} {taken : K → Option (List ℕ)} {faults : K → ℕ} {old now : K} {outcome : World → List ℕ → Bool → Outcome Left} {run : Option ℕ → Output} {number : ℕ} {lines cut : List (List ℕ)} → lines ≡ cut → SoFar Stands taken faults old now outcome run number lines → SoFar Stands taken faults old now outcome run number cut
cut_off {Stands} {taken} {faults} {old} {now} {outcome} {run} {number} e so_far = subst (λ ls. SoFar Stands taken faults old now outcome run number ls) e so_far
