-- What is left of a run, and the memory behind it.
use Rattle.actors.proofs.Imports.{◌≡◌, ℕ, suc, ◌+◌, ◌<◌, ◌≤◌, true, false, ℤ, List, [], ◌∷◌, ◌++◌, length, get_or, set, drop, replicate, refl, sym, ap, ◌∙◌, subst, arith, drop-set, drop_more, drop_all, length-set, IsParted, SchedulesAgree, Actor, State, moved, memory_of, fresh_of, team_start, Job, Micro, Registers, stored, loaded, idle_with, run_by, turns_from, turns_left, finished, IsReached, Run, IsDone, IsPlain, after_turns, finished_from, rest_in, job_in, has_any}

module _ (job : Job) (fresh : Registers) where
  abbrev Here : Type 0
  Here = State (List (List ℕ)) Micro Registers

  abbrev idle : Actor Micro Registers
  idle = idle_with fresh

  -- what the actors from one on have left
  abbrev left_from : ℕ → Here → List ℕ
  left_from n state = turns_from n (drop n state.actors)

  -- the rest of an actor, and its turn where it has a micro-step
  abbrev rest_at : ℕ → Here → List Micro
  rest_at n state = (get_or state.actors n idle).rest

  abbrev next_of : ℕ → Here → Micro → List Micro → Here
  next_of n state micro more = record {
    memory = stored job micro state.memory (get_or state.actors n idle).registers;
    actors = set state.actors n (record { rest = more; registers = loaded job micro state.memory (get_or state.actors n idle).registers });
  }

  turn_is : (n : ℕ) (state : Here) (rest : List Micro) → rest_at n state ≡ rest → run_by job fresh (n ∷ []) state ≡ moved (stored job) (loaded job) rest (get_or state.actors n idle).registers n state
  turn_is n state rest e = ap (λ (rest : List Micro). moved (stored job) (loaded job) rest (get_or state.actors n idle).registers n state) e

  -- a turn of an actor leads where all that is left leads
  pub turn_left : (n : ℕ) (state : Here) → n < length state.actors
      → run_by job fresh (left_from n (run_by job fresh (n ∷ []) state)) (run_by job fresh (n ∷ []) state) ≡ run_by job fresh (left_from n state) state
  turn_left n state low = by_rest (rest_at n state) refl where
    by_rest : (rest : List Micro) → rest_at n state ≡ rest
        → run_by job fresh (left_from n (run_by job fresh (n ∷ []) state)) (run_by job fresh (n ∷ []) state) ≡ run_by job fresh (left_from n state) state
    by_rest [] e = ap (λ (s : Here). run_by job fresh (left_from n s) s) (turn_is n state [] e)
    by_rest (micro ∷ more) e =
        let next = next_of n state micro more in
        let is = turn_is n state (micro ∷ more) e in
        let behind = turns_from (suc n) (drop (n + 1) state.actors) in
        let schedule = replicate (length more) n ++ behind in
        let after : left_from n next ≡ schedule =
        ap (turns_from n) (drop-set state.actors n (record { rest = more; registers = loaded job micro state.memory (get_or state.actors n idle).registers }) low) in
        let before : left_from n state ≡ n ∷ schedule =
        ap (turns_from n) (drop_more state.actors n idle low) ∙ ap (λ (rest : List Micro). replicate (length rest) n ++ behind) e in
        ap (λ (s : Here). run_by job fresh (left_from n s) s) is ∙ ap (λ (w : List ℕ). run_by job fresh w next) after
        ∙ ap (run_by job fresh schedule) (sym is) ∙ ap (λ (w : List ℕ). run_by job fresh w state) (sym before)

  -- as many actors as before
  pub turn_count : (n : ℕ) (state : Here) → length (run_by job fresh (n ∷ []) state).actors ≡ length state.actors
  turn_count n state = by_rest (rest_at n state) refl where
    by_rest : (rest : List Micro) → rest_at n state ≡ rest → length (run_by job fresh (n ∷ []) state).actors ≡ length state.actors
    by_rest [] e = ap (λ (s : Here). length s.actors) (turn_is n state [] e)
    by_rest (micro ∷ more) e = ap (λ (s : Here). length s.actors) (turn_is n state (micro ∷ more) e) ∙ length-set state.actors n (record { rest = more; registers = loaded job micro state.memory (get_or state.actors n idle).registers })

  -- an actor with nothing left makes way for the next one
  pub none_behind : (n : ℕ) (state : Here) → n < length state.actors → has_any (rest_at n state) ≡ false → left_from (n + 1) state ≡ left_from n state
  none_behind n state low none = by_rest (rest_at n state) refl none where
    by_rest : (rest : List Micro) → rest_at n state ≡ rest → has_any rest ≡ false → left_from (n + 1) state ≡ left_from n state
    by_rest [] e is =
        (let one : n + 1 ≡ suc n = omega arith in
        ap (λ (w : ℕ). turns_from w (drop (n + 1) state.actors)) one
        ∙ ap (λ (rest : List Micro). replicate (length rest) n ++ turns_from (suc n) (drop (n + 1) state.actors)) (sym e) ∙ ap (turns_from n) (sym (drop_more state.actors n idle low)))
    by_rest (micro ∷ more) e is = absurd (let bad : true ≡ false = is in cc)

  -- where no actor has anything left, no entry is
  pub no_turns : (n : ℕ) (actors : List (Actor Micro Registers)) → ((a : ℕ) → (get_or actors a idle).rest ≡ []) → turns_from n actors ≡ []
  no_turns n [] none = refl
  no_turns n (actor ∷ actors) none =
      ap (λ (rest : List Micro). replicate (length rest) n ++ turns_from (suc n) actors) (none 0) ∙ no_turns (suc n) actors (λ a. none (suc a))

-- an actor of a run that makes what it has left
pub record IsLeft (actor : ℕ) (first run : Run) : Type 0 where
  pub left : finished_from actor run ≡ finished_from actor first
  pub same : run ≡ record first { state = run.state }
  pub count : length run.state.actors ≡ length first.state.actors

pub turn_made : (actor : ℕ) (first run new : Run) → actor < length first.state.actors → new ≡ after_turns run (actor ∷ []) → IsLeft actor first run → IsLeft actor first new
turn_made actor first run new low is so_far = record {
  left = ap (finished_from actor) is
      ∙ ap (λ (s : State (List (List ℕ)) Micro Registers). record run { state = s }) (turn_left (job_in run) (fresh_of run.found) actor run.state (omega (arith, low, so_far.count))) ∙ so_far.left;
  same = is ∙ ap (λ (r : Run). record r { state = (after_turns run (actor ∷ [])).state }) so_far.same ∙ ap (λ (r : Run). record first { state = r.state }) (sym is);
  count = ap (λ (r : Run). length r.state.actors) is ∙ turn_count (job_in run) (fresh_of run.found) actor run.state ∙ so_far.count;
}

pub actor_done : (actor : ℕ) (first run : Run) → actor < length first.state.actors → IsLeft actor first run → has_any (rest_in run actor) ≡ false
    → finished_from (actor + 1) run ≡ finished_from actor first
actor_done actor first run low so_far none =
    ap (after_turns run) (none_behind (job_in run) (fresh_of run.found) actor run.state (omega (arith, low, so_far.count)) none) ∙ so_far.left

-- behind the last actor nothing is left
pub all_done : (actor : ℕ) (first run : Run) → length first.state.actors ≤ actor → length run.state.actors ≡ length first.state.actors → finished_from actor run ≡ finished_from 0 first
    → run ≡ after_turns first (turns_left first.state)
all_done actor first run over count left = grind (arith, drop_all)

-- then the memory is that of the plain update
pub finished_plain : (agree : SchedulesAgree) (run new : Run) → (rows : List (List ℤ)) × IsParted run.found run.filter run.sets run.cuts rows → IsReached run
    → new ≡ after_turns run (turns_left run.state) → IsPlain new
finished_plain agree run new parted reached is =
    let job = job_in run in
    let fresh = fresh_of run.found in
    let begin = team_start run.found run.filter run.sets run.cuts in
    let state : run.state ≡ run_by job fresh reached.0 begin = ap (λ (r : Run). r.state) reached.1 in
    let memory : (after_turns run (turns_left run.state)).state.memory ≡ memory_of (record run.found { rows = parted.0 }) =
    ap (λ (s : State (List (List ℕ)) Micro Registers). (finished job fresh s).memory) state ∙ agree run.found run.filter run.sets run.cuts parted.0 parted.1 reached.0 in
    subst IsPlain (sym is) (parted.0, parted.1.plain, memory)

-- a run with nothing left is finished
pub done_plain : (agree : SchedulesAgree) (run : Run) → (rows : List (List ℤ)) × IsParted run.found run.filter run.sets run.cuts rows → IsReached run → IsDone run → IsPlain run
done_plain agree run parted reached done =
    finished_plain agree run run parted reached (ap (after_turns run) (sym (no_turns (job_in run) (fresh_of run.found) 0 run.state.actors done)))
