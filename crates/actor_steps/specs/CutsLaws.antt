-- Cuts of the rows among actors, and the micro-steps that are left of a run.
use Rattle.std.specs.Prelude.{◌≡◌, ℕ, zero, suc, ◌+◌, ◌<◌, ◌≤◌, Bool, true, false, List, [], ◌∷◌, ◌++◌, length, get_or, set, replicate, refl, nat_le, ◌==◌, if◌then◌else◌, slice_index_or}
use Rattle.actor_steps.specs.Imports.{sym, ap, ◌∙◌, ⊎_elim, arith, and_parts, leb-true, cases_lt, cases_eq, le-leb, lt-leb, eq-eqb, eqb-true, get_or-set_same, get_or-set_other, get_or_past}
use Rattle.actor_steps.specs.Confluence.{Actor, State, moved, turned, scheduled}
use Rattle.actor_steps.specs.Cuts.{actor_of, AreCuts, are_cuts, parts_from}
use Rattle.actor_steps.specs.Schedules.{turns_from, turns_left}

-- the test of cuts
pub are_cuts-are : (from : ℕ) (cuts : List ℕ) (count : ℕ) → are_cuts from cuts count ≡ true → AreCuts from cuts count
are_cuts-are from [] count e = leb-true from count e
are_cuts-are from (cut ∷ cuts) count e =
    let both = and_parts (nat_le from cut) (are_cuts cut cuts count) e in
    (leb-true from cut both.0, are_cuts-are cut cuts count both.1)

-- a row lies in the part of an actor
pub record IsPart (parts : List (ℕ × ℕ)) (a row : ℕ) : Type 0 where
  pub low : a < length parts
  pub from : (get_or parts a (0, 0)).0 ≤ row
  pub below : row < (get_or parts a (0, 0)).0 + (get_or parts a (0, 0)).1

pub part_of : (from : ℕ) (cuts : List ℕ) (count row : ℕ) → AreCuts from cuts count → from ≤ row → row < count → IsPart (parts_from from cuts count) (actor_of cuts row) row
part_of from [] count row are low high = record { low = omega arith; from = low; below = omega (arith, low, high, are) }
part_of from (cut ∷ cuts) count row are low high =
    ⊎_elim (λ (l : row < cut). grind (arith, lt-leb))
    (λ (l : cut ≤ row). grind (arith, le-leb, (part_of cut cuts count row are.1 l high)))
    (cases_lt row cut)

-- cuts end within the rows
pub cuts_end : (cut : ℕ) (cuts : List ℕ) (count : ℕ) → AreCuts cut cuts count → cut ≤ count
cuts_end cut [] count are = are
cuts_end cut (next ∷ cuts) count are = omega (arith, cuts_end next cuts count are.1, are.0)

pub first_below : (from : ℕ) (cuts : List ℕ) (count a : ℕ) → AreCuts from cuts count → a < length (parts_from from cuts count)
    → (from ≤ (get_or (parts_from from cuts count) a (0, 0)).0) × ((get_or (parts_from from cuts count) a (0, 0)).0 + (get_or (parts_from from cuts count) a (0, 0)).1 ≤ count)
first_below from [] count zero are low = (omega arith, omega (arith, are))
first_below from [] count (suc a) are low = absurd (let bad : ⊥ = omega (arith, low) in bad)
first_below from (cut ∷ cuts) count zero are low = (omega arith, omega (arith, are.0, cuts_end cut cuts count are.1))
first_below from (cut ∷ cuts) count (suc a) are low = grind (arith, (first_below cut cuts count a are.1 (omega (arith, low))))

pub actor_is : (from : ℕ) (cuts : List ℕ) (count a row : ℕ) → AreCuts from cuts count → IsPart (parts_from from cuts count) a row → actor_of cuts row ≡ a
actor_is from [] count zero row are part = refl
actor_is from [] count (suc a) row are part = absurd (let bad : ⊥ = omega (arith, part.low) in bad)
actor_is from (cut ∷ cuts) count zero row are part = grind (arith, lt-leb)
actor_is from (cut ∷ cuts) count (suc a) row are part =
    let low : a < length (parts_from cut cuts count) = omega (arith, part.low) in
    let rest = first_below cut cuts count a are.1 low in
    grind (arith, le-leb, (actor_is cut cuts count a row are.1 (record { low = low; from = part.from; below = part.below })))

-- how often an actor has its turn
abbrev pub times : ℕ → List ℕ → ℕ
times a [] = 0
times a (b ∷ schedule) = if b == a then suc (times a schedule) else times a schedule

abbrev pub tail_of : {S : Type 0} → List S → List S
tail_of [] = []
tail_of (s ∷ rest) = rest

abbrev pub without : {S : Type 0} → ℕ → List S → List S
without zero steps = steps
without (suc n) steps = without n (tail_of steps)

pub without-all : {S : Type 0} (steps : List S) → without (length steps) steps ≡ []
without-all [] = refl
without-all (s ∷ rest) = without-all rest

module _ {M S R : Type 0} (stored : S → M → R → M) (loaded : S → M → R → R) (idle : Actor S R) (none : idle.rest ≡ []) where
  rest_of : State M S R → ℕ → List S
  rest_of state a = (slice_index_or state.actors a idle).rest

  turn-rest : (b : ℕ) (state : State M S R) (a : ℕ) → rest_of (turned stored loaded idle b state) a ≡ (if b == a then tail_of (rest_of state a) else rest_of state a)
  unfolding rest_of
  turn-rest b state a = by_rest (slice_index_or state.actors b idle).rest refl where
    by_rest : (rest : List S) → (slice_index_or state.actors b idle).rest ≡ rest
        → (slice_index_or (moved stored loaded rest (slice_index_or state.actors b idle).registers b state).actors a idle).rest
        ≡ (if b == a then tail_of (slice_index_or state.actors a idle).rest else (slice_index_or state.actors a idle).rest)
    by_rest [] e = by_test (b == a) refl where
      by_test : (t : Bool) → (b == a) ≡ t → (slice_index_or state.actors a idle).rest ≡ (if t then tail_of (slice_index_or state.actors a idle).rest else (slice_index_or state.actors a idle).rest)
      by_test true same =
          (let here : (slice_index_or state.actors a idle).rest ≡ [] = ap (λ (w : ℕ). (slice_index_or state.actors w idle).rest) (sym (eqb-true b a same)) ∙ e in
          here ∙ ap tail_of (sym here))
      by_test false other = refl
    by_rest (s ∷ rest) e = ⊎_elim (λ (same : b ≡ a).
        ap (λ (w : ℕ). (get_or (set state.actors b actor) w idle).rest) (sym same) ∙ ap (λ (x : Actor S R). x.rest) (get_or-set_same state.actors b actor idle inside)
        ∙ ap tail_of (sym e) ∙ ap (λ (w : ℕ). tail_of (slice_index_or state.actors w idle).rest) same
        ∙ sym (ap (λ (t : Bool). if t then tail_of (slice_index_or state.actors a idle).rest else (slice_index_or state.actors a idle).rest) (eq-eqb b a same)))
        (λ (other : b ≡ a → ⊥).
        ap (λ (x : Actor S R). x.rest) (get_or-set_other state.actors b a actor idle (λ same. other (sym same))) ∙ by_test (b == a) refl other)
        (cases_eq b a) where
          actor : Actor S R
          actor = record { rest = rest; registers = loaded s state.memory (slice_index_or state.actors b idle).registers }

          inside : b < length state.actors
          inside = grind (arith, get_or_past, cases_lt)

          by_test : (t : Bool) → (b == a) ≡ t → (b ≡ a → ⊥)
              → (slice_index_or state.actors a idle).rest ≡ (if t then tail_of (slice_index_or state.actors a idle).rest else (slice_index_or state.actors a idle).rest)
          by_test t same other = grind (arith, eqb-true)

  schedule-rest : (schedule : List ℕ) (state : State M S R) (a : ℕ) → rest_of (scheduled stored loaded idle schedule state) a ≡ without (times a schedule) (rest_of state a)
  schedule-rest [] state a = refl
  schedule-rest (b ∷ schedule) state a =
      schedule-rest schedule (turned stored loaded idle b state) a ∙ ap (without (times a schedule)) (turn-rest b state a) ∙ by_test (b == a) where
        by_test : (t : Bool) → without (times a schedule) (if t then tail_of (rest_of state a) else rest_of state a)
            ≡ without (if t then suc (times a schedule) else times a schedule) (rest_of state a)
        by_test true = refl
        by_test false = refl

times-replicate : (a b n : ℕ) (schedule : List ℕ) → times a (replicate n b ++ schedule) ≡ (if b == a then n + times a schedule else times a schedule)
times-replicate a b zero schedule = by_test (b == a) where
  by_test : (t : Bool) → times a schedule ≡ (if t then 0 + times a schedule else times a schedule)
  by_test true = omega arith
  by_test false = refl
times-replicate a b (suc n) schedule =
    ap (λ (w : ℕ). if b == a then suc w else w) (times-replicate a b n schedule) ∙ by_test (b == a) where
      by_test : (t : Bool) → (if t then suc (if t then n + times a schedule else times a schedule) else (if t then n + times a schedule else times a schedule))
          ≡ (if t then suc n + times a schedule else times a schedule)
      by_test true = omega arith
      by_test false = refl

times-past : {S R : Type 0} (a c : ℕ) (actors : List (Actor S R)) → a < c → times a (turns_from c actors) ≡ 0
times-past a c [] low = refl
times-past a c (actor ∷ actors) low =
    times-replicate a c (length actor.rest) (turns_from (suc c) actors) ∙ by_test (c == a) refl (times-past a (suc c) actors (omega (arith, low))) where
      by_test : (t : Bool) → (c == a) ≡ t → times a (turns_from (suc c) actors) ≡ 0 → (if t then length actor.rest + times a (turns_from (suc c) actors) else times a (turns_from (suc c) actors)) ≡ 0
      by_test true same e = absurd (let there = eqb-true c a same in let bad : ⊥ = omega (arith, low, there) in bad)
      by_test false other e = e

times-left : {S R : Type 0} (n c a : ℕ) (actors : List (Actor S R)) (idle : Actor S R) → idle.rest ≡ [] → c + n ≡ a → times a (turns_from c actors) ≡ length (slice_index_or actors n idle).rest
times-left n c a [] idle none e = sym (ap length none)
times-left zero c a (actor ∷ actors) idle none e = grind (arith, times-replicate, eq-eqb, times-past)
times-left (suc n) c a (actor ∷ actors) idle none e =
    times-replicate a c (length actor.rest) (turns_from (suc c) actors) ∙ by_test (c == a) refl ∙ times-left n (suc c) a actors idle none (omega (arith, e)) where
      by_test : (t : Bool) → (c == a) ≡ t → (if t then length actor.rest + times a (turns_from (suc c) actors) else times a (turns_from (suc c) actors)) ≡ times a (turns_from (suc c) actors)
      by_test true same = absurd (let there = eqb-true c a same in let bad : ⊥ = omega (arith, e, there) in bad)
      by_test false other = refl

-- after these entries no actor has a micro-step left
pub nothing_left : {M S R : Type 0} (stored : S → M → R → M) (loaded : S → M → R → R) (idle : Actor S R) (none : idle.rest ≡ []) (state : State M S R) (a : ℕ)
    → (slice_index_or (scheduled stored loaded idle (turns_left state) state).actors a idle).rest ≡ []
unfolding rest_of
nothing_left stored loaded idle none state a =
    let rest = (slice_index_or state.actors a idle).rest in
    schedule-rest stored loaded idle none (turns_left state) state a
    ∙ ap (λ (n : ℕ). without n rest) (times-left a 0 a state.actors idle none (omega arith)) ∙ without-all rest
