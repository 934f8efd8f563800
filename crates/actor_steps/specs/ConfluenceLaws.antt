-- Actors that make micro-steps on bytes of their own: whatever the schedule, each byte is what its owner alone makes of it.
use Rattle.std.specs.Prelude.{◌≡◌, ℕ, ◌<◌, ◌≤◌, Bool, true, List, [], ◌∷◌, ◌++◌, length, get_or, set, refl, slice_index_or, if◌then◌else◌, ◌==◌}
use Rattle.actor_steps.specs.Imports.{cond_both, sym, ap, ◌∙◌, subst, ⊎_elim, fun_ext, cases_eq, cases_lt, eq-eqb, eqb-true, get_or-set_same, get_or-set_other, get_or_past, arith}
use Rattle.actor_steps.specs.Confluence.{Actor, State, moved, turned, scheduled}

-- a fact of each item
abbrev pub Each : {X : Type 0} → (X → Type 0) → List X → Type 0
Each P [] = Unit {0}
Each P (x ∷ xs) = P x × Each P xs

-- one of each item of two lists is one of each of both
pub each-parts : {X : Type 0} (P : X → Type 0) (xs ys : List X) → Each P (xs ++ ys) → Each P xs × Each P ys
each-parts P [] ys all = (tt, all)
each-parts P (x ∷ xs) ys all = let rest = each-parts P xs ys all.1 in ((all.0, rest.0), rest.1)

-- one actor with a memory of its own
pub record Alone (M S R : Type 0) : Type 0 where
  pub memory : M
  pub rest : List S
  pub registers : R

module _ {M S R : Type 0} (stored : S → M → R → M) (loaded : S → M → R → R) where
  -- the next micro-step of an actor that is alone, where it has one
  abbrev pub stepped : List S → Alone M S R → Alone M S R
  stepped [] alone = alone
  stepped (step ∷ rest) alone = record { memory = stored step alone.memory alone.registers; rest = rest; registers = loaded step alone.memory alone.registers }

  abbrev pub once : Alone M S R → Alone M S R
  once alone = stepped alone.rest alone

  -- what it makes of the entries that are its own
  abbrev pub own_turns : ℕ → List ℕ → Alone M S R → Alone M S R
  own_turns a [] alone = alone
  own_turns a (b ∷ schedule) alone = own_turns a schedule (if b == a then once alone else alone)

  -- the memory after all its micro-steps
  abbrev pub made_all : List S → M → R → M
  made_all [] memory registers = memory
  made_all (step ∷ rest) memory registers = made_all rest (stored step memory registers) (loaded step memory registers)

  -- the registers after them
  abbrev pub loaded_all : List S → M → R → R
  loaded_all [] memory registers = registers
  loaded_all (step ∷ rest) memory registers = loaded_all rest (stored step memory registers) (loaded step memory registers)

  pub made_all-append : (first rest : List S) (memory : M) (registers : R)
      → made_all (first ++ rest) memory registers ≡ made_all rest (made_all first memory registers) (loaded_all first memory registers)
  made_all-append [] rest memory registers = refl
  made_all-append (step ∷ first) rest memory registers = made_all-append first rest (stored step memory registers) (loaded step memory registers)

  pub loaded_all-append : (first rest : List S) (memory : M) (registers : R)
      → loaded_all (first ++ rest) memory registers ≡ loaded_all rest (made_all first memory registers) (loaded_all first memory registers)
  loaded_all-append [] rest memory registers = refl
  loaded_all-append (step ∷ first) rest memory registers = loaded_all-append first rest (stored step memory registers) (loaded step memory registers)

  abbrev pub ended : Alone M S R → M
  ended alone = made_all alone.rest alone.memory alone.registers

  pub ended-once : (alone : Alone M S R) → ended (once alone) ≡ ended alone
  ended-once alone = by_rest alone.rest refl where
    by_rest : (rest : List S) → alone.rest ≡ rest → ended (stepped rest alone) ≡ made_all rest alone.memory alone.registers
    by_rest [] e = ap (λ (r : List S). made_all r alone.memory alone.registers) e
    by_rest (step ∷ rest) e = refl

  pub ended-own_turns : (a : ℕ) (schedule : List ℕ) (alone : Alone M S R) → ended (own_turns a schedule alone) ≡ ended alone
  ended-own_turns a [] alone = refl
  ended-own_turns a (b ∷ schedule) alone =
      ended-own_turns a schedule (if b == a then once alone else alone) ∙ cond_both (b == a) (once alone) alone (λ (x : Alone M S R). ended x ≡ ended alone) (λ e. ended-once alone) (λ e. refl)

module _ {M P S R : Type 0} (get : M → P → ℕ) (place : S → P) (stored : S → M → R → M) (loaded : S → M → R → R) (idle : Actor S R) (none : idle.rest ≡ [])
    (Good : M → Type 0) (Fine : S → Type 0) (owner : P → ℕ)
    (good_after : (s : S) (m : M) (r : R) → Good m → Good (stored s m r))
    (elsewhere : (s : S) (m : M) (r : R) (p : P) → (p ≡ place s → ⊥) → get (stored s m r) p ≡ get m p)
    (same_loaded : (s : S) (m n : M) (r : R) → get m (place s) ≡ get n (place s) → loaded s m r ≡ loaded s n r)
    (same_stored : (s : S) (m n : M) (r : R) (p : P) → Fine s → Good m → Good n → get m (place s) ≡ get n (place s) → get m p ≡ get n p
    → get (stored s m r) p ≡ get (stored s n r) p) where
  -- micro-steps on bytes of one actor
  abbrev pub AreOwn : ℕ → List S → Type 0
  AreOwn a steps = Each (λ s. Fine s × (owner (place s) ≡ a)) steps

  -- a state is what each actor made alone, brought together: each byte as its owner has it
  pub record IsMerged (solos : ℕ → Alone M S R) (state : State M S R) : Type 0 where
    pub rest : (a : ℕ) → (slice_index_or state.actors a idle).rest ≡ (solos a).rest
    pub registers : (a : ℕ) → (slice_index_or state.actors a idle).registers ≡ (solos a).registers
    pub bytes : (p : P) → get state.memory p ≡ get (solos (owner p)).memory p
    pub good : Good state.memory
    pub goods : (a : ℕ) → Good (solos a).memory
    pub own : (a : ℕ) → AreOwn a (solos a).rest

  pub after : ℕ → (ℕ → Alone M S R) → ℕ → Alone M S R
  after b solos a = if b == a then once stored loaded (solos a) else solos a

  after_same : (b : ℕ) (solos : ℕ → Alone M S R) (a : ℕ) → b ≡ a → after b solos a ≡ once stored loaded (solos a)
  unfolding after
  after_same b solos a e = ap (λ (t : Bool). if t then once stored loaded (solos a) else solos a) (eq-eqb b a e)

  after_other : (b : ℕ) (solos : ℕ → Alone M S R) (a : ℕ) → (b ≡ a → ⊥) → after b solos a ≡ solos a
  unfolding after
  after_other b solos a other =
      cond_both (b == a) (once stored loaded (solos a)) (solos a) (λ (x : Alone M S R). x ≡ solos a) (λ e. absurd (other (eqb-true b a e))) (λ e. refl)

  -- what holds of the actor behind its micro-step, and of the others as they were, holds of each
  either : (b : ℕ) (solos : ℕ → Alone M S R) (P : ℕ → Alone M S R → Type 0) → P b (once stored loaded (solos b)) → ((a : ℕ) → (b ≡ a → ⊥) → P a (solos a)) → (a : ℕ) → P a (after b solos a)
  either b solos P here there a =
      ⊎_elim (λ (same : b ≡ a). subst (P a) (sym (after_same b solos a same)) (subst (λ (x : ℕ). P x (once stored loaded (solos x))) same here))
      (λ (other : b ≡ a → ⊥). subst (P a) (sym (after_other b solos a other)) (there a other))
      (cases_eq b a)

  -- where the actor has nothing left, nothing happens
  turn_none : (b : ℕ) (solos : ℕ → Alone M S R) (state : State M S R) → IsMerged solos state → (solos b).rest ≡ [] → IsMerged (after b solos) state
  turn_none b solos state merged e =
      subst (λ (f : ℕ → Alone M S R). IsMerged f state)
      (sym (fun_ext (either b solos (λ a x. x ≡ solos a) (ap (λ (r : List S). stepped stored loaded r (solos b)) e) (λ a other. refl)))) merged

  turn_one : (b : ℕ) (solos : ℕ → Alone M S R) (state : State M S R) (s : S) (rest : List S) → IsMerged solos state → (solos b).rest ≡ s ∷ rest
      → IsMerged (after b solos) (moved stored loaded (s ∷ rest) (slice_index_or state.actors b idle).registers b state)
  turn_one b solos state s rest merged e =
      let registers = (slice_index_or state.actors b idle).registers in
      let actor : Actor S R = record { rest = rest; registers = loaded s state.memory registers } in
      let solo = solos b in
      let made : once stored loaded solo ≡ record { memory = stored s solo.memory solo.registers; rest = rest; registers = loaded s solo.memory solo.registers } =
      ap (λ (r : List S). stepped stored loaded r solo) e in
      let owned : AreOwn b (s ∷ rest) = subst (AreOwn b) e (merged.own b) in
      let here : get state.memory (place s) ≡ get solo.memory (place s) = merged.bytes (place s) ∙ ap (λ (a : ℕ). get (solos a).memory (place s)) owned.0.1 in
      let inside : b < length state.actors = in_range b solos state s rest merged e in
      record {
        rest = either b solos (λ a x. (get_or (set state.actors b actor) a idle).rest ≡ x.rest)
            (ap (λ (x : Actor S R). x.rest) (get_or-set_same state.actors b actor idle inside) ∙ sym (ap (λ (x : Alone M S R). x.rest) made))
            (λ a other. ap (λ (x : Actor S R). x.rest) (get_or-set_other state.actors b a actor idle (λ same. other (sym same))) ∙ merged.rest a);
        registers = either b solos (λ a x. (get_or (set state.actors b actor) a idle).registers ≡ x.registers)
            (ap (λ (x : Actor S R). x.registers) (get_or-set_same state.actors b actor idle inside) ∙ same_loaded s state.memory solo.memory registers here
            ∙ ap (λ (r : R). loaded s solo.memory r) (merged.registers b) ∙ sym (ap (λ (x : Alone M S R). x.registers) made))
            (λ a other. ap (λ (x : Actor S R). x.registers) (get_or-set_other state.actors b a actor idle (λ same. other (sym same))) ∙ merged.registers a);
        bytes = λ p. either b solos (λ a x. owner p ≡ a → get state.memory p ≡ get (solos a).memory p → get (stored s state.memory registers) p ≡ get x.memory p)
            (λ own same. same_stored s state.memory solo.memory registers p owned.0.0 merged.good (merged.goods b) here same
            ∙ ap (λ (r : R). get (stored s solo.memory r) p) (merged.registers b) ∙ sym (ap (λ (x : Alone M S R). get x.memory p) made))
            (λ a other own same. elsewhere s state.memory registers p (λ at. other (sym owned.0.1 ∙ sym (ap owner at) ∙ own)) ∙ same)
            (owner p) refl (merged.bytes p);
        good = good_after s state.memory registers merged.good;
        goods = either b solos (λ a x. Good x.memory) (subst (λ (x : Alone M S R). Good x.memory) (sym made) (good_after s solo.memory solo.registers (merged.goods b))) (λ a other. merged.goods a);
        own = either b solos (λ a x. AreOwn a x.rest) (subst (λ (x : Alone M S R). AreOwn b x.rest) (sym made) owned.1) (λ a other. merged.own a);
      } where
        in_range : (b : ℕ) (solos : ℕ → Alone M S R) (state : State M S R) (s : S) (rest : List S) → IsMerged solos state → (solos b).rest ≡ s ∷ rest → b < length state.actors
        in_range b solos state s rest merged e =
            ⊎_elim (λ (l : b < length state.actors). l)
            (λ (l : length state.actors ≤ b).
            let empty : [] ≡ s ∷ rest = sym none ∙ ap (λ (x : Actor S R). x.rest) (sym (get_or_past state.actors b idle l)) ∙ merged.rest b ∙ e in
            absurd (cc))
            (cases_lt b (length state.actors))

  pub merged-turn : (b : ℕ) (solos : ℕ → Alone M S R) (state : State M S R) → IsMerged solos state → IsMerged (after b solos) (turned stored loaded idle b state)
  merged-turn b solos state merged = by_rest (slice_index_or state.actors b idle).rest refl where
    by_rest : (rest : List S) → (slice_index_or state.actors b idle).rest ≡ rest
        → IsMerged (after b solos) (moved stored loaded rest (slice_index_or state.actors b idle).registers b state)
    by_rest [] e = turn_none b solos state merged (sym (merged.rest b) ∙ e)
    by_rest (s ∷ rest) e = turn_one b solos state s rest merged (sym (merged.rest b) ∙ e)

  -- memory, registers and what is left after a schedule: each actor's own, whatever the order
  pub merged-schedule : (schedule : List ℕ) (solos : ℕ → Alone M S R) (state : State M S R) → IsMerged solos state
      → IsMerged (λ a. own_turns stored loaded a schedule (solos a)) (scheduled stored loaded idle schedule state)
  unfolding after
  merged-schedule [] solos state merged = merged
  merged-schedule (b ∷ schedule) solos state merged = merged-schedule schedule (after b solos) (turned stored loaded idle b state) (merged-turn b solos state merged)

  -- where nothing is left after a schedule, each byte is what its owner leaves alone
  pub ended-schedule : (schedule : List ℕ) (solos : ℕ → Alone M S R) (state : State M S R) → IsMerged solos state
      → ((a : ℕ) → (slice_index_or (scheduled stored loaded idle schedule state).actors a idle).rest ≡ [])
      → (p : P) → get (scheduled stored loaded idle schedule state).memory p ≡ get (ended stored loaded (solos (owner p))) p
  ended-schedule schedule solos state merged done p =
      let all = merged-schedule schedule solos state merged in
      let last = own_turns stored loaded (owner p) schedule (solos (owner p)) in
      let left : last.rest ≡ [] = sym (all.rest (owner p)) ∙ done (owner p) in grind (arith, ended-own_turns)
