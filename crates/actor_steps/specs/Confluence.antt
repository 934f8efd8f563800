-- Actors over one memory, each with micro-steps to make, that make them in the order of a schedule.
use Rattle.std.specs.Prelude.{ℕ, List, [], ◌∷◌, slice_index_or, slice_set}

-- what an actor has still to do, and its registers
pub record Actor (S R : Type 0) : Type 0 where
  pub rest : List S
  pub registers : R

-- a memory and the actors over it
pub record State (M S R : Type 0) : Type 0 where
  pub memory : M
  pub actors : List (Actor S R)

-- a micro-step makes another memory, `stored`, and other registers, `loaded`
module _ {M S R : Type 0} (stored : S → M → R → M) (loaded : S → M → R → R) where
  -- the next micro-step of an actor, where it has one
  abbrev pub moved : List S → R → ℕ → State M S R → State M S R
  moved [] registers a state = state
  moved (step ∷ rest) registers a state = record {
    memory = stored step state.memory registers;
    actors = slice_set state.actors a (record { rest = rest; registers = loaded step state.memory registers });
  }

  -- one entry of a schedule; an actor that is not there has the micro-steps of the idle one, which are none
  abbrev pub turned : Actor S R → ℕ → State M S R → State M S R
  turned idle a state = moved (slice_index_or state.actors a idle).rest (slice_index_or state.actors a idle).registers a state

  -- a schedule is a list of actor numbers; each makes the next micro-step of this actor, or none where it has none left
  abbrev pub scheduled : Actor S R → List ℕ → State M S R → State M S R
  scheduled idle [] state = state
  scheduled idle (a ∷ schedule) state = scheduled idle schedule (turned idle a state)
