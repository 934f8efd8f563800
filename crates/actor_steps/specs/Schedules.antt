-- Schedules of the actors of an update: the one that a seed gives, and the one that makes what is left.
use Rattle.std.specs.Prelude.{ℕ, zero, suc, ◌+◌, ◌*◌, ◌/◌, ◌%◌, ◌^◌, List, [], ◌∷◌, ◌++◌, length, replicate}
use Rattle.actor_steps.specs.Confluence.{Actor, State, scheduled}
use Rattle.actor_steps.specs.Micro.{Job, Micro, Registers, stored, loaded}
use Rattle.actor_steps.specs.Cuts.{parts_from, team_of}

-- the generator: each number from the one before it
abbrev pub next : ℕ → ℕ
next x = (x * 1103515245 + 12345) % 2 ^ 31

-- so many entries behind a number, each below the number of actors
abbrev pub entries : ℕ → ℕ → ℕ → List ℕ
entries actors zero x = []
entries actors (suc turns) x = (next x / 65536) % actors ∷ entries actors turns (next x)

abbrev pub schedule_of : ℕ → ℕ → ℕ → List ℕ
schedule_of actors seed turns = entries actors turns (seed % 2 ^ 31)

-- an actor that is not there has nothing to do
abbrev pub idle_with : Registers → Actor Micro Registers
idle_with fresh = record { rest = []; registers = fresh }

-- the actors of an update before their first micro-step
abbrev pub started : Job → List ℕ → ℕ → List (List ℕ) → Registers → State (List (List ℕ)) Micro Registers
started job cuts count memory fresh = record { memory = memory; actors = team_of job (parts_from 0 cuts count) fresh }

-- after a schedule
abbrev pub run_by : Job → Registers → List ℕ → State (List (List ℕ)) Micro Registers → State (List (List ℕ)) Micro Registers
run_by job fresh schedule state = scheduled (stored job) (loaded job) (idle_with fresh) schedule state

-- the entries that make what is left, actor by actor
abbrev pub turns_from : {S R : Type 0} → ℕ → List (Actor S R) → List ℕ
turns_from a [] = []
turns_from a (actor ∷ actors) = replicate (length actor.rest) a ++ turns_from (suc a) actors

abbrev pub turns_left : {M S R : Type 0} → State M S R → List ℕ
turns_left state = turns_from 0 state.actors

-- after what was left
abbrev pub finished : Job → Registers → State (List (List ℕ)) Micro Registers → State (List (List ℕ)) Micro Registers
finished job fresh state = run_by job fresh (turns_left state) state
