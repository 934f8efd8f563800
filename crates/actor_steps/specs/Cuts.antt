-- Cuts of the rows among actors.
use Rattle.std.specs.Prelude.{ℕ, suc, ◌-◌, ◌≤◌, ◌&&◌, Bool, nat_le, List, [], ◌∷◌, map, if◌then◌else◌}
use Rattle.actor_steps.specs.Confluence.{Actor}
use Rattle.actor_steps.specs.Micro.{Job, Micro, Registers, steps_of}

-- the cuts do not fall, none is below the first number, and none is over the count
abbrev pub AreCuts : ℕ → List ℕ → ℕ → Type 0
AreCuts from [] count = from ≤ count
AreCuts from (cut ∷ cuts) count = (from ≤ cut) × AreCuts cut cuts count

-- the same as a test
abbrev pub are_cuts : ℕ → List ℕ → ℕ → Bool
are_cuts from [] count = nat_le from count
are_cuts from (cut ∷ cuts) count = nat_le from cut && are_cuts cut cuts count

-- the actor of a row, for cuts that do not fall: how many cuts stand at or below it
abbrev pub actor_of : List ℕ → ℕ → ℕ
actor_of [] row = 0
actor_of (cut ∷ cuts) row = if nat_le cut row then suc (actor_of cuts row) else 0

-- the first row and the number of rows of each actor: one more than there are cuts
abbrev pub parts_from : ℕ → List ℕ → ℕ → List (ℕ × ℕ)
parts_from from [] count = (from, count - from) ∷ []
parts_from from (cut ∷ cuts) count = (from, cut - from) ∷ parts_from cut cuts count

-- the actors of an update, each with the micro-steps of its rows
abbrev pub team_of : Job → List (ℕ × ℕ) → Registers → List (Actor Micro Registers)
team_of job parts fresh = map (λ part. record { rest = steps_of job part.0 part.1; registers = fresh }) parts
