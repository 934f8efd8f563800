-- Padding stays 0: memory, and the bytes that are loaded of it, after any schedule.
use Rattle.std.specs.Prelude.{◌≡◌, ℕ, zero, suc, ◌+◌, ◌*◌, ◌/◌, ◌%◌, ◌<◌, ℤ, List, [], ◌∷◌, ◌++◌, map, get_or, set, if◌then◌else◌, slice_index_or}
use Rattle.actor_steps.specs.Imports.{cond_both, ap, ◌∙◌, arith, flat_map, range_with_len, bit_at, cases_eq, cases_lt, get_or-set_same, get_or-set_other, set_past, Owner, Pad, owner_at, bit_in, bit_of_byte, AreLaid, Setting}
use Rattle.actor_steps.specs.Confluence.{Actor, State, moved, turned}
use Rattle.actor_steps.specs.Micro.{Place, byte_at, with_byte, Job, Micro, Fetch, Load, Store, Registers, row_in, value_kept_on, with_bits_of, stored, loaded, places_of, lets_through, read_leaves, fetches, changes, stores_of, row_steps, steps_of}
use Rattle.actor_steps.specs.Bytes.{IsByte}
use Rattle.actor_steps.specs.BytesOfLaws.{with_byte-sized}
use Rattle.actor_steps.specs.SweepLaws.{is_place, place_is, AreBytesOf, bit_in-with_byte, bit_at-with_bits_of}
use Rattle.actor_steps.specs.AmongLaws.{places-are_bytes}
use Rattle.actor_steps.specs.Cuts.{parts_from, team_of}
use Rattle.actor_steps.specs.Schedules.{idle_with, started, run_by}

-- a byte that may stand at a place: where the place has padding, its bits are 0
abbrev pub IsPaddedByte : List (List Owner) → Place → ℕ → Type 0
IsPaddedByte layout place byte = (k : ℕ) → k < 8 → owner_at layout place.blob (8 * place.byte + k) ≡ Pad → bit_at byte k ≡ 0

-- so may each byte that is loaded
pub loaded-padded : (layout : List (List Owner)) (memory : List (List ℕ)) (place : Place) → AreLaid layout memory → IsPaddedByte layout place (byte_at memory place)
loaded-padded layout memory place laid k low pad = grind (arith, bit_of_byte)

-- and each byte in which only bits of a leaf are changed
pub changed-padded : (layout : List (List Owner)) (place : Place) (row leaf : ℕ) (value : ℤ) (byte : ℕ) → IsPaddedByte layout place byte
    → IsPaddedByte layout place (with_bits_of layout place row leaf value byte)
changed-padded layout place row leaf value byte padded k low pad = grind (arith, bit_at-with_bits_of, bit_at)

-- with such a byte stored, padding stays 0
pub with_byte-laid : (layout : List (List Owner)) (memory : List (List ℕ)) (place : Place) (byte : ℕ) → AreLaid layout memory → IsByte layout place
    → IsPaddedByte layout place byte → AreLaid layout (with_byte memory place byte)
with_byte-laid layout memory place byte laid is padded = record {
  sized = with_byte-sized layout memory place byte laid.sized;
  padded = record {
    padding = λ b p pad.
        (let back : 8 * (p / 8) + p % 8 ≡ p = omega arith in
        bit_in-with_byte layout memory place byte b p laid.sized is
        ∙ cond_both (is_place b (p / 8) place) (bit_at byte (p % 8)) (bit_in memory b p) (λ (w : ℕ). w ≡ 0)
        (λ e. padded (p % 8) (omega arith) (ap (λ (w : Place). owner_at layout w.blob (8 * w.byte + p % 8)) (place_is b (p / 8) place e) ∙ ap (owner_at layout b) back ∙ pad))
        (λ e. laid.padded.padding b p pad));
  };
}

-- micro-steps in which each store stands behind a load of its byte; the first may store this byte
abbrev pub AreTidy : List (List Owner) → ℕ → List Micro → Type 0
AreTidy layout byte [] = Unit {0}
AreTidy layout byte (Fetch place ∷ rest) = IsByte layout place × AreTidy layout byte rest
AreTidy layout byte (Load place ∷ rest) = (next : ℕ) → IsPaddedByte layout place next → AreTidy layout next rest
AreTidy layout byte (Store place row set ∷ rest) = IsByte layout place × IsPaddedByte layout place byte × AreTidy layout byte rest

tidy-append : (layout : List (List Owner)) (byte : ℕ) (first rest : List Micro) → AreTidy layout byte first → ((next : ℕ) → AreTidy layout next rest) → AreTidy layout byte (first ++ rest)
tidy-append layout byte [] rest one two = two byte
tidy-append layout byte (Fetch place ∷ first) rest one two = (one.0, tidy-append layout byte first rest one.1 two)
tidy-append layout byte (Load place ∷ first) rest one two = λ next padded. tidy-append layout next first rest (one next padded) two
tidy-append layout byte (Store place row set ∷ first) rest one two = (one.0, one.1, tidy-append layout byte first rest one.2 two)

tidy-lists : {X : Type 0} (layout : List (List Owner)) (byte : ℕ) (f : X → List Micro) (xs : List X) → ((x : X) (next : ℕ) → AreTidy layout next (f x)) → AreTidy layout byte (flat_map f xs)
tidy-lists layout byte f [] each = tt
tidy-lists layout byte f (x ∷ xs) each = tidy-append layout byte (f x) (flat_map f xs) (each x byte) (λ next. tidy-lists layout next f xs each)

tidy-fetches : (layout : List (List Owner)) (byte : ℕ) (places : List Place) → AreBytesOf layout places → AreTidy layout byte (map Fetch places)
tidy-fetches layout byte [] are = tt
tidy-fetches layout byte (place ∷ places) are = (are.0, tidy-fetches layout byte places are.1)

tidy-changes : (layout : List (List Owner)) (byte row : ℕ) (set : Setting) (places : List Place) → AreBytesOf layout places → AreTidy layout byte (flat_map (changes row set) places)
tidy-changes layout byte row set [] are = tt
tidy-changes layout byte row set (place ∷ places) are = λ next padded. (are.0, padded, tidy-changes layout next row set places are.1)

-- those of a row, and of an actor
tidy-row : (job : Job) (byte row : ℕ) → AreTidy job.layout byte (row_steps job row)
tidy-row job byte row =
    tidy-append job.layout byte (fetches job row) (if lets_through job row then flat_map (stores_of job row) job.sets else [])
    (tidy-lists job.layout byte (λ leaf. map Fetch (places_of job.layout row leaf)) (read_leaves job row)
    (λ leaf next. tidy-fetches job.layout next (places_of job.layout row leaf) (places-are_bytes job.layout row leaf)))
    (λ next. cond_both (lets_through job row) (flat_map (stores_of job row) job.sets) [] (AreTidy job.layout next)
    (λ e. tidy-lists job.layout next (stores_of job row) job.sets (λ set after. tidy-changes job.layout after row set (places_of job.layout row set.leaf) (places-are_bytes job.layout row set.leaf)))
    (λ e. tt))

pub tidy-steps : (job : Job) (byte first count : ℕ) → AreTidy job.layout byte (steps_of job first count)
tidy-steps job byte first count = tidy-lists job.layout byte (row_steps job) (range_with_len first count) (λ row next. tidy-row job next row)

-- what an actor loaded, and what it may store next
pub record IsTidy (layout : List (List Owner)) (actor : Actor Micro Registers) : Type 0 where
  pub loaded : AreLaid layout actor.registers.loaded
  pub rest : AreTidy layout actor.registers.byte actor.rest

module _ (job : Job) (fresh : Registers) where
  -- memory has padding 0, and so has what each actor loaded
  pub record AreAllTidy (state : State (List (List ℕ)) Micro Registers) : Type 0 where
    pub memory : AreLaid job.layout state.memory
    pub actors : (a : ℕ) → IsTidy job.layout (slice_index_or state.actors a (idle_with fresh))

  -- one actor is another
  with_actor : (state : State (List (List ℕ)) Micro Registers) (a : ℕ) (actor : Actor Micro Registers) → IsTidy job.layout actor
      → ((b : ℕ) → IsTidy job.layout (slice_index_or state.actors b (idle_with fresh))) → (b : ℕ) → IsTidy job.layout (get_or (set state.actors a actor) b (idle_with fresh))
  with_actor state a actor tidy all b = grind (arith, get_or-set_same, set_past, cases_lt, get_or-set_other, cases_eq)

  moved_tidy : (a : ℕ) (state : State (List (List ℕ)) Micro Registers) (rest : List Micro) (registers : Registers) → AreAllTidy state
      → IsTidy job.layout (record { rest = rest; registers = registers }) → AreAllTidy (moved (stored job) (loaded job) rest registers a state)
  moved_tidy a state [] registers all tidy = all
  moved_tidy a state (Fetch place ∷ rest) registers all tidy =
      let bytes = with_byte-laid job.layout registers.loaded place (byte_at state.memory place) tidy.loaded tidy.rest.0 (loaded-padded job.layout state.memory place all.memory) in
      record {
        memory = all.memory;
        actors = with_actor state a (record { rest = rest; registers = loaded job (Fetch place) state.memory registers }) (record { loaded = bytes; rest = tidy.rest.1 }) all.actors;
      }
  moved_tidy a state (Load place ∷ rest) registers all tidy =
      let byte = tidy.rest (byte_at state.memory place) (loaded-padded job.layout state.memory place all.memory) in
      record {
        memory = all.memory;
        actors = with_actor state a (record { rest = rest; registers = loaded job (Load place) state.memory registers }) (record { loaded = tidy.loaded; rest = byte }) all.actors;
      }
  moved_tidy a state (Store place row set ∷ rest) registers all tidy =
      let value = value_kept_on job (row_in job registers.loaded row) row set in
      record {
        memory = with_byte-laid job.layout state.memory place (with_bits_of job.layout place row set.leaf value registers.byte) all.memory tidy.rest.0
            (changed-padded job.layout place row set.leaf value registers.byte tidy.rest.1);
        actors = with_actor state a (record { rest = rest; registers = registers }) (record { loaded = tidy.loaded; rest = tidy.rest.2 }) all.actors;
      }

  -- so it stays
  pub tidy_by : (schedule : List ℕ) (state : State (List (List ℕ)) Micro Registers) → AreAllTidy state → AreAllTidy (run_by job fresh schedule state)
  tidy_by [] state all = all
  tidy_by (a ∷ schedule) state all =
      let actor = slice_index_or state.actors a (idle_with fresh) in
      tidy_by schedule (turned (stored job) (loaded job) (idle_with fresh) a state) (moved_tidy a state actor.rest actor.registers all (all.actors a))

  -- and so it begins
  pub tidy_start : (cuts : List ℕ) (count : ℕ) (memory : List (List ℕ)) → AreLaid job.layout memory → AreLaid job.layout fresh.loaded → AreAllTidy (started job cuts count memory fresh)
  tidy_start cuts count memory laid loaded = record { memory = laid; actors = λ a. each (parts_from 0 cuts count) a } where
    each : (parts : List (ℕ × ℕ)) (a : ℕ) → IsTidy job.layout (slice_index_or (team_of job parts fresh) a (idle_with fresh))
    each [] a = record { loaded = loaded; rest = tt }
    each (part ∷ parts) zero = record { loaded = loaded; rest = tidy-steps job fresh.byte part.0 part.1 }
    each (part ∷ parts) (suc a) = each parts a
