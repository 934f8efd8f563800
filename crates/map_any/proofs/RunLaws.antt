-- How a run is made one with the bits behind it.
use Rattle.map_any.proofs.Imports.{◌≡◌, ℕ, ◌+◌, true, false, ⊎_elim, List, [], ◌∷◌, map, refl, ap, arith, cases_Bool, cond-true, cond-false, and_parts, eqb-true, Owner, Run, RunOwner, runs_along, run_owner, goes_on, joined_run, runs_from}

-- the run of one bit
abbrev pub bit_run : ℕ → ℕ → RunOwner → Run
bit_run blob bit owner = record { blob = blob; bit = bit; bits = 1; owner = owner }

-- a run with more bits
abbrev pub longer : Run → ℕ → Run
longer run more = record { blob = run.blob; bit = run.bit; bits = run.bits + more; owner = run.owner }

-- what goes on with an owner that goes on with another goes on with that one, too
goes_on_later : (a b c : RunOwner) (n m : ℕ) → goes_on a n b ≡ true → goes_on a (n + m) c ≡ goes_on b m c
goes_on_later a b c n m e = grind (arith, and_parts, eqb-true)

-- a run and the one behind it, where that goes on with it and where it does not
joined_on : (run next : Run) (runs : List Run) → goes_on run.owner run.bits next.owner ≡ true → joined_run run (next ∷ runs) ≡ longer run next.bits ∷ runs
joined_on run next runs e = cond-true (goes_on run.owner run.bits next.owner) (longer run next.bits ∷ runs) (run ∷ next ∷ runs) e

joined_apart : (run next : Run) (runs : List Run) → goes_on run.owner run.bits next.owner ≡ false → joined_run run (next ∷ runs) ≡ run ∷ next ∷ runs
joined_apart run next runs e = cond-false (goes_on run.owner run.bits next.owner) (longer run next.bits ∷ runs) (run ∷ next ∷ runs) e

-- a run takes in a bit that goes on with it
pub run_longer : (run : Run) (blob bit : ℕ) (owner : RunOwner) (rest : List Run) → goes_on run.owner run.bits owner ≡ true
    → joined_run run (joined_run (bit_run blob bit owner) rest) ≡ joined_run (longer run 1) rest
run_longer run blob bit owner rest e = grind (arith, joined_on, goes_on_later, ⊎_elim, joined_apart, cases_Bool)

-- a run ends before a bit that does not go on with it
pub run_ends : (run : Run) (blob bit : ℕ) (owner : RunOwner) (rest : List Run) → goes_on run.owner run.bits owner ≡ false
    → joined_run run (joined_run (bit_run blob bit owner) rest) ≡ run ∷ joined_run (bit_run blob bit owner) rest
run_ends run blob bit owner rest e = grind (arith, joined_apart, ⊎_elim, joined_on, cases_Bool)

-- the runs of bits are those of what the bits show
pub runs_shown : (blob bit : ℕ) (owners : List Owner) → runs_along blob bit (map run_owner owners) ≡ runs_from blob bit owners
runs_shown blob bit [] = refl
runs_shown blob bit (owner ∷ owners) = ap (joined_run (bit_run blob bit (run_owner owner))) (runs_shown blob (bit + 1) owners)
