-- The bits of a blob as maximal runs of one owner.
use Rattle.std.specs.Prelude.{◌+◌, ◌==◌, ◌&&◌, ◌∷◌, if◌then◌else◌}
use Rattle.map_any.specs.Imports.{ℕ, Bool, true, false, List, [], slice_index_or, Owner, Pad, Bit, Run, RunOwner}
use Rattle.places.specs.declared.piece.RunOwner.TheVariants as run

-- whose a run of this bit alone is
abbrev pub run_owner : Owner → RunOwner
run_owner Pad = run.Pad
run_owner (Bit row leaf bit) = run.Leaf row leaf bit

-- what stands right behind so many bits of an owner goes on with them: both are padding, or it has the next bits of the same leaf
abbrev pub goes_on : RunOwner → ℕ → RunOwner → Bool
goes_on run.Pad bits run.Pad = true
goes_on (run.Leaf row leaf low) bits (run.Leaf next_row next_leaf next_low) = row == next_row && (leaf == next_leaf && low + bits == next_low)
goes_on _ bits _ = false

-- a run before others, made one with the first of them where that goes on with it
abbrev pub joined_run : Run → List Run → List Run
joined_run run [] = run ∷ []
joined_run run (next ∷ runs) = if goes_on run.owner run.bits next.owner then record run { bits = run.bits + next.bits } ∷ runs else run ∷ next ∷ runs

-- the runs of bits that have these owners, from this bit of a blob on
abbrev pub runs_from : ℕ → ℕ → List Owner → List Run
runs_from blob bit [] = []
runs_from blob bit (owner ∷ owners) = joined_run (record { blob = blob; bit = bit; bits = 1; owner = run_owner owner }) (runs_from blob (bit + 1) owners)

-- the runs of a blob, none of which goes on with the one before it
unfoldable pub runs_of : List (List Owner) → ℕ → List Run
runs_of layout blob = runs_from blob 0 (slice_index_or layout blob [])
