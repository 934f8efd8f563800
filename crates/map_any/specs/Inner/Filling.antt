-- Which bits of a blob show whose they are, while these are filled in.
use Rattle.std.specs.Prelude.{◌≡◌, ◌+◌, ◌<◌, ◌≤◌, ◌⊎◌, ◌∷◌}
use Rattle.map_any.specs.Imports.{ℕ, List, [], length, slice_index_or, Owner, Bit, owner_at, Piece, Run, RunOwner}
use Rattle.places.specs.declared.piece.RunOwner.TheVariants as run
use Rattle.map_any.specs.BitRuns.{run_owner, joined_run}

-- whose a bit is shown to be; outside of the blob nobody's
abbrev pub shown_at : List RunOwner → ℕ → RunOwner
shown_at shown place = slice_index_or shown place run.Pad

-- the bits of a piece show that they are those of a leaf in a row from bit `low` on, and no other bit changed
pub record IsShown (piece : Piece) (row leaf low : ℕ) (old new : List RunOwner) : Type 0 where
  pub each : length new ≡ length old
  pub within : (k : ℕ) → k < piece.bits → shown_at new (piece.bit + k) ≡ run.Leaf row leaf (low + k)
  pub before : (place : ℕ) → place < piece.bit → shown_at new place ≡ shown_at old place
  pub behind : (place : ℕ) → piece.bit + piece.bits ≤ place → shown_at new place ≡ shown_at old place

-- each bit of a blob is as it was, or shows now whose it is
pub record IsFilled (layout : List (List Owner)) (blob : ℕ) (old new : List RunOwner) : Type 0 where
  pub each : length new ≡ length old
  pub right : (place : ℕ) → (shown_at new place ≡ shown_at old place) ⊎ (shown_at new place ≡ run_owner (owner_at layout blob place))

-- the bits of a leaf in a row that lie in a blob show whose they are, those below bit `most`
abbrev pub ShowBelow : List (List Owner) → ℕ → ℕ → ℕ → ℕ → List RunOwner → Type 0
ShowBelow layout blob row leaf most shown =
    (place bit : ℕ) → bit < most → owner_at layout blob place ≡ Bit row leaf bit → shown_at shown place ≡ run.Leaf row leaf bit

-- all bits of a leaf in a row that lie in a blob show whose they are
abbrev pub Show : List (List Owner) → ℕ → ℕ → ℕ → List RunOwner → Type 0
Show layout blob row leaf shown = (place bit : ℕ) → owner_at layout blob place ≡ Bit row leaf bit → shown_at shown place ≡ run.Leaf row leaf bit

-- the runs of bits that show whose they are, from this bit of a blob on
abbrev pub runs_along : ℕ → ℕ → List RunOwner → List Run
runs_along blob bit [] = []
runs_along blob bit (owner ∷ owners) = joined_run (record { blob = blob; bit = bit; bits = 1; owner = owner }) (runs_along blob (bit + 1) owners)
