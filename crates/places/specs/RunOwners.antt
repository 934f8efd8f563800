-- Whose runs of bits are.
use Rattle.std.specs.Prelude.{ℕ, ◌<◌}
use Rattle.places.specs.declared.piece.RunOwner.{RunOwner}
use Rattle.places.specs.declared.piece.RunOwner.TheVariants.{Pad, Leaf}

-- an owner whose leaf is one of so many
abbrev pub IsOwnerBelow : ℕ → RunOwner → Type 0
IsOwnerBelow leaves Pad = Unit {0}
IsOwnerBelow leaves (Leaf row leaf low) = leaf < leaves
