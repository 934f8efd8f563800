-- What the owners of bits tell of the bytes that two actors share.
use Rattle.std.specs.Prelude.{ℕ, ◌≡◌, ◌*◌, List, map, take, drop, Option, Some}
use Rattle.actors.specs.Imports.{Owner, Pad, Bit, RunOwner, Place}
use Rattle.places.specs.declared.piece.RunOwner.TheVariants as run
use Rattle.actors.specs.declared.fault.CutFault.{CutFault}
use Rattle.actors.specs.declared.fault.CutFault.TheVariants.{SharedByte, NoMemory}

-- the owner of a bit, as the code has it
abbrev pub owner_shown : RunOwner → Owner
owner_shown run.Pad = Pad
owner_shown (run.Leaf row leaf low) = Bit row leaf low

-- the owners of the bits of a byte, of those of a blob
abbrev pub shown_in_byte : List RunOwner → ℕ → List Owner
shown_in_byte owners byte = map owner_shown (take 8 (drop (8 * byte) owners))

-- where the first shared byte is this one, or there may be one, the fault that a check tells
abbrev pub IsCutFault : Option Place → CutFault → Type 0
IsCutFault first (SharedByte blob byte) = first ≡ Some (record { blob = blob; byte = byte })
IsCutFault first NoMemory = Unit {0}
