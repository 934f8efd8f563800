-- What the reading of a whole file answers.
use Rattle.std.specs.Prelude.{◌≡◌, ℕ, ◌<◌, ◌≤◌, ◌⊎◌, List, length, Option, Result, Ok, Err}
use Rattle.layout_io.specs.declared.whole.ReadEnd.{ReadEnd}
use Rattle.layout_io.specs.declared.whole.ReadEnd.TheVariants.{Failed, TooLong, NoMemory}
use Rattle.layout_io.specs.Faults.{Rose}
use Rattle.layout_io.specs.Files.{File, IsMissing, HasFile}

-- the bytes are the whole file, a failed read was counted or the name is not there, and a file that is too long is so
abbrev pub ReadsWhole : Option (List File) → List ℕ → ℕ → ℕ → ℕ → Result (List ℕ) ReadEnd → Type 0
ReadsWhole files name limit before now (Ok bytes) = HasFile files name (λ file. bytes ≡ file) × (length bytes ≤ limit) × (now ≡ before)
ReadsWhole files name limit before now (Err Failed) = (before ≤ now) × (Rose before now ⊎ IsMissing files name)
ReadsWhole files name limit before now (Err TooLong) = HasFile files name (λ file. limit < length file) × (now ≡ before)
ReadsWhole files name limit before now (Err NoMemory) = now ≡ before
