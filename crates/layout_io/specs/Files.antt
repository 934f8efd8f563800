-- Files as a finite map from names to bytes, and what one read of a file gives.
use Rattle.std.specs.Prelude.{◌≡◌, ℕ, ◌<◌, List, [], ◌∷◌, length, take, drop, Option, Some, None, IsSomeAnd, bytes_eq, if◌then◌else◌, ⊤}

-- a file: the bytes of its name, and what it holds
pub record File : Type 0 where
  pub name : List ℕ
  pub bytes : List ℕ

-- what the first file of this name holds
abbrev pub file_named : List File → List ℕ → Option (List ℕ)
file_named [] name = None
file_named (file ∷ files) name = if bytes_eq file.name name then Some file.bytes else file_named files name

-- the files are told, and none has this name
abbrev pub IsMissing : Option (List File) → List ℕ → Type 0
IsMissing None name = ⊥
IsMissing (Some files) name = file_named files name ≡ None

-- where the files are told: one has this name, and P holds of its bytes
abbrev pub HasFile : Option (List File) → List ℕ → (List ℕ → Type 0) → Type 0
HasFile None name P = ⊤
HasFile (Some files) name P = IsSomeAnd (file_named files name) P

-- a read from place `at` of these bytes gave n of them, and at least one where there was one to give and room for it
pub record Reads (at n : ℕ) (into bytes : List ℕ) : Type 0 where
  pub same : take n into ≡ take n (drop at bytes)
  pub moves : at < length bytes → 0 < length into → 0 < n
