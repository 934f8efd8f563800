-- What contracts see of a shelf in memory, and what one read of it answers.
use Rattle.std.specs.Prelude.{◌≡◌, ℕ, ◌-◌, ◌^◌, min, List, [], ◌++◌, ◌⊎◌, length, take, drop, None, Contains, IsSome, IsSomeAnd, Result, MatchResult}
use Rattle.layout_io.specs.Files.{File, file_named}
use Rattle.layout_io.specs.Faults.{one_more}

-- the files, the numbers of the calls that will fail, the most bytes that one call gives, and how many calls and faults there were
pub record ShelfState : Type 0 where
  pub files : List File
  pub listed : List ℕ
  pub piece : ℕ
  pub calls : ℕ
  pub faults : ℕ

-- no file, no listed call, no bound on a piece
abbrev pub empty_shelf : ShelfState
empty_shelf = record { files = []; listed = []; piece = 2 ^ 64 - 1; calls = 0; faults = 0 }

-- the call that comes now is listed
abbrev pub ReadFails : ShelfState → Type 0
ReadFails state = Contains state.listed state.calls

-- a call that is not listed and names a file copies as many of its bytes from place `at` on as there are, as fit and as one call gives; any other call copies none
abbrev pub ReadsPiece : {E : Type 0} → ShelfState → List ℕ → ℕ → Result ℕ E → List ℕ → List ℕ → Type 0
ReadsPiece state name at result before now =
    MatchResult result
    (λ n. (¬ ReadFails state) × IsSomeAnd (file_named state.files name) (λ bytes. (n ≡ min (length before) (min state.piece (length bytes - at))) × (now ≡ take n (drop at bytes) ++ drop n before)))
    (λ _. (ReadFails state ⊎ (file_named state.files name ≡ None)) × (now ≡ before))

-- the shelf one call later: the count of calls rose, and that of faults too exactly where a listed call named a file that is there
pub record CountsRead (old new : ShelfState) (name : List ℕ) : Type 0 where
  pub calls : new ≡ record old { calls = one_more old.calls; faults = new.faults }
  pub faulted : ReadFails old → IsSome (file_named old.files name) → new.faults ≡ one_more old.faults
  pub unlisted : (¬ ReadFails old) → new.faults ≡ old.faults
  pub missing : file_named old.files name ≡ None → new.faults ≡ old.faults
