-- What the loop over reads keeps.
use Rattle.layout_io.proofs.Imports.{◌≡◌, ℕ, ◌+◌, ◌<◌, ◌≤◌, List, [], ◌++◌, take, length, Option, Some, None, IfSome, IsSomeAnd, refl, arith, length-append, ⊤, take-add, take_all, length-take-le, File, file_named, HasFile, Reads}

-- where the files are told and one has this name: P holds of its bytes
pub IfFile : Option (List File) → List ℕ → (List ℕ → Type 0) → Type 0
IfFile None name P = ⊤
IfFile (Some files) name P = IfSome (file_named files name) P

-- so far the bytes are a front of the file, and no read failed
pub record ReadsFront {H : Type 0} (files : H → Option (List File)) (faults : H → ℕ) (first now : H) (name bytes : List ℕ) (limit : ℕ) : Type 0 where
  pub told : files now ≡ files first
  pub unfailed : faults now ≡ faults first
  pub within : length bytes ≤ limit
  pub front : IfFile (files first) name (λ file. bytes ≡ take (length bytes) file)

both : (o : Option (List ℕ)) (P Q R : List ℕ → Type 0) → ((file : List ℕ) → P file → Q file → R file) → IfSome o P → IsSomeAnd o Q → IsSomeAnd o R
both o P Q R join p q = grind arith

HasFile-both : (files : Option (List File)) (name : List ℕ) (P Q R : List ℕ → Type 0) → ((file : List ℕ) → P file → Q file → R file) → IfFile files name P → HasFile files name Q → HasFile files name R
unfolding IfFile
HasFile-both None name P Q R join p q = tt
HasFile-both (Some files) name P Q R join p q = both (file_named files name) P Q R join p q

if_some : (o : Option (List ℕ)) (P : List ℕ → Type 0) → IsSomeAnd o P → IfSome o P
if_some o P h = grind arith

IfFile-from : (files : Option (List File)) (name : List ℕ) (P : List ℕ → Type 0) → HasFile files name P → IfFile files name P
unfolding IfFile
IfFile-from None name P h = tt
IfFile-from (Some files) name P h = if_some (file_named files name) P h

trivially : (o : Option (List ℕ)) (P : List ℕ → Type 0) → ((file : List ℕ) → P file) → IfSome o P
trivially o P h = grind arith

IfFile-all : (files : Option (List File)) (name : List ℕ) (P : List ℕ → Type 0) → ((file : List ℕ) → P file) → IfFile files name P
unfolding IfFile
IfFile-all None name P h = tt
IfFile-all (Some files) name P h = trivially (file_named files name) P h

pub ReadsFront-none : {H : Type 0} (files : H → Option (List File)) (faults : H → ℕ) (first : H) (name : List ℕ) (limit : ℕ) → ReadsFront files faults first first name [] limit
ReadsFront-none files faults first name limit = record { told = refl; unfailed = refl; within = omega arith; front = IfFile-all (files first) name _ (λ file. refl) }

pub ReadsFront-more : {H : Type 0} {files : H → Option (List File)} {faults : H → ℕ} {first mid : H} {name bytes : List ℕ} {limit : ℕ} (new : H) (n : ℕ) (piece : List ℕ)
    → ReadsFront files faults first mid name bytes limit → files new ≡ files mid → faults new ≡ faults mid
    → HasFile (files mid) name (Reads (length bytes) n piece) → n ≤ length piece → length bytes + n ≤ limit
    → ReadsFront files faults first new name (bytes ++ take n piece) limit
ReadsFront-more {files} {first} {name} {bytes} new n piece so_far told unfailed reads bound room = grind (arith, length-append, length-take-le, IfFile-from, HasFile-both, take-add)

pub ReadsFront-all : {H : Type 0} {files : H → Option (List File)} {faults : H → ℕ} {first mid : H} {name bytes : List ℕ} {limit : ℕ} (piece : List ℕ)
    → ReadsFront files faults first mid name bytes limit → HasFile (files mid) name (Reads (length bytes) 0 piece) → 0 < length piece
    → HasFile (files first) name (λ file. bytes ≡ file)
ReadsFront-all {files} {first} {name} {bytes} piece so_far reads some = grind (arith, HasFile-both, take_all)
