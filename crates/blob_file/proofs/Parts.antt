-- Lists told apart: fronts, lines that end at their first LF, numbers in four bytes, and blobs of the same lengths.
use Rattle.blob_file.proofs.Imports.{◌≡◌, ℕ, ◌<◌, ◌^◌, List, [], ◌∷◌, ◌++◌, length, map, refl, ap, ◌∙◌, arith, NoEnd, joined, four_bytes}

-- lists that are equal when others stand behind them
pub same_fronts : {A : Type 0} (xs ys more others : List A) → length xs ≡ length ys → xs ++ more ≡ ys ++ others → (xs ≡ ys) × (more ≡ others)
same_fronts [] [] more others e same = (refl, same)
same_fronts (x ∷ xs) (y ∷ ys) more others e same =
    let heads : x ≡ y = cc in
    let tails : xs ++ more ≡ ys ++ others = cc in
    let rest = same_fronts xs ys more others (omega (arith, e)) tails in
    (ap (λ h. h ∷ xs) heads ∙ ap (λ t. y ∷ t) rest.0, rest.1)
same_fronts xs ys more others e same = absurd (omega (arith, e))

-- a text ends at the first LF
pub same_lines : (text other rest others : List ℕ) → NoEnd text → NoEnd other → text ++ 10 ∷ rest ≡ other ++ 10 ∷ others → (text ≡ other) × (rest ≡ others)
same_lines [] [] rest others one two same = (refl, (let e : rest ≡ others = cc in e))
same_lines [] (byte ∷ bytes) rest others one two same = absurd (two.0 (let e : byte ≡ 10 = cc in e))
same_lines (byte ∷ bytes) [] rest others one two same = absurd (one.0 (let e : byte ≡ 10 = cc in e))
same_lines (byte ∷ bytes) (other ∷ more) rest others one two same =
    let heads : byte ≡ other = cc in
    let tails : bytes ++ 10 ∷ rest ≡ more ++ 10 ∷ others = cc in
    let behind = same_lines bytes more rest others one.1 two.1 tails in
    (ap (λ h. h ∷ bytes) heads ∙ ap (λ t. other ∷ t) behind.0, behind.1)

-- numbers below 2^32 by their four bytes
pub same_numbers : (n m : ℕ) → n < 2 ^ 32 → m < 2 ^ 32 → four_bytes n ≡ four_bytes m → n ≡ m
same_numbers n m small low same = grind arith

-- blobs of the same lengths
pub same_blobs : (blobs others : List (List ℕ)) → map (length {A = ℕ}) blobs ≡ map (length {A = ℕ}) others → joined blobs ≡ joined others → blobs ≡ others
same_blobs [] [] lengths same = refl
same_blobs [] (other ∷ others) lengths same = absurd (let e : [] ≡ map (length {A = ℕ}) (other ∷ others) = lengths in cc)
same_blobs (blob ∷ blobs) [] lengths same = absurd (let e : map (length {A = ℕ}) (blob ∷ blobs) ≡ [] = lengths in cc)
same_blobs (blob ∷ blobs) (other ∷ others) lengths same =
    let size : length blob ≡ length other = cc in
    let sizes : map (length {A = ℕ}) blobs ≡ map (length {A = ℕ}) others = cc in
    let here = same_fronts blob other (joined blobs) (joined others) size same in
    ap (λ h. h ∷ blobs) here.0 ∙ ap (λ t. other ∷ t) (same_blobs blobs others sizes here.1)
