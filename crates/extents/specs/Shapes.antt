-- What the words of a shape mean.
use Rattle.std.specs.Prelude.{◌≢◌, ℕ, ◌==◌, ◌/◌, ◌%◌, ◌<◌, ◌≤◌, ◌^◌, Bool, true, false, not, ◌&&◌, ◌||◌, nat_lt, if◌then◌else◌, List, map, length, count_by, IsTrue, IsSomeAnd, Option, Some, None, unwrap_or}
use Rattle.std.specs.List.{list_any}
use Rattle.std.specs.Option.{option_map_or}
use Rattle.extents.specs.declared.words.BadExtents.{BadExtents}
use Rattle.extents.specs.declared.words.BadExtents.TheVariants as bad
use Rattle.extents.specs.declared.words.ExtentWord.{ExtentWord}
use Rattle.extents.specs.declared.words.ExtentWord.TheVariants.{Fixed, Rows}
use Rattle.extents.specs.Indices.{product}

abbrev pub is_rows : ExtentWord → Bool
is_rows (Fixed n) = false
is_rows Rows = true

abbrev pub is_zero : ExtentWord → Bool
is_zero (Fixed n) = n == 0
is_zero Rows = false

-- the extent that a word gives where `Rows` stands for s
abbrev pub extent_of : ℕ → ExtentWord → ℕ
extent_of s (Fixed n) = n
extent_of s Rows = s

-- 1 to 4 words
abbrev pub IsRanked : List ExtentWord → Type 0
IsRanked words = (0 < length words) × (length words ≤ 4)

-- two of the words are `Rows`
abbrev pub HasTwoRows : List ExtentWord → Type 0
HasTwoRows words = 1 < count_by is_rows words

-- one of the words is `Rows`
abbrev pub HasRows : List ExtentWord → Type 0
HasRows words = 0 < count_by is_rows words

-- one of the words is 0
abbrev pub HasZero : List ExtentWord → Type 0
HasZero words = IsTrue (list_any is_zero words)

-- the words of a shape: 1 to 4, of which at most one is `Rows`, and none is 0 beside it
pub record IsShape (words : List ExtentWord) : Type 0 where
  pub ranked : IsRanked words
  pub one : ¬ HasTwoRows words
  pub apart : HasRows words → ¬ HasZero words

-- the product of the fixed extents
abbrev pub fixed_product : List ExtentWord → ℕ
fixed_product words = product (map (extent_of 1) words)

-- the extents for this number of rows: `Rows` stands for the rows that the fixed extents leave
abbrev pub extents_for : List ExtentWord → Option ℕ → List ℕ
extents_for words rows = map (extent_of (unwrap_or rows 0 / fixed_product words)) words

-- the fixed extents do not divide the number of rows
abbrev pub IsUneven : List ExtentWord → Option ℕ → Type 0
IsUneven words rows = HasRows words × (unwrap_or rows 0 % fixed_product words ≢ 0)

-- all extents are fixed, and another number of rows is given than theirs
abbrev pub IsUnequal : List ExtentWord → Option ℕ → Type 0
IsUnequal words rows = (¬ HasRows words) × IsSomeAnd rows (λ n. n ≢ fixed_product words)

-- more than 2 ^ 24 rows
abbrev pub IsTooMany : List ExtentWord → Option ℕ → Type 0
IsTooMany words rows = 2 ^ 24 < product (extents_for words rows)

-- the first cause for which words are no shape
abbrev pub bad_shape : List ExtentWord → Option BadExtents
bad_shape words =
    if (length words == 0) || nat_lt 4 (length words) then Some bad.Rank
    else (if nat_lt 1 (count_by is_rows words) then Some bad.TwoRows
    else (if nat_lt 0 (count_by is_rows words) && list_any is_zero words then Some bad.RowsBesideZero
    else None))

-- the first cause for which the words of a shape give no extents for this number of rows
abbrev pub bad_extents : List ExtentWord → Option ℕ → Option BadExtents
bad_extents words rows =
    if nat_lt 0 (count_by is_rows words) && not (unwrap_or rows 0 % fixed_product words == 0) then Some bad.NotDivisible
    else (if (count_by is_rows words == 0) && option_map_or (λ n. not (n == fixed_product words)) rows false then Some bad.NotEqual
    else (if nat_lt (2 ^ 24) (product (extents_for words rows)) then Some bad.TooMany
    else None))
