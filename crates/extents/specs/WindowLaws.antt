-- The indices of a window are those of an array of its own, moved.
use Rattle.std.proofs.Common.{◌≡◌, ℕ, zero, suc, get_or, length-append, All, ◌^◌, ◌+◌, ◌-◌, ◌<◌, ◌≤◌, Bool, true, false, List, [], ◌∷◌, ◌++◌, map, filter, refl, sym, ap, ◌∙◌, ◌⊎◌, ⊎_elim, arith}
use Rattle.std.specs.Prelude.{◌&&◌, nat_le, nat_lt, length, slice_get, Some, if◌then◌else◌}
use Rattle.std.specs.Option.{option_map}
use Rattle.std.proofs.lemmas.Option.{slice_get-map}
use Rattle.std.proofs.lemmas.Nat.{mul-le}
use Rattle.std.specs.List.{flat_map, range_with_len, enumerate_from}
use Rattle.std.proofs.lemmas.Bool.{and_from, le-leb, lt-leb, lt-ltb, le-ltb}
use Rattle.std.proofs.lemmas.List.{append-nil, length-map}
use Rattle.std.proofs.lemmas.List.Concat.{flat_map-append}
use Rattle.extents.specs.Indices.{indices, product, IsInside}
use Rattle.extents.specs.IndicesLaws.{same_row}
use Rattle.extents.specs.declared.words.ExtentWord.{ExtentWord}
use Rattle.extents.specs.declared.words.ExtentWord.TheVariants.{Fixed}
use Rattle.extents.specs.Shapes.{extent_of}
use Rattle.extents.specs.Windows.{Span, IsWindow, holds, held, rows_in, sizes, moved}

range_cut : (a m n : ℕ) → range_with_len a (m + n) ≡ range_with_len a m ++ range_with_len (a + m) n
range_cut a zero n = (let one : 0 + n ≡ n = omega arith in let two : a ≡ a + 0 = omega arith in ap (range_with_len a) one ∙ ap (λ (w : ℕ). range_with_len w n) two)
range_cut a (suc m) n =
    (let one : suc m + n ≡ suc (m + n) = omega arith in
    let two : a + 1 + m ≡ a + suc m = omega arith in
    ap (range_with_len a) one ∙ ap (λ (w : List ℕ). a ∷ w) (range_cut (a + 1) m n ∙ ap (λ (w : ℕ). range_with_len (a + 1) m ++ range_with_len w n) two))

filter-append : {X : Type 0} (test : X → Bool) (xs ys : List X) → filter test (xs ++ ys) ≡ filter test xs ++ filter test ys
filter-append test [] ys = refl
filter-append {X} test (x ∷ xs) ys = ap (λ (w : List X). if test x then x ∷ w else w) (filter-append test xs ys) ∙ by_test (test x) where
  by_test : (t : Bool) → (if t then x ∷ (filter test xs ++ filter test ys) else (filter test xs ++ filter test ys)) ≡ (if t then x ∷ filter test xs else filter test xs) ++ filter test ys
  by_test true = refl
  by_test false = refl

filter-lists : {X : Type 0} (test : X → Bool) (f : ℕ → List X) (xs : List ℕ) → filter test (flat_map f xs) ≡ flat_map (λ x. filter test (f x)) xs
filter-lists test f [] = refl
filter-lists {X} test f (x ∷ xs) = filter-append test (f x) (flat_map f xs) ∙ ap (λ (w : List X). filter test (f x) ++ w) (filter-lists test f xs)

map-lists : {X Y : Type 0} (g : X → Y) (f : ℕ → List X) (xs : List ℕ) → map g (flat_map f xs) ≡ flat_map (λ x. map g (f x)) xs
map-lists g f [] = refl
map-lists {X} {Y} g f (x ∷ xs) = both (f x) (flat_map f xs) ∙ ap (λ (w : List Y). map g (f x) ++ w) (map-lists g f xs) where
  both : (one two : List X) → map g (one ++ two) ≡ map g one ++ map g two
  both [] two = refl
  both (y ∷ ys) two = ap (λ (w : List Y). g y ∷ w) (both ys two)

-- the indices with this first component that a window holds
inside-first : (span : Span) (spans : List Span) (i : ℕ) (xs : List (List ℕ)) → (nat_le span.from i && nat_lt i span.end) ≡ true
    → filter (holds (span ∷ spans)) (map (λ rest. i ∷ rest) xs) ≡ map (λ rest. i ∷ rest) (filter (holds spans) xs)
inside-first span spans i [] e = refl
inside-first span spans i (x ∷ xs) e =
    ap (λ (t : Bool). if t && holds spans x then (i ∷ x) ∷ filter (holds (span ∷ spans)) (map (λ rest. i ∷ rest) xs) else filter (holds (span ∷ spans)) (map (λ rest. i ∷ rest) xs)) e
    ∙ ap (λ (w : List (List ℕ)). if holds spans x then (i ∷ x) ∷ w else w) (inside-first span spans i xs e) ∙ by_test (holds spans x) where
      by_test : (t : Bool) → (if t then (i ∷ x) ∷ map (λ rest. i ∷ rest) (filter (holds spans) xs) else map (λ rest. i ∷ rest) (filter (holds spans) xs))
          ≡ map (λ rest. i ∷ rest) (if t then x ∷ filter (holds spans) xs else filter (holds spans) xs)
      by_test true = refl
      by_test false = refl

outside-first : (span : Span) (spans : List Span) (i : ℕ) (xs : List (List ℕ)) → (nat_le span.from i && nat_lt i span.end) ≡ false
    → filter (holds (span ∷ spans)) (map (λ rest. i ∷ rest) xs) ≡ []
outside-first span spans i [] e = refl
outside-first span spans i (x ∷ xs) e = grind (arith, (outside-first span spans i xs e))

-- so of all first components of a range
none-of : (f g : ℕ → List (List ℕ)) (a n : ℕ) → ((i : ℕ) → a ≤ i → i < a + n → f i ≡ []) → flat_map f (range_with_len a n) ≡ []
none-of f g a zero none = refl
none-of f g a (suc n) none =
    ap (λ (w : List (List ℕ)). w ++ flat_map f (range_with_len (a + 1) n)) (none a (omega arith) (omega arith))
    ∙ none-of f g (a + 1) n (λ i low high. none i (omega (arith, low)) (omega (arith, high)))

all-of : (f g : ℕ → List (List ℕ)) (a b n : ℕ) → ((k : ℕ) → k < n → f (a + k) ≡ g (b + k)) → flat_map f (range_with_len a n) ≡ flat_map g (range_with_len b n)
all-of f g a b zero same = refl
all-of f g a b (suc n) same =
    (let here : f a ≡ g b = (let one : a ≡ a + 0 = omega arith in let two : b + 0 ≡ b = omega arith in ap f one ∙ same 0 (omega arith) ∙ ap g two) in
    ap (λ (w : List (List ℕ)). w ++ flat_map f (range_with_len (a + 1) n)) here
    ∙ ap (λ (w : List (List ℕ)). g b ++ w) (all-of f g (a + 1) (b + 1) n (λ k low.
    (let one : a + 1 + k ≡ a + (k + 1) = omega arith in
    let two : b + (k + 1) ≡ b + 1 + k = omega arith in
    ap f one ∙ same (k + 1) (omega (arith, low)) ∙ ap g two))))

test-in : (span : Span) (i : ℕ) → span.from ≤ i → i < span.end → (nat_le span.from i && nat_lt i span.end) ≡ true
test-in span i low high = and_from (nat_le span.from i) (nat_lt i span.end) (le-leb span.from i low) (lt-ltb i span.end high)

test-below : (span : Span) (i : ℕ) → i < span.from → (nat_le span.from i && nat_lt i span.end) ≡ false
test-below span i low = ap (λ (t : Bool). t && nat_lt i span.end) (lt-leb span.from i low)

test-above : (span : Span) (i : ℕ) → span.end ≤ i → (nat_le span.from i && nat_lt i span.end) ≡ false
test-above span i high = by_test (nat_le span.from i) where
  by_test : (t : Bool) → (t && nat_lt i span.end) ≡ false
  by_test true = le-ltb i span.end high
  by_test false = refl

-- the indices that a window holds, in the order of rows, are those of an array of its sizes, moved
pub windows_are_moved : (extents : List ℕ) (spans : List Span) → IsWindow extents spans → held extents spans ≡ map (moved spans) (indices (sizes spans))
unfolding indices
windows_are_moved [] [] is = refl
windows_are_moved (extent ∷ extents) (span ∷ spans) is =
    let from = span.from in
    let size = span.end - span.from in
    let past = extent - span.end in
    let whole : extent ≡ from + (size + past) = omega (arith, is.0.0, is.0.1) in
    let rows : ℕ → List (List ℕ) = λ i. map (λ rest. i ∷ rest) (indices extents) in
    let f : ℕ → List (List ℕ) = λ i. filter (holds (span ∷ spans)) (rows i) in
    let g : ℕ → List (List ℕ) = λ i. map (moved (span ∷ spans)) (map (λ rest. i ∷ rest) (indices (sizes spans))) in
    let rest = windows_are_moved extents spans is.1 in
    let cut : range_with_len 0 extent ≡ range_with_len 0 from ++ (range_with_len (0 + from) size ++ range_with_len (0 + from + size) past) =
    ap (range_with_len 0) whole ∙ range_cut 0 from (size + past) ∙ ap (λ (w : List ℕ). range_with_len 0 from ++ w) (range_cut (0 + from) size past) in
    let before : flat_map f (range_with_len 0 from) ≡ [] = none-of f g 0 from (λ i low high. outside-first span spans i (indices extents) (test-below span i (omega (arith, high)))) in
    let behind : flat_map f (range_with_len (0 + from + size) past) ≡ [] =
    none-of f g (0 + from + size) past (λ i low high. outside-first span spans i (indices extents) (test-above span i (omega (arith, low, is.0.0)))) in
    let within : flat_map f (range_with_len (0 + from) size) ≡ flat_map g (range_with_len 0 size) =
    all-of f g (0 + from) 0 size
    (λ k low.
    (let at : 0 + from + k ≡ from + k = omega arith in
    let back : from + k ≡ from + (0 + k) = omega arith in
    inside-first span spans (0 + from + k) (indices extents) (test-in span (0 + from + k) (omega arith) (omega (arith, low)))
    ∙ ap (map (λ rest. (0 + from + k) ∷ rest)) rest
    ∙ ap (λ (w : ℕ). map (λ rest. w ∷ rest) (map (moved spans) (indices (sizes spans)))) (at ∙ back)
    ∙ twice span spans (0 + k) (indices (sizes spans)))) in
    filter-lists (holds (span ∷ spans)) rows (range_with_len 0 extent) ∙ ap (flat_map f) cut
    ∙ flat_map-append f (range_with_len 0 from) (range_with_len (0 + from) size ++ range_with_len (0 + from + size) past)
    ∙ ap (λ (w : List (List ℕ)). w ++ flat_map f (range_with_len (0 + from) size ++ range_with_len (0 + from + size) past)) before
    ∙ flat_map-append f (range_with_len (0 + from) size) (range_with_len (0 + from + size) past)
    ∙ ap (λ (w : List (List ℕ)). flat_map f (range_with_len (0 + from) size) ++ w) behind ∙ append-nil (flat_map f (range_with_len (0 + from) size)) ∙ within
    ∙ sym (map-lists (moved (span ∷ spans)) (λ i. map (λ rest. i ∷ rest) (indices (sizes spans))) (range_with_len 0 size)) where
      twice : (span : Span) (spans : List Span) (i : ℕ) (xs : List (List ℕ)) → map (λ rest. (span.from + i) ∷ rest) (map (moved spans) xs) ≡ map (moved (span ∷ spans)) (map (λ rest. i ∷ rest) xs)
      twice span spans i [] = refl
      twice span spans i (x ∷ xs) = ap (λ (w : List (List ℕ)). ((span.from + i) ∷ moved spans x) ∷ w) (twice span spans i xs)
windows_are_moved [] (span ∷ spans) is = absurd is
windows_are_moved (extent ∷ extents) [] is = absurd is

-- ---- the rows of a window

-- the numbers of the elements that meet a test, counted from n
abbrev pub numbers_of : {X : Type 0} → (X → Bool) → ℕ → List X → List ℕ
numbers_of test n xs = map (λ e. e.0) (filter (λ e. test e.1) (enumerate_from n xs))

-- there are as many as such elements
length_numbers : {X : Type 0} (test : X → Bool) (n : ℕ) (xs : List X) → length (numbers_of test n xs) ≡ length (filter test xs)
length_numbers test n [] = refl
length_numbers test n (x ∷ xs) = by_test (test x) (length_numbers test (n + 1) xs) where
  by_test : (t : Bool) → length (numbers_of test (n + 1) xs) ≡ length (filter test xs)
      → length (map (λ e. e.0) (if t then (n, x) ∷ filter (λ e. test e.1) (enumerate_from (n + 1) xs) else filter (λ e. test e.1) (enumerate_from (n + 1) xs)))
      ≡ length (if t then x ∷ filter test xs else filter test xs)
  by_test true rest = ap suc rest
  by_test false rest = rest

-- a number at a place of a list, and the element that has it
pub record IsNumber {X : Type 0} (numbers : List ℕ) (xs : List X) (n k : ℕ) (x : X) : Type 0 where
  pub place : ℕ
  pub number : slice_get numbers k ≡ Some (n + place)
  pub element : slice_get xs place ≡ Some x

number_behind : {X : Type 0} (numbers : List ℕ) (y : X) (xs : List X) (n k : ℕ) (x : X) → IsNumber numbers xs (n + 1) k x → IsNumber numbers (y ∷ xs) n k x
number_behind numbers y xs n k x at =
    (let one : n + 1 + at.place ≡ n + suc at.place = omega arith in
    record { place = suc at.place; number = at.number ∙ ap (λ (m : ℕ). Some m) one; element = at.element })

-- each is the number of the element at this place
number_at : {X : Type 0} (test : X → Bool) (n : ℕ) (xs : List X) (k : ℕ) (x : X) → slice_get (filter test xs) k ≡ Some x → IsNumber (numbers_of test n xs) xs n k x
number_at test n [] k x at = cc
number_at {X} test n (y ∷ xs) k x at = by_test (test y) k (λ k at. number_behind (numbers_of test (n + 1) xs) y xs n k x (number_at test (n + 1) xs k x at)) at where
  by_test : (t : Bool) (k : ℕ) → ((k : ℕ) → slice_get (filter test xs) k ≡ Some x → IsNumber (numbers_of test (n + 1) xs) (y ∷ xs) n k x)
      → slice_get (if t then y ∷ filter test xs else filter test xs) k ≡ Some x
      → IsNumber (map (λ e. e.0) (if t then (n, y) ∷ filter (λ e. test e.1) (enumerate_from (n + 1) xs) else filter (λ e. test e.1) (enumerate_from (n + 1) xs))) (y ∷ xs) n k x
  by_test true zero rest at = (let none : n ≡ n + 0 = omega arith in record { place = 0; number = ap (λ (m : ℕ). Some m) none; element = at })
  by_test true (suc k) rest at = (let there = rest k at in record { place = there.place; number = there.number; element = there.element })
  by_test false k rest at = rest k at

-- none is below the first number
number_low : {X : Type 0} (test : X → Bool) (n : ℕ) (xs : List X) (k r : ℕ) → slice_get (numbers_of test n xs) k ≡ Some r → n ≤ r
number_low test n [] k r at = cc
number_low {X} test n (x ∷ xs) k r at = by_test (test x) k (λ k at. number_low test (n + 1) xs k r at) at where
  by_test : (t : Bool) (k : ℕ) → ((k : ℕ) → slice_get (numbers_of test (n + 1) xs) k ≡ Some r → n + 1 ≤ r)
      → slice_get (map (λ e. e.0) (if t then (n, x) ∷ filter (λ e. test e.1) (enumerate_from (n + 1) xs) else filter (λ e. test e.1) (enumerate_from (n + 1) xs))) k ≡ Some r → n ≤ r
  by_test true zero rest at = (let same : n ≡ r = cc in omega (arith, same))
  by_test true (suc k) rest at = omega (arith, rest k at)
  by_test false k rest at = omega (arith, rest k at)

-- a number has one place
number_once : {X : Type 0} (test : X → Bool) (n : ℕ) (xs : List X) (j k r : ℕ) → slice_get (numbers_of test n xs) j ≡ Some r → slice_get (numbers_of test n xs) k ≡ Some r → j ≡ k
number_once test n [] j k r one two = cc
number_once {X} test n (x ∷ xs) j k r one two = by_test (test x) j k (λ j k. number_once test (n + 1) xs j k r) (λ k. number_low test (n + 1) xs k r) one two where
  by_test : (t : Bool) (j k : ℕ) → ((j k : ℕ) → slice_get (numbers_of test (n + 1) xs) j ≡ Some r → slice_get (numbers_of test (n + 1) xs) k ≡ Some r → j ≡ k)
      → ((k : ℕ) → slice_get (numbers_of test (n + 1) xs) k ≡ Some r → n + 1 ≤ r)
      → slice_get (map (λ e. e.0) (if t then (n, x) ∷ filter (λ e. test e.1) (enumerate_from (n + 1) xs) else filter (λ e. test e.1) (enumerate_from (n + 1) xs))) j ≡ Some r
      → slice_get (map (λ e. e.0) (if t then (n, x) ∷ filter (λ e. test e.1) (enumerate_from (n + 1) xs) else filter (λ e. test e.1) (enumerate_from (n + 1) xs))) k ≡ Some r → j ≡ k
  by_test true zero zero same low one two = refl
  by_test true zero (suc k) same low one two = (let here : n ≡ r = cc in absurd (omega (arith, here, low k two)))
  by_test true (suc j) zero same low one two = (let here : n ≡ r = cc in absurd (omega (arith, here, low j one)))
  by_test true (suc j) (suc k) same low one two = ap suc (same j k one two)
  by_test false j k same low one two = same j k one two

-- a window has as many rows as an array of its sizes
pub window_count : (extents : List ℕ) (spans : List Span) → IsWindow extents spans → length (rows_in extents spans) ≡ length (indices (sizes spans))
window_count extents spans is =
    length_numbers (holds spans) 0 (indices extents) ∙ ap (λ (xs : List (List ℕ)). length xs) (windows_are_moved extents spans is) ∙ length-map (indices (sizes spans)) (moved spans)

-- the row of the whole array that is a row of a window: that of its index, moved
pub window_row : (extents : List ℕ) (spans : List Span) → IsWindow extents spans → (row : ℕ) (index : List ℕ) (outer : ℕ)
    → slice_get (indices (sizes spans)) row ≡ Some index → slice_get (indices extents) outer ≡ Some (moved spans index) → slice_get (rows_in extents spans) row ≡ Some outer
window_row extents spans is row index outer at there =
    let in_held : slice_get (held extents spans) row ≡ Some (moved spans index) =
    ap (λ (xs : List (List ℕ)). slice_get xs row) (windows_are_moved extents spans is) ∙ slice_get-map (moved spans) (indices (sizes spans)) row ∙ ap (option_map (moved spans)) at in
    let found = number_at (holds spans) 0 (indices extents) row (moved spans index) in_held in
    let same : 0 + found.place ≡ outer = omega (arith, same_row extents (moved spans index) found.place outer found.element there) in
    found.number ∙ ap (λ (m : ℕ). Some m) same

-- different rows of a window are different rows of the array
pub window_once : (extents : List ℕ) (spans : List Span) (j k outer : ℕ) → slice_get (rows_in extents spans) j ≡ Some outer → slice_get (rows_in extents spans) k ≡ Some outer → j ≡ k
window_once extents spans j k outer one two = number_once (holds spans) 0 (indices extents) j k outer one two

-- a moved index is inside the extents
pub moved_inside : (extents : List ℕ) (spans : List Span) (index : List ℕ) → IsWindow extents spans → IsInside (sizes spans) index → IsInside extents (moved spans index)
moved_inside [] [] [] is inside = tt
moved_inside [] [] (i ∷ index) is inside = absurd inside
moved_inside [] (span ∷ spans) index is inside = absurd is
moved_inside (extent ∷ extents) [] index is inside = absurd is
moved_inside (extent ∷ extents) (span ∷ spans) [] is inside = absurd inside
moved_inside (extent ∷ extents) (span ∷ spans) (i ∷ index) is inside = grind (arith, (moved_inside extents spans index is.1 inside.1))

-- the sizes of a window are extents too
pub product_le : (extents : List ℕ) (spans : List Span) → IsWindow extents spans → product (sizes spans) ≤ product extents
product_le [] [] is = omega arith
product_le [] (span ∷ spans) is = absurd is
product_le (extent ∷ extents) [] is = absurd is
product_le (extent ∷ extents) (span ∷ spans) is = grind (arith, mul-le, (product_le extents spans is.1))

pub same_rank : (extents : List ℕ) (spans : List Span) → IsWindow extents spans → length spans ≡ length extents
same_rank [] [] is = refl
same_rank [] (span ∷ spans) is = absurd is
same_rank (extent ∷ extents) [] is = absurd is
same_rank (extent ∷ extents) (span ∷ spans) is = ap suc (same_rank extents spans is.1)

moved_end : (spans : List Span) (index : List ℕ) → (length index ≡ 0) ⊎ (length spans ≡ 0) → moved spans index ≡ []
moved_end [] index none = refl
moved_end (span ∷ spans) [] none = refl
moved_end (span ∷ spans) (i ∷ index) none = ⊎_elim (λ (z : length (i ∷ index) ≡ 0). absurd (omega arith)) (λ (z : length (span ∷ spans) ≡ 0). absurd (omega arith)) none

-- the size of a span as a word of a shape
abbrev pub fixed_size : Span → ExtentWord
fixed_size span = Fixed (span.end - span.from)

-- components below 2 ^ 32, as those inside of extents are
abbrev pub AreNarrow : List ℕ → Type 0
AreNarrow [] = Unit {0}
AreNarrow (i ∷ index) = (i < 2 ^ 32) × AreNarrow index

pub inside_narrow : (extents index : List ℕ) → All (λ n. n < 2 ^ 32) extents → IsInside extents index → AreNarrow index
inside_narrow [] [] narrow inside = tt
inside_narrow [] (i ∷ index) narrow inside = absurd inside
inside_narrow (extent ∷ extents) [] narrow inside = absurd inside
inside_narrow (extent ∷ extents) (i ∷ index) narrow inside =
    (let first : extent < 2 ^ 32 = narrow 0 0 (omega arith) in
    (omega (arith, inside.0, first), inside_narrow extents index (λ k d low. narrow (suc k) d (omega (arith, low))) inside.1))

pub inside_length : (extents index : List ℕ) → IsInside extents index → length index ≡ length extents
inside_length [] [] inside = refl
inside_length [] (i ∷ index) inside = absurd inside
inside_length (extent ∷ extents) [] inside = absurd inside
inside_length (extent ∷ extents) (i ∷ index) inside = ap suc (inside_length extents index inside.1)

-- what was pushed is shorter than the whole where something is left
pub push_room : (done : List ℕ) (spans spans' : List Span) (index index' : List ℕ) (span : Span) (i : ℕ) (whole : List ℕ) → spans ≡ span ∷ spans' → index ≡ i ∷ index'
    → whole ≡ done ++ moved spans index → length done < length whole
push_room done spans spans' index index' span i whole one two so = grind (arith, length-append)

pub fixed_extents : (spans : List Span) (size : ℕ) → map (extent_of size) (map fixed_size spans) ≡ sizes spans
fixed_extents [] size = refl
fixed_extents (span ∷ spans) size = ap (λ (xs : List ℕ). (span.end - span.from) ∷ xs) (fixed_extents spans size)

-- a span of a window does not end before it begins
pub span_ordered : (extents : List ℕ) (spans : List Span) (k : ℕ) (other : Span) → IsWindow extents spans → k < length spans → (get_or spans k other).from ≤ (get_or spans k other).end
span_ordered [] [] k other is low = absurd (omega (arith, low))
span_ordered [] (span ∷ spans) k other is low = absurd is
span_ordered (extent ∷ extents) [] k other is low = absurd is
span_ordered (extent ∷ extents) (span ∷ spans) zero other is low = is.0.0
span_ordered (extent ∷ extents) (span ∷ spans) (suc k) other is low = span_ordered extents spans k other is.1 (omega (arith, low))

pub moved_whole : (done : List ℕ) (whole spans : List Span) (all index : List ℕ) → moved whole all ≡ done ++ moved spans index → (length index ≡ 0) ⊎ (length spans ≡ 0) → done ≡ moved whole all
moved_whole done whole spans all index so none = sym (so ∙ ap (λ (xs : List ℕ). done ++ xs) (moved_end spans index none) ∙ append-nil done)
