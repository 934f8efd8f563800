-- The bytes of a leaf in a row from a place on: the first of them, and those behind it.
use Rattle.std.proofs.Common.{◌≡◌, ℕ, zero, suc, ◌+◌, ◌/◌, ◌<◌, Bool, true, false, List, [], ◌∷◌, length, map, get_or, All, ap, ◌∙◌, subst, ⊎_elim, arith}
use Rattle.std.specs.Prelude.{◌≤◌, ◌⊎◌, ◌&&◌, not}
use Rattle.actor_tasks.specs.Imports.{flat_map, range_with_len, Owner, Place, IsByte, bytes_in, all_bytes, places_of, cases_lt, and_from, nat_tests, All-nil, All-append, All-map, Contains-append_left, Contains-append_right, get_or-range_with_len, length-range_with_len, length-map-range_with_len, get_or-map-range_with_len, Contains}
use Rattle.actor_tasks.specs.Places.{is_before, origin, byte_behind, byte_holds_bit, places_from}
use Rattle.actor_tasks.specs.OrderedLaws.{same_filter, IsOrdered, ordered-append, split_first}

-- bytes stand in one order
irreflexive : (a : Place) → is_before a a ≡ true → ⊥
irreflexive a e = grind (arith, nat_tests)

asymmetric : (a b : Place) → is_before a b ≡ true → is_before b a ≡ true → ⊥
asymmetric a b e f = grind (arith, nat_tests)

-- the bytes of a blob are ordered
bytes-above : (blob a n least : ℕ) → least < a → All (λ y. is_before (record { blob = blob; byte = least }) y ≡ true) (map (λ byte. record { blob = blob; byte = byte }) (range_with_len a n))
bytes-above blob a n least low = All-map (λ y. is_before (record { blob = blob; byte = least }) y ≡ true) (λ byte. record { blob = blob; byte = byte }) (range_with_len a n)
    (λ k d inside. here blob least (get_or (range_with_len a n) k d) (omega (arith, low, get_or-range_with_len a n k d (omega (arith, inside, length-range_with_len a n))))) where
      here : (blob least a : ℕ) → least < a → is_before (record { blob = blob; byte = least }) (record { blob = blob; byte = a }) ≡ true
      here blob least a low = grind (arith, nat_tests)

bytes-ordered : (blob a n : ℕ) → IsOrdered is_before (map (λ byte. record { blob = blob; byte = byte }) (range_with_len a n))
bytes-ordered blob a zero = tt
bytes-ordered blob a (suc n) = (bytes-above blob (a + 1) n a (omega arith), bytes-ordered blob (a + 1) n)

-- and those of later blobs stand behind them
blob-above : (layout : List (List Owner)) (b blob byte : ℕ) → blob < b → All (λ y. is_before (record { blob = blob; byte = byte }) y ≡ true) (bytes_in layout b)
blob-above layout b blob byte low = All-map (λ y. is_before (record { blob = blob; byte = byte }) y ≡ true) (λ i. record { blob = b; byte = i }) (range_with_len 0 (length (get_or layout b []) / 8))
    (λ k d inside. here blob byte b (get_or (range_with_len 0 (length (get_or layout b []) / 8)) k d) low) where
      here : (blob byte b i : ℕ) → blob < b → is_before (record { blob = blob; byte = byte }) (record { blob = b; byte = i }) ≡ true
      here blob byte b i low = grind (arith, nat_tests)

blobs-above : (layout : List (List Owner)) (a n blob byte : ℕ) → blob < a → All (λ y. is_before (record { blob = blob; byte = byte }) y ≡ true) (flat_map (bytes_in layout) (range_with_len a n))
blobs-above layout a zero blob byte low = All-nil (λ y. is_before (record { blob = blob; byte = byte }) y ≡ true)
blobs-above layout a (suc n) blob byte low =
    All-append (λ y. is_before (record { blob = blob; byte = byte }) y ≡ true) (bytes_in layout a) (flat_map (bytes_in layout) (range_with_len (a + 1) n))
    (blob-above layout a blob byte low) (blobs-above layout (a + 1) n blob byte (omega arith))

blobs-ordered : (layout : List (List Owner)) (a n : ℕ) → IsOrdered is_before (flat_map (bytes_in layout) (range_with_len a n))
blobs-ordered layout a zero = tt
blobs-ordered layout a (suc n) =
    ordered-append is_before (bytes_in layout a) (flat_map (bytes_in layout) (range_with_len (a + 1) n)) (bytes-ordered a 0 (length (get_or layout a []) / 8)) (blobs-ordered layout (a + 1) n)
    (All-map (λ x. All (λ y. is_before x y ≡ true) (flat_map (bytes_in layout) (range_with_len (a + 1) n))) (λ i. record { blob = a; byte = i }) (range_with_len 0 (length (get_or layout a []) / 8))
    (λ k d inside. blobs-above layout (a + 1) n a (get_or (range_with_len 0 (length (get_or layout a []) / 8)) k d) (omega arith)))

-- all bytes stand in their order
all-ordered : (layout : List (List Owner)) → IsOrdered is_before (all_bytes layout)
all-ordered layout = blobs-ordered layout 0 (length layout)

-- a byte within its blob is one of them
occurs-byte : (layout : List (List Owner)) (place : Place) → place.byte < length (get_or layout place.blob []) / 8 → Contains (bytes_in layout place.blob) place
occurs-byte layout place low =
    let here : ℕ → Place = λ byte. record { blob = place.blob; byte = byte } in
    let n = length (get_or layout place.blob []) / 8 in
    (place.byte, omega (arith, low, length-map-range_with_len here 0 n), get_or-map-range_with_len here 0 n place.byte place.byte place low (omega arith))

occurs-blob : (layout : List (List Owner)) (a n : ℕ) (place : Place) → a ≤ place.blob → place.blob < a + n → place.byte < length (get_or layout place.blob []) / 8
    → Contains (flat_map (bytes_in layout) (range_with_len a n)) place
occurs-blob layout a zero place low high inside = absurd (omega arith)
occurs-blob layout a (suc n) place low high inside =
    ⊎_elim (λ (l : a < place.blob).
    Contains-append_right (bytes_in layout a) (flat_map (bytes_in layout) (range_with_len (a + 1) n)) place (occurs-blob layout (a + 1) n place (omega arith) (omega arith) inside))
    (λ (l : place.blob ≤ a).
    let same : place.blob ≡ a = omega arith in
    Contains-append_left (bytes_in layout a) (flat_map (bytes_in layout) (range_with_len (a + 1) n)) place
    (subst (λ (b : ℕ). Contains (bytes_in layout b) place) same (occurs-byte layout place inside)))
    (cases_lt a place.blob)

pub occurs-all : (layout : List (List Owner)) (place : Place) → IsByte layout place → Contains (all_bytes layout) place
occurs-all layout place byte = occurs-blob layout 0 (length layout) place (omega arith) (omega (arith, byte.blob_in)) (omega (arith, byte.byte_in))

-- the tests of a byte behind one that is found, and from the next byte on
rest_test : (holds : Bool) (first from y : Place) → is_before first from ≡ false → ((holds && not (is_before y from)) && is_before first y) ≡ (holds && not (is_before y (byte_behind first)))
rest_test holds first from y low = grind (arith, nat_tests)

-- a byte of the leaf that no other such byte from a place on stands before is the first of them, and the others are those behind it
pub places_from-first : (layout : List (List Owner)) (row leaf : ℕ) (from first : Place) → Contains (all_bytes layout) first → byte_holds_bit layout row leaf first ≡ true
    → is_before first from ≡ false
    → ((y : Place) → (byte_holds_bit layout row leaf y && not (is_before y from)) ≡ true → (y ≡ first) ⊎ (is_before first y ≡ true))
    → places_from layout row leaf from ≡ first ∷ places_from layout row leaf (byte_behind first)
places_from-first layout row leaf from first there holds low least =
    split_first is_before irreflexive asymmetric (λ place. byte_holds_bit layout row leaf place && not (is_before place from)) (all_bytes layout) first (all-ordered layout) there
    (and_from (byte_holds_bit layout row leaf first) (not (is_before first from)) holds (ap not low)) least
    ∙ ap (λ rest. first ∷ rest)
    (grind (arith, same_filter, rest_test, get_or))

-- from the first byte on these are all
pub places_from-origin : (layout : List (List Owner)) (row leaf : ℕ) → places_from layout row leaf origin ≡ places_of layout row leaf
places_from-origin layout row leaf =
    same_filter (λ place. byte_holds_bit layout row leaf place && not (is_before place origin)) (byte_holds_bit layout row leaf) (all_bytes layout)
    (λ k d inside. first_is (byte_holds_bit layout row leaf (get_or (all_bytes layout) k d)) (get_or (all_bytes layout) k d)) where
      first_is : (holds : Bool) (place : Place) → (holds && not (is_before place origin)) ≡ holds
      first_is holds place = grind (arith, nat_tests)
