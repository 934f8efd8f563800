-- Which bytes hold a bit of a leaf in a row.
use Rattle.std.specs.Prelude.{◌≡◌, ℕ, zero, suc, ◌+◌, ◌-◌, ◌*◌, ◌/◌, ◌%◌, ◌<◌, ◌≤◌, Bool, true, false, List, [], ◌∷◌, ◌++◌, length, map, filter, get_or, All, refl, ◌==◌, ◌||◌}
use Rattle.actor_steps.specs.Imports.{cond_both, get_or-map-range_with_len, get_or-range_with_len, length-map-range_with_len, length-range_with_len, sym, ap, ◌∙◌, ⊎_elim, arith, flat_map, list_any, range_with_len, cases_eq, cases_lt, cases_Bool, and_from, and_parts, or_left, or_right, eq-eqb, eqb-true, cond-true, cond-false, length-take, length-drop, get_or-take, get_or-drop, get_or_past, list_any-append, list_any_at, Owner, Pad, Bit, owner_at}
use Rattle.actor_steps.specs.Micro.{Place, bytes_in, all_bytes, is_bit_of, owners_of_byte, places_of}
use Rattle.actor_steps.specs.Bytes.{IsByte}
use Rattle.actor_steps.specs.SweepLaws.{is_place, is_among, AreBytesOf}
use Rattle.actor_steps.specs.ConfluenceLaws.{Each}

pub true_or_false : {A : Type 0} (test : Bool) → test ≡ true → test ≡ false → A
true_or_false test holds fails = absurd (let bad : true ≡ false = sym holds ∙ fails in let none : ⊥ = cc in none)

-- lists of places, one behind another
among-append : (places more : List Place) (b i : ℕ) → is_among (places ++ more) b i ≡ (is_among places b i || is_among more b i)
among-append places more b i = list_any-append (is_place b i) places more

pub among-left : (places more : List Place) (b i : ℕ) → is_among places b i ≡ true → is_among (places ++ more) b i ≡ true
among-left places more b i e = among-append places more b i ∙ or_left (is_among places b i) (is_among more b i) e

pub among-right : (places more : List Place) (b i : ℕ) → is_among more b i ≡ true → is_among (places ++ more) b i ≡ true
among-right places more b i e = among-append places more b i ∙ or_right (is_among places b i) (is_among more b i) e

-- a place that one of the lists has
pub among-lists : (f : ℕ → List Place) (xs : List ℕ) (x : ℕ) (b i : ℕ) → list_any (λ other. other == x) xs ≡ true → is_among (f x) b i ≡ true → is_among (flat_map f xs) b i ≡ true
among-lists f [] x b i has e = true_or_false false has refl
among-lists f (y ∷ ys) x b i has e =
    ⊎_elim (λ (same : y ≡ x). among-left (f y) (flat_map f ys) b i (ap (λ (z : ℕ). is_among (f z) b i) same ∙ e))
    (λ (other : y ≡ x → ⊥). among-right (f y) (flat_map f ys) b i (among-lists f ys x b i (grind (arith, eqb-true, list_any, cases_Bool)) e))
    (cases_eq y x)

pub in_range : (a n x : ℕ) → a ≤ x → x < a + n → list_any (λ other. other == x) (range_with_len a n) ≡ true
in_range a n x low high =
    list_any_at (λ other. other == x) (range_with_len a n) (x - a) 0 (omega (arith, length-range_with_len a n, low, high))
    (eq-eqb (get_or (range_with_len a n) (x - a) 0) x (get_or-range_with_len a n (x - a) 0 (omega (arith, low, high)) ∙ (let back : a + (x - a) ≡ x = omega (arith, low) in back)))

-- the bytes of a blob, and of all
among-range : (blob n i : ℕ) → i < n → is_among (map (λ byte. record { blob = blob; byte = byte }) (range_with_len 0 n)) blob i ≡ true
among-range blob n i low =
    let here : Place = record { blob = blob; byte = i } in
    let place : ℕ → Place = λ byte. record { blob = blob; byte = byte } in
    list_any_at (is_place blob i) (map place (range_with_len 0 n)) i here (omega (arith, length-map-range_with_len place 0 n, low))
    (ap (is_place blob i) (get_or-map-range_with_len place 0 n i i here low (omega arith)) ∙ and_from (blob == blob) (i == i) (eq-eqb blob blob refl) (eq-eqb i i refl))

pub among-all : (layout : List (List Owner)) (b i : ℕ) → b < length layout → 8 * i + 8 ≤ length (get_or layout b []) → is_among (all_bytes layout) b i ≡ true
among-all layout b i blob_in byte_in =
    among-lists (bytes_in layout) (range_with_len 0 (length layout)) b b i (in_range 0 (length layout) b (omega arith) (omega (arith, blob_in)))
    (among-range b (length (get_or layout b []) / 8) i (omega (arith, byte_in)))

-- a test that a place meets
pub among-filter : (test : Place → Bool) (places : List Place) (b i : ℕ) → is_among places b i ≡ true → test (record { blob = b; byte = i }) ≡ true
    → is_among (filter test places) b i ≡ true
among-filter test [] b i has e = has
among-filter test (place ∷ places) b i has e =
    ⊎_elim (λ (here : is_place b i place ≡ true). grind (arith, and_parts, eqb-true, cond-true, or_left))
    (λ (other : is_place b i place ≡ false).
    let rest : is_among (filter test places) b i ≡ true = among-filter test places b i (ap (λ (t : Bool). t || is_among places b i) (sym other) ∙ has) e in
    grind (arith, cond-true, or_right, cond-false, cases_Bool))
    (cases_Bool (is_place b i place))

-- an owner is one of the owners of its byte
pub byte_owner : (layout : List (List Owner)) (b p : ℕ) (d : Owner) → get_or (owners_of_byte layout (record { blob = b; byte = p / 8 })) (p % 8) Pad ≡ owner_at layout b p
byte_owner layout b p d = grind (arith, get_or-take, get_or-drop)

is_bit : (row leaf k : ℕ) → is_bit_of row leaf (Bit row leaf k) ≡ true
is_bit row leaf k = and_from (row == row) (leaf == leaf) (eq-eqb row row refl) (eq-eqb leaf leaf refl)

-- where a bit of a leaf in a row stands, there is a byte
pub record HasByte (layout : List (List Owner)) (b p : ℕ) : Type 0 where
  pub blob_in : b < length layout
  pub byte_in : 8 * (p / 8) + 8 ≤ length (get_or layout b [])
  pub low : p % 8 < length (owners_of_byte layout (record { blob = b; byte = p / 8 }))

pub has_byte : (layout : List (List Owner)) (b p row leaf k : ℕ) → All (λ blob. length blob % 8 ≡ 0) layout → owner_at layout b p ≡ Bit row leaf k → HasByte layout b p
has_byte layout b p row leaf k whole e = grind (arith, get_or_past, cases_lt, length-take, length-drop)

-- that byte is one of those that hold a bit of it
pub among-places : (layout : List (List Owner)) (b p row leaf k : ℕ) → All (λ blob. length blob % 8 ≡ 0) layout → owner_at layout b p ≡ Bit row leaf k
    → is_among (places_of layout row leaf) b (p / 8) ≡ true
among-places layout b p row leaf k whole e =
    let has = has_byte layout b p row leaf k whole e in
    let place : Place = record { blob = b; byte = p / 8 } in
    among-filter (λ place. list_any (is_bit_of row leaf) (owners_of_byte layout place)) (all_bytes layout) b (p / 8)
    (among-all layout b (p / 8) has.blob_in has.byte_in)
    (list_any_at (is_bit_of row leaf) (owners_of_byte layout place) (p % 8) Pad has.low (ap (is_bit_of row leaf) (byte_owner layout b p Pad ∙ e) ∙ is_bit row leaf k))

-- facts of the items of lists
pub each-append : {X : Type 0} (P : X → Type 0) (xs ys : List X) → Each P xs → Each P ys → Each P (xs ++ ys)
each-append P [] ys first rest = rest
each-append P (x ∷ xs) ys first rest = (first.0, each-append P xs ys first.1 rest)

pub each-flat : {X Y : Type 0} (P : Y → Type 0) (f : X → List Y) (xs : List X) → Each (λ x. Each P (f x)) xs → Each P (flat_map f xs)
each-flat P f [] all = all
each-flat P f (x ∷ xs) all = each-append P (f x) (flat_map f xs) all.0 (each-flat P f xs all.1)

pub each-all : {X : Type 0} (P : X → Type 0) (xs : List X) → ((x : X) → P x) → Each P xs
each-all P [] each = tt
each-all P (x ∷ xs) each = (each x, each-all P xs each)

pub each-weaker : {X : Type 0} (P Q : X → Type 0) (xs : List X) → ((x : X) → P x → Q x) → Each P xs → Each Q xs
each-weaker P Q [] so all = all
each-weaker P Q (x ∷ xs) so all = (so x all.0, each-weaker P Q xs so all.1)

pub each-filter : {X : Type 0} (P : X → Type 0) (test : X → Bool) (xs : List X) → Each P xs → Each (λ x. P x × (test x ≡ true)) (filter test xs)
each-filter P test [] all = all
each-filter {X} P test (x ∷ xs) all =
    let rest = each-filter P test xs all.1 in
    cond_both (test x) (x ∷ filter test xs) (filter test xs) (Each (λ (x : X). P x × (test x ≡ true))) (λ e. ((all.0, e), rest)) (λ e. rest)

each-range : (P : ℕ → Type 0) (a n : ℕ) → ((x : ℕ) → a ≤ x → x < a + n → P x) → Each P (range_with_len a n)
each-range P a zero each = tt
each-range P a (suc n) each = (each a (omega arith) (omega arith), each-range P (a + 1) n (λ x low high. each x (omega (arith, low)) (omega (arith, high))))

pub each-map : {X Y : Type 0} (P : Y → Type 0) (f : X → Y) (xs : List X) → Each (λ x. P (f x)) xs → Each P (map f xs)
each-map P f [] all = all
each-map P f (x ∷ xs) all = (all.0, each-map P f xs all.1)

pub all_are_bytes : (layout : List (List Owner)) → AreBytesOf layout (all_bytes layout)
all_are_bytes layout =
    each-flat (IsByte layout) (bytes_in layout) (range_with_len 0 (length layout))
    (each-range (λ b. Each (IsByte layout) (bytes_in layout b)) 0 (length layout)
    (λ b low high. each-map (IsByte layout) (λ byte. record { blob = b; byte = byte }) (range_with_len 0 (length (get_or layout b []) / 8))
    (each-range (λ i. IsByte layout (record { blob = b; byte = i })) 0 (length (get_or layout b []) / 8)
    (λ i low' high'. record { blob_in = omega (arith, high); byte_in = omega (arith, high') }))))

-- the bytes of a leaf in a row, each with a test that holds
pub places-are : (layout : List (List Owner)) (row leaf : ℕ)
    → Each (λ place. IsByte layout place × (list_any (is_bit_of row leaf) (owners_of_byte layout place) ≡ true)) (places_of layout row leaf)
places-are layout row leaf = each-filter (IsByte layout) (λ place. list_any (is_bit_of row leaf) (owners_of_byte layout place)) (all_bytes layout) (all_are_bytes layout)

pub places-are_bytes : (layout : List (List Owner)) (row leaf : ℕ) → AreBytesOf layout (places_of layout row leaf)
places-are_bytes layout row leaf = grind (arith, each-weaker, list_any, places-are)
