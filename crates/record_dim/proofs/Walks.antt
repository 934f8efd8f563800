-- Steps of the walks over trees: one more field, one more level.
use Rattle.record_dim.proofs.Imports.{◌≡◌, ℕ, ◌+◌, ◌*◌, ◌-◌, ◌≤◌, ◌<◌, min, max, Bool, true, false, nat_le, List, [], ◌∷◌, ◌++◌, length, map, refl, ap, ◌∙◌, arith, mul_comm, zero-mul, cases_lt, length-range_with_len, nat_tests, length-append, length-map, list_any-append, flat_map-cons, list_any, flat_map, range_with_len, At, Tree, Array, Fields, Field, leaves, leaves_of, under}

-- where the front has none, the whole has what the rest has
pub any_rest : {X : Type 0} (p : X → Bool) (xs ys : List X) → list_any p xs ≡ false → list_any p (xs ++ ys) ≡ list_any p ys
any_rest p xs ys none = rw (list_any-append, none) refl

pub any_front : {X : Type 0} (p : X → Bool) (xs ys : List X) → list_any p xs ≡ true → list_any p (xs ++ ys) ≡ true
any_front p xs ys some = rw (list_any-append, some) refl

pub within_rest : (a b most : ℕ) → nat_le a most ≡ true → nat_le (max a b) most ≡ nat_le b most
within_rest a b most h = grind (arith, nat_tests)

pub within_front : (a b most : ℕ) → nat_le a most ≡ false → nat_le (max a b) most ≡ false
within_front a b most h = grind (arith, nat_tests)

pub within_one : (a most : ℕ) → 0 < most → nat_le (a + 1) most ≡ nat_le a (most - 1)
within_one a most h = grind (arith, nat_tests)

pub within_none : (a most : ℕ) → most ≤ 0 → nat_le (a + 1) most ≡ false
within_none a most h = grind (arith, nat_tests)

pub length-leaves : (name : List ℕ) (held : Tree) (rest : Fields) → length (leaves (Field name held rest)) ≡ length (leaves_of held) + length (leaves rest)
length-leaves name held rest = rw (length-append, length-map) refl

-- a list of pieces of one length
length-pieces : {X Y : Type 0} (f : X → List Y) (n : ℕ) → ((x : X) → length (f x) ≡ n) → (xs : List X) → length (flat_map f xs) ≡ length xs * n
length-pieces f n same [] = grind arith
length-pieces f n same (x ∷ xs) = grind (arith, flat_map-cons, length-append, (length-pieces f n same xs))

pub length-leaves_of_array : (len : ℕ) (element : Tree) → length (leaves_of (Array len element)) ≡ len * length (leaves_of element)
length-leaves_of_array len element =
    length-pieces (λ number. map (under (At number)) (leaves_of element)) (length (leaves_of element)) (λ number. length-map (leaves_of element) _) (range_with_len 0 len)
    ∙ ap (λ n. n * length (leaves_of element)) (length-range_with_len 0 len)

small_product : (n c : ℕ) → n ≤ 65 → c ≤ 65 → min (min n 65 * min 65 c) 65 ≡ min 65 (n * c)
small_product n c hn hc = grind arith

big_product : (n c : ℕ) → 65 ≤ n → 1 ≤ c → min (min n 65 * min 65 c) 65 ≡ min 65 (n * c)
big_product n c hn hc = grind arith

wide_product : (n c : ℕ) → 65 ≤ c → min (min n 65 * min 65 c) 65 ≡ min 65 (n * c)
wide_product n c h = grind (arith, zero-mul, mul_comm)

pub capped_product : (n c : ℕ) → min (min n 65 * min 65 c) 65 ≡ min 65 (n * c)
capped_product n c = grind (arith, small_product, wide_product, cases_lt, big_product)

-- the number of leaves of an array, with a cap
pub capped_leaves : (len : ℕ) (element : Tree) → min (min len 65 * min 65 (length (leaves_of element))) 65 ≡ min 65 (length (leaves_of (Array len element)))
capped_leaves len element = rw length-leaves_of_array (capped_product len (length (leaves_of element)))

pub ruleset any = (any_rest, any_front)

pub ruleset within = (within_rest, within_front, within_one, within_none)

pub ruleset count = (length-leaves, capped_leaves)
