-- The leaves that are set, one after another.
use Rattle.view_commands.proofs.Imports.{◌≡◌, ℕ, suc, ◌+◌, ◌<◌, ◌≤◌, Bool, true, false, nat_eq, List, [], ◌∷◌, ◌++◌, length, get_or, take, drop, map, refl, sym, ap, ◌∙◌, arith, add-one, ⊎_elim, ◌||◌, option_copied, Bor, Bound, bound_term, All-get_or, Table, leaf_count_of, list_any, IsDistinct, cases_Bool, false≢true, nat_tests, nat_eq_equiv, take-append-drop, map-append, length-map, take_more, take_all, take-map, IsDistinct-push, length-le_from_distinct_below, drop_of_length-le, drop-cons, Fields, Assignment, Setting, setting_of, filter_term, IsSetOf, Assign, ◌>>=◌, bound_set, bound_sets, each_once, leaves_of, text_of_leaf, Twice, GivesUp, GivesUp-then, StepFault, Ok, Err, Tested, Done, CommandFault, Changed, ChangeFault, Ends, All, Option, option_map, ℤ, Result, get_or-map}
use Rattle.view_commands.proofs.Changing.{refused_with, stopped as test_stopped}

-- a list at one of its places
pub map_at : {X Y : Type 0} (f : X → Y) (xs : List X) (i : ℕ) (d : X) → i < length xs → map f (take i xs) ++ f (get_or xs i d) ∷ map f (drop (suc i) xs) ≡ map f xs
map_at f xs i d small =
    ap (λ rest. map f (take i xs) ++ map f rest) (sym (drop-cons xs i d small)) ∙ sym (map-append f (take i xs) (drop i xs)) ∙ ap (map f) (take-append-drop i xs)

pub map_more : {X Y : Type 0} (f : X → Y) (xs : List X) (i : ℕ) (d : X) → i < length xs → map f (take (i + 1) xs) ≡ map f (take i xs) ++ f (get_or xs i d) ∷ []
map_more f xs i d small = ap (map f) (take_more xs i d small) ∙ map-append f (take i xs) (get_or xs i d ∷ [])

-- settings that were made
record IsMade (first : Tested Setting) (rest : Tested (List Setting)) (settings : List Setting) : Type 0 where
  made : Setting
  others : List Setting
  first_is : first ≡ Ok made
  rest_is : rest ≡ Ok others
  settings_are : settings ≡ made ∷ others

is_made : (first : Tested Setting) (rest : Tested (List Setting)) (settings : List Setting) → (first >>= (λ y. rest >>= (λ ys. Ok (y ∷ ys)))) ≡ Ok settings → IsMade first rest settings
is_made first rest settings e = grind arith

pushed : (first : Tested Setting) (rest : Tested (List Setting)) (made : Setting) (others : List Setting) (setting : Setting) (settings : List Setting) →
    first ≡ Ok made → rest ≡ Ok (others ++ setting ∷ []) → settings ≡ made ∷ others → (first >>= (λ y. rest >>= (λ ys. Ok (y ∷ ys)))) ≡ Ok (settings ++ setting ∷ [])
pushed first rest made others setting settings a b c = rw (a, b, c) refl

stopped : (first : Tested Setting) (rest : Tested (List Setting)) (made : Setting) (fault : StepFault) → first ≡ Ok made → GivesUp rest fault → GivesUp (first >>= (λ y. rest >>= (λ ys. Ok (y ∷ ys)))) fault
stopped first rest made fault a gives = rw a (GivesUp-then rest _ fault gives)

-- one setting more
pub sets_push : (fields : Fields) (rank : ℕ) (before : List Assignment) (settings : List Setting) (set : Assignment) (setting : Setting) →
    bound_sets fields rank before ≡ Ok settings → bound_set fields rank set ≡ Ok setting → bound_sets fields rank (before ++ set ∷ []) ≡ Ok (settings ++ setting ∷ [])
sets_push fields rank [] settings set setting so_far is = let none : settings ≡ [] = cc in rw (is, none) refl
sets_push fields rank (first ∷ before) settings set setting so_far is =
    let made = is_made (bound_set fields rank first) (bound_sets fields rank before) settings so_far in
    grind (arith, pushed, (sets_push fields rank before made.others set setting made.rest_is is))

-- a setting that is refused
pub sets_stop : (fields : Fields) (rank : ℕ) (before : List Assignment) (settings : List Setting) (set : Assignment) (behind : List Assignment) (fault : StepFault) →
    bound_sets fields rank before ≡ Ok settings → GivesUp (bound_set fields rank set) fault → GivesUp (bound_sets fields rank (before ++ set ∷ behind)) fault
sets_stop fields rank [] settings set behind fault so_far gives = GivesUp-then (bound_set fields rank set) _ fault gives
sets_stop fields rank (first ∷ before) settings set behind fault so_far gives =
    let made = is_made (bound_set fields rank first) (bound_sets fields rank before) settings so_far in
    stopped (bound_set fields rank first) (bound_sets fields rank (before ++ set ∷ behind)) made.made fault made.first_is (sets_stop fields rank before made.others set behind fault made.rest_is gives)

-- the leaves of settings, place by place
pub leaves_are : (sets : List Assign) → leaves_of (map setting_of sets) ≡ map (λ (set : Assign). set.leaf) sets
leaves_are [] = refl
leaves_are (set ∷ sets) = ap (λ leaves. set.leaf ∷ leaves) (leaves_are sets)

-- whether a leaf is set
pub is_set_is : (leaf : ℕ) (sets : List Assign) → list_any (λ (set : Assign). nat_eq leaf set.leaf) sets ≡ list_any (nat_eq leaf) (leaves_of (map setting_of sets))
is_set_is leaf [] = refl
is_set_is leaf (set ∷ sets) = ap (λ rest. nat_eq leaf set.leaf || rest) (is_set_is leaf sets)

-- the leaves so far, and those that are left
pub record IsOnce (fields : Fields) (leaves : List ℕ) (place : ℕ) : Type 0 where
  pub once : each_once fields [] leaves ≡ each_once fields (take place leaves) (drop place leaves)
  pub distinct : IsDistinct nat_eq (take place leaves)

pub once_none : (fields : Fields) (leaves : List ℕ) → IsOnce fields leaves 0
unfolding IsDistinct
once_none fields leaves = record { once = refl; distinct = tt }

pub once_more : (fields : Fields) (leaves : List ℕ) (place : ℕ) → place < length leaves → list_any (nat_eq (get_or leaves place 0)) (take place leaves) ≡ false → IsOnce fields leaves place → IsOnce fields leaves (place + 1)
once_more fields leaves place small fresh so_far = record {
  once = so_far.once ∙ rw (drop-cons leaves place 0 small, fresh, take_more leaves place 0 small, add-one) refl;
  distinct = rw (take_more leaves place 0 small) (IsDistinct-push nat_eq_equiv (take place leaves) (get_or leaves place 0) so_far.distinct fresh);
}

pub once_stop : (fields : Fields) (leaves : List ℕ) (place : ℕ) → place < length leaves → list_any (nat_eq (get_or leaves place 0)) (take place leaves) ≡ true → IsOnce fields leaves place → each_once fields [] leaves ≡ Err (Twice (text_of_leaf fields (get_or leaves place 0)))
once_stop fields leaves place small again so_far = so_far.once ∙ rw (drop-cons leaves place 0 small, again) refl

pub once_all : (fields : Fields) (leaves : List ℕ) (place : ℕ) → length leaves ≤ place → IsOnce fields leaves place → each_once fields [] leaves ≡ Ok tt
once_all fields leaves place over so_far = so_far.once ∙ ap (each_once fields (take place leaves)) (drop_of_length-le leaves over)

-- the leaf that is set at a place
pub leaf_at : (sets : List Assign) (place : ℕ) (one : Assign) → place < length sets → one ≡ get_or sets place one → get_or (leaves_of (map setting_of sets)) place 0 ≡ one.leaf
leaf_at sets place one small is = grind (arith, leaves_are, get_or-map)

pub leaves_long : (sets : List Assign) → length (leaves_of (map setting_of sets)) ≡ length sets
leaves_long sets = ap length (leaves_are sets) ∙ simp length-map

-- the test whether a leaf is set further up
pub test_at : (sets front : List Assign) (place : ℕ) (one : Assign) (test : Bool) → place < length sets → one ≡ get_or sets place one → front ≡ take place sets →
    test ≡ list_any (λ (set : Assign). nat_eq one.leaf set.leaf) front → list_any (nat_eq (get_or (leaves_of (map setting_of sets)) place 0)) (take place (leaves_of (map setting_of sets))) ≡ test
test_at sets front place one test small is front_is test_is =
    ap (λ leaf. list_any (nat_eq leaf) (take place (leaves_of (map setting_of sets)))) (leaf_at sets place one small is)
    ∙ ap (list_any (nat_eq one.leaf)) (take-map (λ (s : Setting). s.leaf) place (map setting_of sets) ∙ ap leaves_of (take-map setting_of place sets ∙ ap (map setting_of) (sym front_is)))
    ∙ sym (test_is ∙ is_set_is one.leaf front)

found_at : (q : ℕ) (xs : List ℕ) → list_any (nat_eq q) xs ≡ true → (k : ℕ) × (k < length xs) × (get_or xs k 0 ≡ q)
found_at q [] e = absurd (false≢true e)
found_at q (x ∷ xs) e = ⊎_elim
    (λ (same : nat_eq q x ≡ true). let is : x ≡ q = grind (arith, nat_tests) in (0, omega arith, is))
    (λ (other : nat_eq q x ≡ false). let later = found_at q xs (rw other at e) in (suc later.0, omega (arith, later.1), later.2))
    (cases_Bool (nat_eq q x))

-- no more leaves are set than there are
pub once_few : (fields : Fields) (leaves : List ℕ) (place most : ℕ) → length leaves ≤ place → IsOnce fields leaves place → ((k : ℕ) → k < length leaves → get_or leaves k 0 < most) → length leaves ≤ most
once_few fields leaves place most over so_far inside = grind (arith, nat_eq, take_all, length-le_from_distinct_below, found_at)

-- the leaves that are set are leaves
pub leaves_below : (seen : Table) (sets : List Assign) → All (IsSetOf seen) sets → (k : ℕ) → k < length (leaves_of (map setting_of sets)) → get_or (leaves_of (map setting_of sets)) k 0 < leaf_count_of seen
leaves_below seen [] all k small = absurd (omega (arith, small))
leaves_below seen (set ∷ sets) all k small =
    let within : k < length (set ∷ sets) = rw (← leaves_long (set ∷ sets)) small in
    let is = (All-get_or (IsSetOf seen) (set ∷ sets) k set within all).inside in
    rw (ap (λ leaves. get_or leaves k 0) (leaves_are (set ∷ sets)) ∙ get_or-map (λ (s : Assign). s.leaf) (set ∷ sets) k set 0 within) is

-- the filter of an update, as it is lent
pub filter_is : (filter : Option (Bor Bound)) (bound : Option Bound) → option_copied filter ≡ bound → filter_term filter ≡ option_map bound_term bound
filter_is filter bound is = grind (arith, option_map)

-- where a leaf is set twice, or memory is wanting, all rows stay
pub once_left : {A : Type 0} (outcome : Tested Done) (left : ℕ → List (List ℤ)) (table : Table) (first : Tested A) (fault : ChangeFault) (result : Result (Option ℤ) ChangeFault) →
    result ≡ Err fault → Ends table.fields first fault → ((f : CommandFault) → first ≡ Err f → outcome ≡ Err f) → ((f : CommandFault) (row : ℕ) → first ≡ Err f → left row ≡ table.rows) →
    Changed outcome left table result table
once_left outcome left table first fault result is ends onto stays = grind (arith, refused_with, test_stopped)
