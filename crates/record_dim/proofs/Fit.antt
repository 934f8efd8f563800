-- A record that is fit has a leaf, and not too many.
use Rattle.record_dim.proofs.Imports.{◌≡◌, ℕ, ◌*◌, ◌≤◌, Bool, false, cond, nat_eq, nat_lt, Option, Some, None, List, ◌++◌, length, sym, ◌∙◌, arith, list_any, nat_tests, list_any-append, Tree, Single, Record, Array, Fields, End, Field, leaves_of, leaves, records_of, records_below, lengths_of, lengths_below, is_empty_record, shares_name, record_fault, or_parts}
use Rattle.record_dim.proofs.Walks.{length-leaves, length-leaves_of_array}

-- none in the whole: none in either part
pub none_of_both : {X : Type 0} (p : X → Bool) (xs ys : List X) → list_any p (xs ++ ys) ≡ false → (list_any p xs ≡ false) × (list_any p ys ≡ false)
none_of_both p xs ys h = or_parts (list_any p xs) (list_any p ys) (sym (list_any-append p xs ys) ∙ h)

some_times : (n m : ℕ) → 1 ≤ n → 1 ≤ m → 1 ≤ n * m
some_times n m hn hm = grind arith

-- a tree with no empty record and no array without elements has a leaf
some_leaf : (tree : Tree) → list_any is_empty_record (records_of tree) ≡ false → list_any (nat_eq 0) (lengths_of tree) ≡ false → 1 ≤ length (leaves_of tree)
some_leaf (Single kind) full filled = omega arith
some_leaf (Record End) full filled = cc
some_leaf (Record (Field name held rest)) full filled =
    let below = none_of_both is_empty_record (records_of held) (records_below rest) full in
    let lengths = none_of_both (nat_eq 0) (lengths_of held) (lengths_below rest) filled in
    let h : 1 ≤ length (leaves_of held) = some_leaf held below.0 lengths.0 in
    let l = length-leaves name held rest in
    omega arith
some_leaf (Array len element) full filled =
    let both = or_parts (nat_eq 0 len) (list_any (nat_eq 0) (lengths_of element)) filled in
    let h : 1 ≤ length (leaves_of element) = some_leaf element full both.1 in
    let l : 1 ≤ len = grind (arith, nat_tests) in
    let e = length-leaves_of_array len element in
    let p = some_times len (length (leaves_of element)) l h in
    omega arith

-- what a chain of tests that ends in None says
passed : {A : Type 0} (b : Bool) (x : A) (o : Option A) → cond b (Some x) o ≡ None → (b ≡ false) × (o ≡ None)
passed b x o e = grind arith

pub record IsFit (tree : Tree) : Type 0 where
  pub full : list_any is_empty_record (records_of tree) ≡ false
  pub apart : list_any shares_name (records_of tree) ≡ false
  pub filled : list_any (nat_eq 0) (lengths_of tree) ≡ false
  pub few : nat_lt 64 (length (leaves_of tree)) ≡ false

pub fit_from : (tree : Tree) → record_fault tree ≡ None → IsFit tree
fit_from tree e = grind (arith, passed, nat_lt, list_any, records_of, nat_eq, lengths_of)

pub fit_some : (fields : Fields) → record_fault (Record fields) ≡ None → 1 ≤ length (leaves fields)
fit_some fields e = let f = fit_from (Record fields) e in some_leaf (Record fields) f.full f.filled

pub fit_few : (fields : Fields) → record_fault (Record fields) ≡ None → length (leaves fields) ≤ 64
fit_few fields e = let f : IsFit (Record fields) = fit_from (Record fields) e in grind (arith, nat_tests)
