-- In a record without a name twice the paths of the leaves differ, and each leads to its leaf.
use Rattle.record_dim.proofs.Imports.{◌≡◌, ℕ, suc, zero, ◌+◌, ◌<◌, true, false, ◌||◌, nat_eq, nat_lt, Some, None, List, [], ◌∷◌, ◌++◌, length, map, refl, sym, ap, subst, inl, inr, ◌⊎◌, arith, pointwise, list_any, slice_get, map-append, length-map, LeafType, PathStep, Name, At, Dim, Tree, Single, Record, Array, Fields, End, Field, tree_of, Leaf, under, leaves_of, leaves, paths_of, names_of, has_twice, shares_name, records_of, records_below, record_fault, node_at, node_in, LeadsTo, same_text, text_self, or_right, cases_Bool, or_parts, append-nil, rules}
use Rattle.record_dim.specs.declared.dim.Dim.TheVariants as dim
use Rattle.record_dim.proofs.Lookup.{leaves-suc}
use Rattle.record_dim.proofs.Fit.{none_of_both, fit_from}

-- the paths of the leaves of a tree
abbrev pub paths_at : Tree → List (List PathStep)
paths_at tree = map (λ (leaf : Leaf). leaf.path) (leaves_of tree)

-- no value stands at two places
abbrev pub IsApart : {X : Type 0} → List X → Type 0
IsApart {X} xs = (x : X) (i j : ℕ) → slice_get xs i ≡ Some x → slice_get xs j ≡ Some x → i ≡ j

-- a value of joined lists stands in the first, or so far into the second
pub data InEither {X : Type 0} (xs ys : List X) (i : ℕ) (x : X) : Type 0 where
  in_front : slice_get xs i ≡ Some x → InEither xs ys i x
  in_back : (k : ℕ) → i ≡ length xs + k → slice_get ys k ≡ Some x → InEither xs ys i x

one_on : {X : Type 0} (y : X) (xs ys : List X) (i : ℕ) (x : X) → InEither xs ys i x → InEither (y ∷ xs) ys (suc i) x
one_on y xs ys i x (in_front h) = in_front h
one_on y xs ys i x (in_back k e h) = in_back k (omega arith) h

pub in_either : {X : Type 0} (xs ys : List X) (i : ℕ) (x : X) → slice_get (xs ++ ys) i ≡ Some x → InEither xs ys i x
in_either [] ys i x h = in_back i (omega arith) h
in_either (y ∷ xs) ys zero x h = in_front h
in_either (y ∷ xs) ys (suc i) x h = one_on y xs ys i x (in_either xs ys i x h)

-- a value of a mapped list comes from one of the list
pub in_map : {X Y : Type 0} (f : X → Y) (xs : List X) (i : ℕ) (y : Y) → slice_get (map f xs) i ≡ Some y → (x : X) × (slice_get xs i ≡ Some x) × (f x ≡ y)
in_map f [] i y h = cc
in_map f (x ∷ xs) zero y h = let e : f x ≡ y = cc in (x, refl, e)
in_map f (x ∷ xs) (suc i) y h = in_map f xs i y h

apart_of_both : {X : Type 0} (xs ys : List X) → IsApart xs → IsApart ys → ((x : X) (i j : ℕ) → slice_get xs i ≡ Some x → slice_get ys j ≡ Some x → ⊥) →
    (x : X) (i j : ℕ) → InEither xs ys i x → InEither xs ys j x → i ≡ j
apart_of_both xs ys ax ay no_both x i j h h2 = grind arith

apart_append : {X : Type 0} (xs ys : List X) → IsApart xs → IsApart ys → ((x : X) (i j : ℕ) → slice_get xs i ≡ Some x → slice_get ys j ≡ Some x → ⊥) → IsApart (xs ++ ys)
apart_append xs ys ax ay no_both x i j hi hj = apart_of_both xs ys ax ay no_both x i j (in_either xs ys i x hi) (in_either xs ys j x hj)

-- the paths one step further up
abbrev up : PathStep → List (List PathStep) → List (List PathStep)
up step paths = map (λ (path : List PathStep). step ∷ path) paths

apart_up : (step : PathStep) (paths : List (List PathStep)) → IsApart paths → IsApart (up step paths)
apart_up step paths apart x i j hi hj = grind (arith, in_map)

paths_under : (step : PathStep) (xs : List Leaf) → map (λ (leaf : Leaf). leaf.path) (map (under step) xs) ≡ up step (map (λ (leaf : Leaf). leaf.path) xs)
paths_under step [] = refl
paths_under step (x ∷ xs) = ap (λ ps. (step ∷ x.path) ∷ ps) (paths_under step xs)

pub paths_field : (name : List ℕ) (held : Tree) (rest : Fields) → paths_of (Field name held rest) ≡ up (Name name) (paths_at held) ++ paths_of rest
paths_field name held rest = grind (arith, map-append, Name, leaves, paths_under)

paths_array : (len : ℕ) (element : Tree) → paths_at (Array (suc len) element) ≡ paths_at (Array len element) ++ up (At len) (paths_at element)
paths_array len element = search (rules, leaves-suc, map-append, Array, paths_under)

-- the path of a leaf of a record: a name of the record, and then the path of a leaf in that field
pub record InField (fields : Fields) (path : List PathStep) : Type 0 where
  pub name : List ℕ
  pub rest : List PathStep
  pub step : path ≡ Name name ∷ rest
  pub named : list_any (pointwise nat_eq name) (names_of fields) ≡ true

field_first : (own : List ℕ) (held : Tree) (rest : Fields) (path q : List PathStep) → Name own ∷ q ≡ path → InField (Field own held rest) path
field_first own held rest path q e = record { name = own; rest = q; step = sym e; named = ap (λ b. b || list_any (pointwise nat_eq own) (names_of rest)) (text_self own) }

field_later : (own : List ℕ) (held : Tree) (rest : Fields) (path : List PathStep) → InField rest path → InField (Field own held rest) path
field_later own held rest path f = record { name = f.name; rest = f.rest; step = f.step; named = or_right (pointwise nat_eq f.name own) _ f.named }

field_either : (own : List ℕ) (held : Tree) (rest : Fields) (path : List PathStep) (i : ℕ) → ((k : ℕ) → slice_get (paths_of rest) k ≡ Some path → InField rest path) →
    InEither (up (Name own) (paths_at held)) (paths_of rest) i path → InField (Field own held rest) path
field_either own held rest path i later (in_front h) = let m = in_map (λ (p : List PathStep). Name own ∷ p) (paths_at held) i path h in field_first own held rest path m.0 m.2
field_either own held rest path i later (in_back k e h) = field_later own held rest path (later k h)

pub in_field : (fields : Fields) (path : List PathStep) (i : ℕ) → slice_get (paths_of fields) i ≡ Some path → InField fields path
in_field End path i h = cc
in_field (Field own held rest) path i h =
    field_either own held rest path i (λ k e. in_field rest path k e) (in_either _ _ i path (rw paths_field at h))

-- the path of a leaf of an array: the number of an element, and then the path of a leaf in it
pub record InElement (len : ℕ) (element : Tree) (path : List PathStep) : Type 0 where
  pub number : ℕ
  pub rest : List PathStep
  pub place : ℕ
  pub step : path ≡ At number ∷ rest
  pub below : number < len
  pub leaf : slice_get (paths_at element) place ≡ Some rest

element_either : (len : ℕ) (element : Tree) (path : List PathStep) (i : ℕ) → ((k : ℕ) → slice_get (paths_at (Array len element)) k ≡ Some path → InElement len element path) →
    InEither (paths_at (Array len element)) (up (At len) (paths_at element)) i path → InElement (suc len) element path
element_either len element path i before h = grind (arith, in_map)

pub in_element : (len : ℕ) (element : Tree) (path : List PathStep) (i : ℕ) → slice_get (paths_at (Array len element)) i ≡ Some path → InElement len element path
in_element zero element path i h = cc
in_element (suc len) element path i h =
    element_either len element path i (λ k e. in_element len element path k e) (in_either _ _ i path (rw paths_array at h))

apart_field : (name : List ℕ) (held : Tree) (rest : Fields) → list_any (pointwise nat_eq name) (names_of rest) ≡ false → IsApart (paths_at held) → IsApart (paths_of rest) → IsApart (paths_of (Field name held rest))
apart_field name held rest fresh one others =
    let no_both : (x : List PathStep) (i j : ℕ) → slice_get (up (Name name) (paths_at held)) i ≡ Some x → slice_get (paths_of rest) j ≡ Some x → ⊥ =
    λ x i j hi hj.
    let m = in_map (λ (p : List PathStep). Name name ∷ p) (paths_at held) i x hi in
    let f = in_field rest x j hj in
    let same : f.name ≡ name = cc (m.2, f.step) in
    let named : list_any (pointwise nat_eq name) (names_of rest) ≡ true = subst (λ n. list_any (pointwise nat_eq n) (names_of rest) ≡ true) same f.named in
    cc (named, fresh) in
    subst (λ (ps : List (List PathStep)). IsApart ps) (sym (paths_field name held rest)) (apart_append (up (Name name) (paths_at held)) (paths_of rest) (apart_up (Name name) (paths_at held) one) others no_both)

apart_array : (len : ℕ) (element : Tree) → IsApart (paths_at element) → IsApart (paths_at (Array len element))
apart_array zero element one = λ x i j hi hj. cc
apart_array (suc len) element one =
    let no_both : (x : List PathStep) (i j : ℕ) → slice_get (paths_at (Array len element)) i ≡ Some x → slice_get (up (At len) (paths_at element)) j ≡ Some x → ⊥ =
    λ x i j hi hj.
    let m = in_map (λ (p : List PathStep). At len ∷ p) (paths_at element) j x hj in
    let f = in_element len element x i hi in
    let same : f.number ≡ len = cc (m.2, f.step) in
    omega (arith, f.below) in
    subst (λ (ps : List (List PathStep)). IsApart ps) (sym (paths_array len element)) (apart_append (paths_at (Array len element)) (up (At len) (paths_at element)) (apart_array len element one) (apart_up (At len) (paths_at element) one) no_both)

apart_one : (x y : List PathStep) (i j : ℕ) → slice_get (x ∷ []) i ≡ Some y → slice_get (x ∷ []) j ≡ Some y → i ≡ j
apart_one x y i j hi hj = grind arith

mutual
  -- the paths of the leaves of a tree differ
  pub apart_tree : (tree : Tree) → list_any shares_name (records_of tree) ≡ false → IsApart (paths_at tree)
  apart_tree (Single kind) fine = λ x i j hi hj. apart_one [] x i j hi hj
  apart_tree (Record fields) fine =
      let both = or_parts (has_twice (names_of fields)) (list_any shares_name (records_below fields)) fine in
      apart_fields fields both.0 both.1
  apart_tree (Array len element) fine = apart_array len element (apart_tree element fine)

  pub apart_fields : (fields : Fields) → has_twice (names_of fields) ≡ false → list_any shares_name (records_below fields) ≡ false → IsApart (paths_of fields)
  apart_fields End own below = λ x i j hi hj. cc
  apart_fields (Field name held rest) own below =
      let names = or_parts (list_any (pointwise nat_eq name) (names_of rest)) (has_twice (names_of rest)) own in
      let records = none_of_both shares_name (records_of held) (records_below rest) below in
      apart_field name held rest names.0 (apart_tree held records.0) (apart_fields rest names.1 records.1)

-- the path leads to a leaf
abbrev pub IsLeafAt : Tree → List PathStep → Type 0
IsLeafAt tree path = (kind : LeafType) × (node_at tree path ≡ Some (Single kind))

leads_one : (kind : LeafType) (path : List PathStep) (i : ℕ) → slice_get (paths_at (Single kind)) i ≡ Some path → IsLeafAt (Single kind) path
leads_one kind path zero h = let e : [] ≡ path = cc in (kind, ap (node_at (Single kind)) (sym e))
leads_one kind path (suc i) h = cc

leads_element : (len : ℕ) (element : Tree) → ((path : List PathStep) (i : ℕ) → slice_get (paths_at element) i ≡ Some path → IsLeafAt element path) →
    (path : List PathStep) → InElement len element path → IsLeafAt (Array len element) path
leads_element len element inner path f = grind (arith, nat_lt, node_at, Array)

-- another field's name is another
other_name : (own : List ℕ) (rest : Fields) (name : List ℕ) → list_any (pointwise nat_eq own) (names_of rest) ≡ false → list_any (pointwise nat_eq name) (names_of rest) ≡ true →
    (pointwise nat_eq own name ≡ true) ⊎ (pointwise nat_eq own name ≡ false) → pointwise nat_eq own name ≡ false
other_name own rest name fresh named (inl e) = search (rules, same_text, list_any, nat_eq)
other_name own rest name fresh named (inr e) = e

leads_later : (own : List ℕ) (held : Tree) (rest : Fields) (path : List PathStep) → list_any (pointwise nat_eq own) (names_of rest) ≡ false → InField rest path → IsLeafAt (Record rest) path →
    IsLeafAt (Record (Field own held rest)) path
leads_later own held rest path fresh f leaf = grind (arith, other_name, cases_Bool, nat_eq, node_in, Single, node_at, Record, Field)

leads_either : (own : List ℕ) (held : Tree) (rest : Fields) → list_any (pointwise nat_eq own) (names_of rest) ≡ false →
    ((path : List PathStep) (i : ℕ) → slice_get (paths_at held) i ≡ Some path → IsLeafAt held path) →
    ((path : List PathStep) (i : ℕ) → slice_get (paths_of rest) i ≡ Some path → IsLeafAt (Record rest) path) →
    (path : List PathStep) (i : ℕ) → InEither (up (Name own) (paths_at held)) (paths_of rest) i path → IsLeafAt (Record (Field own held rest)) path
leads_either own held rest fresh inner later path i h = grind (arith, in_map, node_at, node_in, text_self, leads_later, in_field)

mutual
  -- the path of each leaf leads to it
  pub leads_tree : (tree : Tree) → list_any shares_name (records_of tree) ≡ false → (path : List PathStep) (i : ℕ) → slice_get (paths_at tree) i ≡ Some path → IsLeafAt tree path
  leads_tree (Single kind) fine = leads_one kind
  leads_tree (Record fields) fine =
      let both = or_parts (has_twice (names_of fields)) (list_any shares_name (records_below fields)) fine in
      leads_fields fields both.0 both.1
  leads_tree (Array len element) fine = λ path i h. leads_element len element (leads_tree element fine) path (in_element len element path i h)

  pub leads_fields : (fields : Fields) → has_twice (names_of fields) ≡ false → list_any shares_name (records_below fields) ≡ false →
      (path : List PathStep) (i : ℕ) → slice_get (paths_of fields) i ≡ Some path → IsLeafAt (Record fields) path
  leads_fields End own below = λ path i h. cc
  leads_fields (Field name held rest) own below =
      let names = or_parts (list_any (pointwise nat_eq name) (names_of rest)) (has_twice (names_of rest)) own in
      let records = none_of_both shares_name (records_of held) (records_below rest) below in
      λ path i h. leads_either name held rest names.0 (leads_tree held records.0) (leads_fields rest names.1 records.1) path i (in_either _ _ i path (rw paths_field at h))

get_between : {X : Type 0} (xs ys : List X) (x : X) → slice_get (xs ++ (x ∷ ys)) (length xs) ≡ Some x
get_between [] ys x = refl
get_between (y ∷ xs) ys x = get_between xs ys x

-- a path that leads to a leaf is the path of the leaf at its place
pub leaf_place : (fields : Fields) (path : List PathStep) (first : ℕ) (kind : LeafType) → LeadsTo (Record fields) path first (Single kind) → slice_get (paths_of fields) first ≡ Some path
leaf_place fields path first kind l = grind (arith, map-append, length-map, slice_get, get_between, append-nil)

-- in a record that is fit the path of a leaf leads to that leaf and no other
pub only_leaf : (fields : Fields) → record_fault (Record fields) ≡ None → (path : List PathStep) (leaf first : ℕ) (node : Tree) →
    slice_get (paths_of fields) leaf ≡ Some path → LeadsTo (Record fields) path first node → (kind : LeafType) × (node ≡ Single kind) × (first ≡ leaf)
only_leaf fields fit path leaf first node h l =
    let fine = (fit_from (Record fields) fit).apart in
    let leads = leads_tree (Record fields) fine path leaf h in
    let same : node ≡ Single leads.0 = cc (leads.1, l.found) in
    let there = subst (λ n. LeadsTo (Record fields) path first n) same l in
    (leads.0, same, apart_tree (Record fields) fine path first leaf (leaf_place fields path first leads.0 there) h)

-- a value that stands for a leaf is one
pub single_leaf : (held : Dim) (kind : LeafType) → tree_of held ≡ Single kind → held ≡ dim.Leaf kind
single_leaf (dim.Leaf own) kind e = cc
single_leaf (dim.Fields fields) kind e = cc
single_leaf (dim.Array' len p element) kind e = cc

pub no_leaf : (fields : Fields) → record_fault (Record fields) ≡ None → (path : List PathStep) (leaf : ℕ) → slice_get (paths_of fields) leaf ≡ Some path → node_at (Record fields) path ≡ None → ⊥
no_leaf fields fit path leaf h none =
    let leads = leads_tree (Record fields) (fit_from (Record fields) fit).apart path leaf h in
    cc (leads.1, none)
