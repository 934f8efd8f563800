-- Where the leaves of a node stand among those of the whole.
use Rattle.record_dim.proofs.Imports.{◌≡◌, ℕ, suc, zero, ◌+◌, ◌*◌, ◌≤◌, ◌<◌, min, true, false, cond, nat_eq, nat_lt, None, List, [], ◌∷◌, ◌++◌, length, map, refl, sym, ap, ◌∙◌, ⊎_elim, append_assoc, add-one, arith, pointwise, cases_lt, length-append, length-map, map-append, append-nil, PathStep, Name, At, Tree, Record, Array, Fields, Field, Leaf, under, leaves_of, leaves, node_at, node_in, leaves_before, leaves_before_in, behind, IsStretch, HasChild, HasField, LeadsTo, same_text}
use Rattle.record_dim.proofs.Walks.{length-leaves_of_array}
use Rattle.record_dim.proofs.Gathered.{leaves-more}

behind_none : (xs : List Leaf) → map (behind []) xs ≡ xs
behind_none [] = refl
behind_none (x ∷ xs) = ap (λ ys. x ∷ ys) (behind_none xs)

-- one step and then others
behind_more : (step : PathStep) (steps : List PathStep) (xs : List Leaf) → map (behind (step ∷ [])) (map (behind steps) xs) ≡ map (behind (step ∷ steps)) xs
behind_more step steps [] = refl
behind_more step steps (x ∷ xs) = ap (λ ys. behind (step ∷ steps) x ∷ ys) (behind_more step steps xs)

regroup : {A : Type 0} (front f m b back : List A) → front ++ ((f ++ (m ++ b)) ++ back) ≡ (front ++ f) ++ (m ++ (b ++ back))
regroup front f m b back = simp append_assoc

-- no step leads to the tree itself
pub leads_nowhere : (tree : Tree) → LeadsTo tree [] 0 tree
leads_nowhere tree = record {
  found = refl;
  place = refl;
  stretch = record { front = []; back = []; before = refl; parts = sym (append-nil (map (behind []) (leaves_of tree)) ∙ behind_none (leaves_of tree)) };
}

stretch_on : (all : List Leaf) (step : PathStep) (steps : List PathStep) (below node : Tree) (first second : ℕ) →
    IsStretch all (step ∷ []) below first → IsStretch (leaves_of below) steps node second → IsStretch all (step ∷ steps) node (first + second)
stretch_on all step steps below node first second outer inner = grind (arith, map-append, behind_more, length-append, length-map, regroup)

-- one step more
pub leads_on : (tree : Tree) (step : PathStep) (steps : List PathStep) (below node : Tree) (first second : ℕ) →
    HasChild tree step first below → LeadsTo below steps second node → LeadsTo tree (step ∷ steps) (first + second) node
leads_on tree step steps below node first second child inner = grind (arith, stretch_on)

-- a field is one step down from its record
pub child_of_field : (fields : Fields) (name : List ℕ) (first : ℕ) (held : Tree) → HasField fields name first held → HasChild (Record fields) (Name name) first held
child_of_field fields name first held field = record { node = field.node; place = field.place; stretch = field.stretch }

pub leaves-suc : (len : ℕ) (element : Tree) → leaves_of (Array (suc len) element) ≡ leaves_of (Array len element) ++ map (under (At len)) (leaves_of element)
leaves-suc len element = rw add-one at (leaves-more len element)

-- an element is one step down from its array
element_stretch : (len number : ℕ) (element : Tree) → number < len → IsStretch (leaves_of (Array len element)) (At number ∷ []) element (number * length (leaves_of element))
element_stretch zero number element h = absurd (omega arith)
element_stretch (suc len) number element h =
    let one = map (under (At len)) (leaves_of element) in
    let more : leaves_of (Array (suc len) element) ≡ leaves_of (Array len element) ++ one = leaves-suc len element in
    ⊎_elim
    (λ (below : number < len). grind (arith, append_assoc, (element_stretch len number element below)))
    (λ (last : len ≤ number).
    let same : len ≡ number = omega arith in
    record {
      front = leaves_of (Array len element);
      back = [];
      before = length-leaves_of_array len element ∙ ap (λ n. n * length (leaves_of element)) same;
      parts = more ∙ ap (λ n. leaves_of (Array len element) ++ map (under (At n)) (leaves_of element)) same ∙ ap (λ xs. leaves_of (Array len element) ++ xs) (sym (append-nil (map (behind (At number ∷ [])) (leaves_of element))));
    })
    (cases_lt number len)

pub child_of_array : (len number : ℕ) (element : Tree) → number < len → HasChild (Array len element) (At number) (number * length (leaves_of element)) element
child_of_array len number element h = grind (arith, nat_lt, node_at, element_stretch)

pub no_element : (len number : ℕ) (element : Tree) (steps : List PathStep) → len ≤ number → node_at (Array len element) (At number ∷ steps) ≡ None
no_element len number element steps h = grind (arith, nat_lt, node_at)

-- no more leaves stand below a node than in the whole
pub stretch_few : (all : List Leaf) (steps : List PathStep) (node : Tree) (first : ℕ) → IsStretch all steps node first → first + length (leaves_of node) ≤ length all
stretch_few all steps node first s = grind (arith, length-append, length-map)

-- the search for the field of this name: it is among the fields left, if anywhere, and `before` leaves are passed
pub record IsLeft (fields left : Fields) (name : List ℕ) (before : ℕ) : Type 0 where
  pub node : (steps : List PathStep) → node_in fields name steps ≡ node_in left name steps
  pub place : (steps : List PathStep) → leaves_before_in fields name steps ≡ before + leaves_before_in left name steps
  pub front : List Leaf
  pub many : length front ≡ before
  pub parts : leaves fields ≡ front ++ leaves left

pub left_all : (fields : Fields) (name : List ℕ) → IsLeft fields fields name 0
left_all fields name = record { node = λ steps. refl; place = λ steps. omega arith; front = []; many = refl; parts = refl }

pub left_few : (fields left : Fields) (name : List ℕ) (before : ℕ) → IsLeft fields left name before → before + length (leaves left) ≡ length (leaves fields)
left_few fields left name before l = grind (arith, leaves, length-append)

-- another name
pub left_more : (fields : Fields) (own : List ℕ) (held : Tree) (rest : Fields) (name : List ℕ) (before : ℕ) → pointwise nat_eq own name ≡ false →
    IsLeft fields (Field own held rest) name before → IsLeft fields rest name (before + length (leaves_of held))
left_more fields own held rest name before other l =
    let one = map (under (Name own)) (leaves_of held) in
    record {
      node = λ steps. l.node steps ∙ ap (λ b. cond b (node_at held steps) (node_in rest name steps)) other;
      place = λ steps. grind (arith, leaves_before_in, leaves_before);
      front = l.front ++ one;
      many = length-append l.front one ∙ omega (arith, l.many, length-map (leaves_of held) (under (Name own)));
      parts = l.parts ∙ sym (append_assoc l.front one (leaves rest));
    }

-- the name
pub left_found : (fields : Fields) (own : List ℕ) (held : Tree) (rest : Fields) (name : List ℕ) (before : ℕ) → pointwise nat_eq own name ≡ true →
    IsLeft fields (Field own held rest) name before → HasField fields name before held
left_found fields own held rest name before this l =
    let same : own ≡ name = same_text own name this in
    record {
      node = λ steps. l.node steps ∙ ap (λ b. cond b (node_at held steps) (node_in rest name steps)) this;
      place = λ steps. grind (arith, leaves_before_in, leaves_before);
      stretch = record { front = l.front; back = leaves rest; before = l.many; parts = l.parts ∙ ap (λ n. l.front ++ (map (under (Name n)) (leaves_of held) ++ leaves rest)) same };
    }

-- the count of an element's leaves is exact in an array that has few
pub array_place : (len number : ℕ) (element : Tree) (count : ℕ) → number < len → length (leaves_of (Array len element)) ≤ 64 → count ≡ min 65 (length (leaves_of element)) →
    (count ≡ length (leaves_of element)) × (number * count + length (leaves_of element) ≤ 64)
array_place len number element count h few e = grind (arith, Array, length-leaves_of_array)

pub leads_in : (fields : Fields) (name : List ℕ) (steps : List PathStep) (held node : Tree) (first second : ℕ) →
    HasField fields name first held → LeadsTo held steps second node → LeadsTo (Record fields) (Name name ∷ steps) (first + second) node
leads_in fields name steps held node first second field inner = leads_on (Record fields) (Name name) steps held node first second (child_of_field fields name first held field) inner

pub ruleset lefts = (left_all, left_few, left_more, left_found)

pub ruleset children = (child_of_field, child_of_array, no_element)

pub ruleset leads = (leads_nowhere, leads_on)
