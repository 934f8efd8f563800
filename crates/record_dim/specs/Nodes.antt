-- The nodes of a record: where a path leads, and where the leaves below it stand.
use Rattle.std.specs.Prelude.{◌≡◌, ℕ, ◌+◌, ◌-◌, ◌*◌, Bool, false, ◌&&◌, nat_eq, nat_le, nat_lt, if◌then◌else◌, List, [], ◌∷◌, ◌++◌, length, map, Option, Some, None}
use Rattle.record_dim.specs.Std.{pointwise}
use Rattle.record_dim.specs.declared.path.PathStep.{PathStep}
use Rattle.record_dim.specs.declared.path.PathStep.TheVariants.{Name, At}
use Rattle.record_dim.specs.Trees.{Tree, Record, Array, Fields, End, Field}
use Rattle.record_dim.specs.Leaves.{Leaf, leaves_of, leaves}

abbrev mutual
  -- the tree to which steps lead down from a tree, if they lead anywhere
  pub node_at : Tree → List PathStep → Option Tree
  node_at tree [] = Some tree
  node_at (Record fields) (Name name ∷ steps) = node_in fields name steps
  node_at (Array len element) (At number ∷ steps) = if nat_lt number len then node_at element steps else None
  node_at _ _ = None

  -- the same by way of the field of this name
  pub node_in : Fields → List ℕ → List PathStep → Option Tree
  node_in End name steps = None
  node_in (Field own held rest) name steps = if pointwise nat_eq own name then node_at held steps else node_in rest name steps

-- the node of a record that has this path, if there is one
abbrev pub node_of : Fields → List PathStep → Option Tree
node_of fields path = node_at (Record fields) path

abbrev mutual
  -- how many leaves of a tree stand before the node to which steps lead
  pub leaves_before : Tree → List PathStep → ℕ
  leaves_before tree [] = 0
  leaves_before (Record fields) (Name name ∷ steps) = leaves_before_in fields name steps
  leaves_before (Array len element) (At number ∷ steps) = number * length (leaves_of element) + leaves_before element steps
  leaves_before _ _ = 0

  -- the same by way of the field of this name
  pub leaves_before_in : Fields → List ℕ → List PathStep → ℕ
  leaves_before_in End name steps = 0
  leaves_before_in (Field own held rest) name steps =
      if pointwise nat_eq own name then leaves_before held steps else length (leaves_of held) + leaves_before_in rest name steps

-- the leaf of this number is one of a node's, the first of which has the number `first`
abbrev pub is_from : Option Tree → ℕ → ℕ → Bool
is_from None first leaf = false
is_from (Some node) first leaf = nat_le first leaf && nat_lt (leaf - first) (length (leaves_of node))

-- the leaf of this number is one of the node that has this path
abbrev pub is_under : Fields → List PathStep → ℕ → Bool
is_under fields path leaf = is_from (node_of fields path) (leaves_before (Record fields) path) leaf

-- a leaf as seen from where these steps begin
abbrev pub behind : List PathStep → Leaf → Leaf
behind steps leaf = record { kind = leaf.kind; path = steps ++ leaf.path }

-- all leaves are `first` of them, then those of the node at the end of the steps, then others
pub record IsStretch (all : List Leaf) (steps : List PathStep) (node : Tree) (first : ℕ) : Type 0 where
  pub front : List Leaf
  pub back : List Leaf
  pub before : length front ≡ first
  pub parts : all ≡ front ++ (map (behind steps) (leaves_of node) ++ back)

-- the path leads to a node whose leaves are `count` from number `first` on
pub record IsUnder (fields : Fields) (path : List PathStep) (first count : ℕ) : Type 0 where
  pub node : Tree
  pub found : node_of fields path ≡ Some node
  pub many : length (leaves_of node) ≡ count
  pub place : leaves_before (Record fields) path ≡ first
  pub stretch : IsStretch (leaves fields) path node first

-- one step down from a tree stands the tree `below`, with `first` leaves before it
pub record HasChild (tree : Tree) (step : PathStep) (first : ℕ) (below : Tree) : Type 0 where
  pub node : (steps : List PathStep) → node_at tree (step ∷ steps) ≡ node_at below steps
  pub place : (steps : List PathStep) → leaves_before tree (step ∷ steps) ≡ first + leaves_before below steps
  pub stretch : IsStretch (leaves_of tree) (step ∷ []) below first

-- the field of this name holds the tree `held`, with `first` leaves before it
pub record HasField (fields : Fields) (name : List ℕ) (first : ℕ) (held : Tree) : Type 0 where
  pub node : (steps : List PathStep) → node_in fields name steps ≡ node_at held steps
  pub place : (steps : List PathStep) → leaves_before_in fields name steps ≡ first + leaves_before held steps
  pub stretch : IsStretch (leaves fields) (Name name ∷ []) held first

-- the steps lead to this node, with `first` leaves before it
pub record LeadsTo (tree : Tree) (steps : List PathStep) (first : ℕ) (node : Tree) : Type 0 where
  pub found : node_at tree steps ≡ Some node
  pub place : leaves_before tree steps ≡ first
  pub stretch : IsStretch (leaves_of tree) steps node first
