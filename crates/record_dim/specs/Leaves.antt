-- The leaves of a record, and what makes a record unfit.
use Rattle.std.specs.Prelude.{ℕ, ◌+◌, max, Bool, true, false, ◌||◌, nat_eq, nat_lt, if◌then◌else◌, List, [], ◌∷◌, ◌++◌, length, map, Option, Some, None}
use Rattle.record_dim.specs.Std.{flat_map, range_with_len, list_all, list_any, pointwise}
use Rattle.record_dim.specs.declared.leaf_type.LeafType.{LeafType}
use Rattle.record_dim.specs.declared.path.PathStep.{PathStep}
use Rattle.record_dim.specs.declared.path.PathStep.TheVariants.{Name, At}
use Rattle.record_dim.specs.declared.fault.BadRecord.{BadRecord}
use Rattle.record_dim.specs.declared.fault.BadRecord.TheVariants as bad
use Rattle.record_dim.specs.Names.{is_name}
use Rattle.record_dim.specs.Paths.{path_text_of}
use Rattle.record_dim.specs.Trees.{Tree, Single, Record, Array, Fields, End, Field}

-- a leaf: its type, and the path to it
pub record Leaf : Type 0 where
  pub kind : LeafType
  pub path : List PathStep

-- the leaf as seen from one step further up
abbrev pub under : PathStep → Leaf → Leaf
under step leaf = record { kind = leaf.kind; path = step ∷ leaf.path }

abbrev mutual
  -- the leaves of a tree, depth-first, array elements by their number
  pub leaves_of : Tree → List Leaf
  leaves_of (Single kind) = record { kind = kind; path = [] } ∷ []
  leaves_of (Record fields) = leaves fields
  leaves_of (Array len element) = flat_map (λ number. map (under (At number)) (leaves_of element)) (range_with_len 0 len)

  -- the leaves of a record, field by field
  pub leaves : Fields → List Leaf
  leaves End = []
  leaves (Field name held rest) = map (under (Name name)) (leaves_of held) ++ leaves rest

-- the types of the leaves, their paths and their texts, in order
abbrev pub kinds_of : Fields → List LeafType
kinds_of fields = map (λ leaf. leaf.kind) (leaves fields)

abbrev pub paths_of : Fields → List (List PathStep)
paths_of fields = map (λ leaf. leaf.path) (leaves fields)

abbrev pub texts_of : Fields → List (List ℕ)
texts_of fields = map (λ leaf. path_text_of leaf.path) (leaves fields)

abbrev mutual
  -- how deep a tree is: a leaf not at all, an array one more than its element, a record one more than its deepest field
  pub depth_of : Tree → ℕ
  depth_of (Single kind) = 0
  depth_of (Record fields) = greatest_depth fields + 1
  depth_of (Array len element) = depth_of element + 1

  -- the depth of the deepest field, and 0 where there is none
  pub greatest_depth : Fields → ℕ
  greatest_depth End = 0
  greatest_depth (Field name held rest) = max (depth_of held) (greatest_depth rest)

abbrev mutual
  -- all records of a tree, itself included
  pub records_of : Tree → List Fields
  records_of (Single kind) = []
  records_of (Record fields) = fields ∷ records_below fields
  records_of (Array len element) = records_of element

  pub records_below : Fields → List Fields
  records_below End = []
  records_below (Field name held rest) = records_of held ++ records_below rest

abbrev mutual
  -- the lengths of all arrays of a tree, itself included
  pub lengths_of : Tree → List ℕ
  lengths_of (Single kind) = []
  lengths_of (Record fields) = lengths_below fields
  lengths_of (Array len element) = len ∷ lengths_of element

  pub lengths_below : Fields → List ℕ
  lengths_below End = []
  lengths_below (Field name held rest) = lengths_of held ++ lengths_below rest

-- the names of the fields, in order
abbrev pub names_of : Fields → List (List ℕ)
names_of End = []
names_of (Field name held rest) = name ∷ names_of rest

-- each field has a name
abbrev pub has_names : Fields → Bool
has_names fields = list_all is_name (names_of fields)

abbrev pub is_empty_record : Fields → Bool
is_empty_record End = true
is_empty_record (Field name held rest) = false

-- some text stands twice in the list
abbrev pub has_twice : List (List ℕ) → Bool
has_twice [] = false
has_twice (text ∷ texts) = list_any (pointwise nat_eq text) texts || has_twice texts

-- two fields of the record share a name
abbrev pub shares_name : Fields → Bool
shares_name fields = has_twice (names_of fields)

-- the first thing that makes a tree no record of a data set, if there is one
abbrev pub record_fault : Tree → Option BadRecord
record_fault tree =
    if nat_lt 8 (depth_of tree) then Some bad.TooDeep
    else (if list_any is_empty_record (records_of tree) then Some bad.Empty
    else (if list_any shares_name (records_of tree) then Some bad.Twice
    else (if list_any (nat_eq 0) (lengths_of tree) then Some bad.NoElements
    else (if nat_lt 64 (length (leaves_of tree)) then Some bad.TooManyLeaves
    else None))))
