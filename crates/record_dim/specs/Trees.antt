-- Records as trees without pointers, and the trees of the code's values.
use Rattle.std.specs.Prelude.{ℕ, List}
use Rattle.record_dim.specs.declared.leaf_type.LeafType.{LeafType}
use Rattle.record_dim.specs.declared.dim.Dim.{Dim}
use Rattle.record_dim.specs.declared.dim.Dim.TheVariants as dim
use Rattle.record_dim.specs.declared.dim.FieldList.{FieldList}
use Rattle.record_dim.specs.declared.dim.FieldList.TheVariants as list

mutual
  -- what a field holds: a leaf, a record of fields, or so many elements of one kind
  pub data Tree : Type 0 where
    Single : LeafType → Tree
    Record : Fields → Tree
    Array : ℕ → Tree → Tree

  -- the fields of a record: none, or a name with what it holds and the other fields
  pub data Fields : Type 0 where
    End : Fields
    Field : List ℕ → Tree → Fields → Fields

abbrev mutual
  -- the tree that a value of the code stands for
  pub tree_of : Dim → Tree
  tree_of (dim.Leaf kind) = Single kind
  tree_of (dim.Fields fields) = Record (fields_of fields)
  tree_of (dim.Array' len p element) = Array len (tree_of element)

  pub fields_of : FieldList → Fields
  fields_of list.End = End
  fields_of (list.More' p name held q rest) = Field name (tree_of held) (fields_of rest)

-- the value is a record
abbrev pub IsRecord : Dim → Type 0
IsRecord (dim.Fields fields) = Unit {0}
IsRecord _ = ⊥
