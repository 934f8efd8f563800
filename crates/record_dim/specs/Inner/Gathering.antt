-- The types and texts of the leaves below a node, as they are gathered.
use Rattle.std.specs.Prelude.{ℕ, List, ◌++◌, map}
use Rattle.record_dim.specs.Std.{flat_map}
use Rattle.record_dim.specs.declared.leaf_type.LeafType.{LeafType}
use Rattle.record_dim.specs.Paths.{step_text, path_text_of}
use Rattle.record_dim.specs.Trees.{Tree, Fields}
use Rattle.record_dim.specs.Leaves.{Leaf, leaves_of, leaves}

-- the types of the leaves of a node, and of a record
unfoldable pub node_kinds : Tree → List LeafType
node_kinds tree = map (λ (leaf : Leaf). leaf.kind) (leaves_of tree)

unfoldable pub record_kinds : Fields → List LeafType
record_kinds fields = map (λ (leaf : Leaf). leaf.kind) (leaves fields)

-- the texts of the leaves of a node that itself has the text `text`
unfoldable pub node_texts : List ℕ → Tree → List (List ℕ)
node_texts text tree = map (λ (leaf : Leaf). text ++ flat_map step_text leaf.path) (leaves_of tree)

-- the texts of the leaves of a record where `front` stands before each name
unfoldable pub record_texts : List ℕ → Fields → List (List ℕ)
record_texts front fields = map (λ (leaf : Leaf). front ++ path_text_of leaf.path) (leaves fields)
