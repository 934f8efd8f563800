-- What is kept of the leaves of a mapping that lays out arrays.
use Rattle.map_any.specs.Imports.{ℕ, List, map, slice_index, IfSome, slot_count, widths_of, full_holds, Cell, Term, array_of, array_layout, lanes_in, IsArray, EachWith}
use Rattle.map_any.specs.declared.leaf_rule.LeafRule.{LeafRule}

-- each leaf lies in an array; of another mapping nothing is said
abbrev pub HaveArrays : Term → List ℕ → List Cell → List LeafRule → Type 0
HaveArrays term extents cells leaves = IfSome (array_of term) (λ array. let slots = slot_count array.0 extents in
    EachWith (λ k leaf. IsArray (array_layout term slots (widths_of cells)) slots (lanes_in array.1 slots) k (slice_index (map (λ h. h.width) (full_holds cells)) k) leaf.rule) leaves)
