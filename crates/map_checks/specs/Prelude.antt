-- What other crates take of this one.
pub use Rattle.map_checks.specs.Arrays.{HasArrays, IsArray, IsArrayOf, array_layout, array_of, lanes_in}
pub use Rattle.map_checks.specs.Inner.LeafCells.{holds_by_kind, kinds_are, leaf_cells_kinds}
pub use Rattle.map_checks.specs.Inner.Orders.{IsBuiltTerm-prop}
pub use Rattle.map_checks.specs.Mappings.{IsBuiltTerm, IsRefusal, IsTooBigFor, accepted, bad_field, bad_side, else_for, holds_by, holds_of, layout_by, layout_of, leaf_cells, most_slots, not_full}
pub use Rattle.map_checks.specs.Plans.{IsPlanOf}
pub use Rattle.map_checks.specs.PlansLaws.{plan_holds, plan_rules}
pub use Rattle.map_checks.specs.RowsLaws.{length-blob, length-in_rows, sum-blobs}
pub use Rattle.map_checks.specs.Ruled.{EachWith, HasLengths, IsRuleOf, IsRuled, IsSameRule, pieces_of}
pub use Rattle.map_checks.specs.RuledLaws.{each_push}
pub use Rattle.map_checks.specs.Sides.{cells_beside, cells_under, side_of}
pub use Rattle.map_checks.specs.TermLaws.{good_numbers, length-holds, term_laws}
pub use Rattle.map_checks.specs.Widths.{cell_widths}
