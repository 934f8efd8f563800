-- the rules so far, all in one order
use Rattle.map_checks.proofs.Imports.{◌≡◌, length, map, slice_index, replicate, row_at, in_rows, AreArrays, EachWith, IsRuleOf}
use Rattle.map_checks.proofs.base_plan.rules_of.Given as goal

abbrev pub invariant-loop-cell : goal.invariant-loop-cell
invariant-loop-cell g l =
    (length l.rules ≡ l.cell)
    × EachWith (λ cell rule. IsRuleOf (in_rows (row_at l.order l.extents) (g.M.Mapping.layout l.mapping)) l.extents cell
    (slice_index (map (λ h. h.width) (g.M.Mapping.hold_list l.mapping)) cell) rule) l.rules
    × (map (λ rule. rule.order) l.rules ≡ replicate l.cell l.order)
    × AreArrays (g.M.Mapping.layout l.mapping) (g.M.Mapping.slot_count l.mapping) (g.M.Ruled.lane_count l.mapping)
    (map (λ h. h.width) (g.M.Mapping.hold_list l.mapping)) l.rules
