use Rattle.views.proofs.Imports.{◌≡◌, ◌-◌, ◌<◌, ◌≤◌, true, length, map, take, indices, schema_fields, kinds_of, term_of, leaf_cells, layout_by, AreLaid, table_in, leads, with_column, raised, kind_at}
use Rattle.views.proofs.runs.put_rows.Given as goal

abbrev pub invariant-loop-done : goal.invariant-loop-done
invariant-loop-done l = record {
  inside : l.done ≤ length l.lows;
  laid : AreLaid (layout_by (term_of l.mapping.expr) l.mapping.extents (schema_fields l.mapping.schema)) l.blobs.items;
  table : table_in (layout_by (term_of l.mapping.expr) l.mapping.extents (schema_fields l.mapping.schema)) (length (indices l.mapping.extents)) l.mapping.holds l.blobs.items
      ≡ with_column l.leaf l.first (take l.done (map (raised (kind_at (map (λ cell. cell.kind) (leaf_cells (kinds_of (schema_fields l.mapping.schema)))) l.leaf)) l.lows))
      (table_in (layout_by (term_of l.mapping.expr) l.mapping.extents (schema_fields l.mapping.schema)) (length (indices l.mapping.extents)) l.mapping.holds l.initial.blobs.items);
  leads : 0 < l.done → leads l.short.walk ≡ true;
}

abbrev pub decreases-loop-done : goal.decreases-loop-done
decreases-loop-done l = length l.lows - l.done
