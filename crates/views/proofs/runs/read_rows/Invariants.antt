use Rattle.views.proofs.Imports.{◌≡◌, ℕ, ◌+◌, ◌-◌, ◌<◌, ◌≤◌, true, length, get_or, pos, indices, schema_fields, term_of, layout_by, entry, table_in, leads, low_64}
use Rattle.views.proofs.runs.read_rows.Given as goal

abbrev pub invariant-loop-done : goal.invariant-loop-done
invariant-loop-done l = record {
  inside : l.done ≤ length l.initial.values;
  count : length l.values ≡ length l.initial.values;
  each : (k : ℕ) → k < l.done → get_or l.values k (pos 0)
      ≡ low_64 (entry (table_in (layout_by (term_of l.mapping.expr) l.mapping.extents (schema_fields l.mapping.schema)) (length (indices l.mapping.extents)) l.mapping.holds l.blobs) (l.first + k) l.leaf);
  leads : 0 < l.done → leads l.short.walk ≡ true;
}

abbrev pub decreases-loop-done : goal.decreases-loop-done
decreases-loop-done l = length l.values - l.done
