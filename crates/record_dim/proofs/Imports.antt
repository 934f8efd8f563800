-- What the proofs of this crate speak of.
pub use Rattle.record_dim.specs.Std.{◌≡◌, ℕ, suc, zero, ◌+◌, ◌<◌, Bool, true, false, cond, ◌||◌, nat_eq, nat_lt, Some, None, List, [], ◌∷◌, ◌++◌, length, map, refl, sym, ap, ◌∙◌, subst, inl, inr, ◌⊎◌, arith, ◌*◌, ◌≤◌, Option, codes, append_assoc, min, ⊎_elim, add-one, not, ◌-◌, max, nat_le, rules, append-nil, map-append, length-map, map-id, length-append, pointwise, slice_cmp, texts_ties, list_any, flat_map, range_with_len, nat_tests, list_any-append, map-range_with_len_more, length-range_with_len, flat_map-append, cases_lt, or_right, cases_Bool, or_parts, nat_cmp, is_at, mul_comm, zero-mul, flat_map-cons, contains}
pub use Rattle.std.proofs.Common.{mul-le-mul_right}
pub use Rattle.std.specs.List.{slice_get}
pub use Rattle.record_dim.specs.declared.leaf_type.LeafType.{LeafType}
pub use Rattle.record_dim.specs.declared.path.PathStep.{PathStep}
pub use Rattle.record_dim.specs.declared.path.PathStep.TheVariants.{Name, At}
pub use Rattle.record_dim.specs.declared.dim.Dim.{Dim}
pub use Rattle.record_dim.specs.Trees.{Tree, Single, Record, Array, Fields, End, Field, tree_of, fields_of}
pub use Rattle.record_dim.specs.Leaves.{Leaf, under, leaves_of, leaves, paths_of, names_of, has_twice, shares_name, records_of, records_below, record_fault, depth_of, lengths_of, lengths_below, is_empty_record, kinds_of, texts_of, greatest_depth}
pub use Rattle.record_dim.specs.Nodes.{node_at, node_in, LeadsTo, leaves_before, leaves_before_in, behind, IsStretch, HasChild, HasField}
pub use Rattle.record_dim.specs.NameBytesLaws.{same_text, text_self, stored, name_utf8}
pub use Rattle.record_dim.specs.Paths.{step_text, path_text_of}
unfoldable pub use Rattle.record_dim.specs.Inner.Gathering.{node_kinds, node_texts, record_kinds, record_texts}
pub use Rattle.record_dim.specs.Names.{is_word}
pub use Rattle.record_dim.specs.declared.dim.FieldList.{the_lemmas, size-FieldList}
