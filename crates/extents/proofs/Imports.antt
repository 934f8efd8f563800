-- What the proofs of this crate speak of.
pub use Rattle.std.proofs.Common.{◌≡◌, length, ap, ◌∙◌, sym, subst, arith, rules, List, ℕ, Iter, inl, inr, ⊎_elim, ◌++◌, ◌≤◌, map, take, length-take, ◌<◌, ◌^◌, All, get_or, ◌≢◌, ◌/◌}
pub use Rattle.std.specs.Prelude.{slice_get, ◌↔◌, count_by, unwrap_or, IsSomeAnd}
pub use Rattle.std.specs.Iterator.Adapters.{zip_first, zip_second}
pub use Rattle.std.specs.Slice.Iter.{iter_rest}
pub use Rattle.std.proofs.lemmas.List.{length-map, take_all, map_more}
pub use Rattle.std.proofs.lemmas.List.Elements.{All-set}
pub use Rattle.std.proofs.lemmas.Option.{slice_get_within}
pub use Rattle.std.specs.List.{list_any}
pub use Rattle.std.proofs.lemmas.Bool.{false_from_ne_true, false≢true}
pub use Rattle.extents.specs.Indices.{IsInside, product}
pub use Rattle.extents.specs.Windows.{Span, moved, IsWindow, sizes}
pub use Rattle.extents.specs.WindowLaws.{window_count, window_row, window_once, moved_inside, inside_narrow, inside_length, moved_whole, push_room, AreNarrow, fixed_size, same_rank, product_le, span_ordered, fixed_extents}
pub use Rattle.extents.specs.IndicesLaws.{length-indices, decides_member, inside_of_entry, same_row, place}
pub use Rattle.extents.specs.Shapes.{extent_of, is_rows, extents_for, fixed_product, IsUneven, IsUnequal}
pub use Rattle.extents.specs.declared.words.ExtentWord.{ExtentWord}
pub use Rattle.extents.specs.Stored.{padded}
pub use Rattle.extents.specs.ShapeLaws.{padded_more, IsStored_from, product_more, power_more, same_fixed, product_fixed, product_divided, fixed_positive, settled, settled_too_many, settled_first}
pub use Rattle.extents.specs.RowLaws.{IsIndexSoFar-more, index_all, IsIndexSoFar, row_turn, row_end, row_so_far_le, place_fits, place_is_row, IsRowSoFar}
