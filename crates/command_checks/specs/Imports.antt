-- What this crate takes of others.
pub use Rattle.extents.specs.Indices.{product}
unfoldable pub use Rattle.extents.specs.Indices.{indices}
pub use Rattle.extents.specs.IndicesLaws.{length-indices}
pub use Rattle.extents.specs.ShapeLaws.{product_divided, product_fixed}
pub use Rattle.extents.specs.Shapes.{HasRows, IsShape, bad_extents, extents_for, fixed_product, is_rows}
pub use Rattle.extents.specs.Windows.{IsWindow}
pub use Rattle.extents.specs.declared.words.BadExtents.{BadExtents as Bad}
pub use Rattle.extents.specs.declared.words.ExtentWord.{ExtentWord}
pub use Rattle.lane_kernels.specs.Kernels.{IsFactor, IsKernelOf, IsNarrow}
pub use Rattle.layout_copy.specs.Copies.{AreAlike}
pub use Rattle.line_grammar.specs.declared.line.TermText.{TermText}
pub use Rattle.map_expr.specs.Checks.{IsNameless, bad_granule}
pub use Rattle.map_expr.specs.Terms.{Bytesplit, Byteswap, Change, Count, Heat, Named, Split, Term, Term as MapTerm, term_of}
pub use Rattle.map_expr.specs.declared.expr.MapExpr.{MapExpr}
pub use Rattle.record_dim.specs.Prelude.{Array, End, Field, Fields, Record, Single, Tree, both, kind_number, kinds_of, same_text, schema_fields, text_self}
pub use Rattle.record_dim.specs.Std.{BTreeMap, Global, ap, arith, cases_Bool, eq-eqb, eqb-true, false≢true, get, inl, inr, nat_cmp, nat_tests, pointwise, slice_cmp, subst, sym, ⊎_elim, ◌∙◌}
pub use Rattle.record_dim.specs.declared.leaf_type.LeafType.{LeafType}
pub use Rattle.record_dim.specs.declared.leaf_type.LeafType.TheVariants.{Bool as Truth, I16, I32, I64, I8, U16, U32, U64, U8}
pub use Rattle.record_dim.specs.declared.path.PathStep.{PathStep}
pub use Rattle.row_updates.specs.Rows.{IsBoundOver}
pub use Rattle.std.specs.List.{list_all, position_from, range_with_len}
pub use Rattle.std.specs.Option.{option_or}
pub use Rattle.subviews.specs.Plans.{IsTermOf, stencil_by}
pub use Rattle.subviews.specs.Stencils.{Stencil, Weighted, is_divisor, is_offset, is_weight, reaches, weighted}
pub use Rattle.views.specs.Prelude.{IsNarrowLeaf, IsOverLimits, Table, granules_for, leaf_count_of}
pub use Rattle.worlds.specs.Prelude.{Entry, Tested, all_reach, all_weigh, are_alike, are_bounds, are_lanes, asked, bound, bound_pass, compare_of, each, fit_advice, fit_kernel, fit_leaf, fit_stencil}
pub use Rattle.worlds.specs.Prelude.{fit_terms, fits, found, free, is_constant, is_factor, is_wide, known, leaf_of, leaves_at, leaves_under, live_bits, made, nameless, refused_if, removed, replaced}
pub use Rattle.worlds.specs.Prelude.{resolved, room, same_fields, same_name, same_tree, shaped, some_or, text_of_leaf, weighted_term, windowed, zeros_of, ◌>>=◌}
pub use Rattle.worlds.specs.declared.fault.CommandFault.TheVariants.{BadExtents, BadStencil, Taken, Unknown}
pub use Rattle.worlds.specs.declared.fault.UnknownName.TheVariants.{Name, Path}
pub use Rattle.map_any.proofs.Built.{built_nameless}
