-- What the proofs of this crate speak of.
pub use Rattle.record_dim.specs.Std.{cases_lt, ◌≡◌, ℕ, zero, suc, ◌+◌, ◌≤◌, List, [], ◌∷◌, ◌++◌, length, take, drop, map, ℤ, Option, Some, None, refl, sym, ap, ◌∙◌, arith, ◌<◌, Result, Ok, Err, ◌-◌, ◌^◌, Bool, true, false, fold, min, FitsSigned, pos, ◌+ℤ◌, subst, length-take, cond, get_or, to_z, w64, length-drop, ◌*◌, neg_ℤ, ◌≤ℤ◌, ◌/◌, ◌%◌, inl, inr, ◌*ℤ◌, rules, of_z, SFits, take-append-drop, length-map, map-append, map-id, take-map, take-take, take_all, append-nil, option_map, nat_le, if◌then◌else◌, option_or, w128, div_ceil, int_min, int_max, range_with_len, flat_map, Each1, zip2, take-add, Each1-chunk, Each1-get_or, Each1-weaker, map-map, zip2-map, flat_map-append, flat_map-cons, ints, to_z_pos, int_min_is, int_max_is, to_z-of_z, sum_by-append, count_by-le-length, fold-append, fold-map, add-div_right, add-mod_right, add-mul-div_right, div-eq_of_lt, mod-eq_of_lt, mul_comm, mul-add, mul-le-mul_left, mul-le-mul_right, nat_tests, common_steps, get_or_from_slice_get}
pub use Rattle.std.specs.Option.{unwrap_or}
pub use Rattle.std.specs.List.{count_by, sum_by, slice_get}
pub use Rattle.views.specs.Prelude.{Keeping, StoreAnswer, with_column, lane_fault, first_lane_fault, in_leaf, column, column_reads, IsNarrowLeaf, column_writes, stored_count, told_lane, raised, run_of, run_steps, run_fault, with_run, declared_within, raised_all, Table, IsTable, leaf_count_of, leaf_type_of, after_log, leaf_types_of, table_holds, owners_of, answer_of, kept_of, after_stores, after_log-append, after_log-none, after_stores-append, tallied-append, Access, Read, Write, Tally, tallied, tallied-kinds, swapped, apart}
pub use Rattle.views.specs.declared.fault.LaneFault.{LaneFault}
pub use Rattle.views.specs.declared.fault.StoreFault.{StoreFault}
pub use Rattle.record_dim.specs.declared.leaf_type.LeafType.{LeafType}
pub use Rattle.record_dim.specs.declared.leaf_type.LeafType.TheVariants.{U64, Bool as Truth}
pub use Rattle.record_dim.specs.Prelude.{width_of, IsDeclared, leaves, kinds_of, Fields}
pub use Rattle.piece_bits.specs.Prelude.{low_64, IsWithin64, SumsFit, narrow_sum_fits, products_fit, narrow_fits, hold_at, stays_declared, low_same}
pub use Rattle.places.specs.Prelude.{entry, Owner}
pub use Rattle.extents.specs.Indices.{indices}
pub use Rattle.lane_kernels.specs.Kernels.{Store, stored, run_rows, fault_named, answer_fault, kernel_store_fault, first_row_fault, rows_before, IsNarrow, Compare, compares, given_number, empty_fault, IsKernelRun, row_cost}
pub use Rattle.lane_kernels.specs.declared.kernel.Kernel.{Kernel}
pub use Rattle.lane_kernels.specs.Inner.KernelRows.{named_row, rows_done, number_so_far, AreNext, AreTaken, after_rows, IsOfNoRow, AreDone, fault_in}
pub use Rattle.lane_kernels.specs.declared.fault.KernelFault.{KernelFault}
pub use Rattle.lane_kernels.specs.Reductions.{reduced_by, with_more, extreme_with, CanAdd}
pub use Rattle.lane_kernels.specs.declared.reduce.Reduction.{Reduction}
pub use Rattle.lane_kernels.specs.declared.kernel.Kernel.TheVariants.{Axpy, Clamp, Sum, Least, Greatest, CountWhere}
pub use Rattle.lane_kernels.specs.Inner.Blocks.{step_of, IsAt, sixteens, cost}
pub use Rattle.lane_kernels.specs.Logs.{rows_read, reads_on, writes_on, kernel_rows_log, stopped_log, fault_log}
pub use Rattle.lane_kernels.specs.declared.fault.KernelFault.TheVariants.{Empty}
