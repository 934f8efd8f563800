-- What this crate takes of others.
pub use Rattle.expr_lang.specs.Prelude.{IsRight, IsSafe, IsStepSafe, IsStepWithin, IsWithin, IsWorthIn, Term, bound_leaves, bound_rank, bound_term, chain_term, is_true, operand_term, outcome_of}
pub use Rattle.expr_lang.specs.declared.bound.Bound.{Bound}
pub use Rattle.expr_lang.specs.declared.bound.Step.{Step}
pub use Rattle.expr_lang.specs.declared.fault.EvalFault.{EvalFault}
unfoldable pub use Rattle.extents.specs.Indices.{indices}
pub use Rattle.linearize.specs.Slots.{index_at}
pub use Rattle.record_dim.specs.Prelude.{Fields, IsDeclared, Leaf, is_signed, kinds_of, leaves}
pub use Rattle.record_dim.specs.Std.{Bor, ap, append-nil, append_assoc, arith, flat_map, range_with_len, sym, ◌∙◌}
pub use Rattle.views.specs.Prelude.{Access, Keeping, Read, StoreAnswer, Table, Write, after_log, after_stores, answer_of, in_leaf, kept_of, leaf_count_of}
pub use Rattle.views.specs.declared.fault.StoreFault.{StoreFault}
