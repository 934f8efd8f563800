-- What the proofs of this crate speak of.
pub use Rattle.record_dim.specs.Std.{◌≡◌, ℕ, ℤ, List, ◌++◌, Result, Ok, Err, refl, sym, ap, ◌∙◌, append_assoc, subst, arith, ◌≤◌, cond, Option, Some, None, [], ◌∷◌, is_some, ◌<◌, Bool, true, false, nat_lt, length, MatchOption, unwrap_or, fold, ◌^◌, get_or, pos, neg_ℤ, not, ◌+◌, ◌-◌, min, max, append-nil, length-map, option_or, ltb-true, slice_get_within, common_steps}
pub use Rattle.std.specs.List.{slice_get}
pub use Rattle.record_dim.specs.declared.path.PathStep.{PathStep}
pub use Rattle.record_dim.specs.Prelude.{paths_of, leaves, schema_fields}
pub use Rattle.expr_lang.specs.declared.fault.EvalFault.{EvalFault}
pub use Rattle.expr_lang.specs.declared.bound.Links.{Links, size-Links}
pub use Rattle.expr_lang.specs.declared.bound.Step.{Step}
pub use Rattle.expr_lang.specs.Terms.{Term, IsWithin, Number, Entry, Index, Neg, Not, Binary, term_of, depth_of}
pub use Rattle.expr_lang.specs.Values.{Outcome, no_read, after_reads, then_from, ◌>>=◌, outcome_of, truth, is_true}
pub use Rattle.expr_lang.specs.Chains.{step_term, links_term, step_outcome, links_outcome, IsStepWithin, AreWithin, chain_term}
pub use Rattle.expr_lang.specs.Inner.Mosts.{IsMost, IsStepMost}
pub use Rattle.expr_lang.specs.ChainLaws.{within_front, within_links, within_rest, no_deeper}
pub use Rattle.expr_lang.specs.declared.expr.BinOp.{BinOp}
pub use Rattle.expr_lang.specs.declared.expr.Expr.{Expr, size-Expr}
pub use Rattle.expr_lang.specs.declared.expr.Expr.TheViews.{deep-Binary'}
pub use Rattle.expr_lang.specs.declared.fault.BindFault.{BindFault}
pub use Rattle.expr_lang.specs.declared.binding.Unknown.{Unknown}
pub use Rattle.expr_lang.specs.Binding.{leaf_number, unknown_path, numbered, unknowns}
pub use Rattle.expr_lang.specs.Inner.Unknowns.{told}
pub use Rattle.expr_lang.specs.BindingLaws.{IsAbsent, IsAt, found, leaf_number_is}
pub use Rattle.expr_lang.specs.declared.bound.Link.{Link}
pub use Rattle.expr_lang.specs.Inner.Exacts.{exact_by}
