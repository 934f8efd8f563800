-- What other crates take of this one.
pub use Rattle.expr_lang.specs.Binding.{leaf_number, numbered, unknowns}
pub use Rattle.expr_lang.specs.BindingLaws.{leaf_number_is}
pub use Rattle.expr_lang.specs.Bounds.{bound_leaves, bound_rank, bound_term}
pub use Rattle.expr_lang.specs.ChainLaws.{no_deeper, one_more, safe_front, safe_rest, safe_steps, within_front, within_links, within_rest}
pub use Rattle.expr_lang.specs.Chains.{AreWithin, IsStepWithin, chain_term, links_term, operand_term, step_term}
pub use Rattle.expr_lang.specs.ExactsLaws.{worth}
pub use Rattle.expr_lang.specs.Inner.Exacts.{IsSafe}
pub use Rattle.expr_lang.specs.Inner.Steps.{AreStepsSafe, IsRight, IsStepFit, IsStepSafe, IsWorthIn, stepped}
pub use Rattle.expr_lang.specs.StepLaws.{step_fits, step_worth}
pub use Rattle.expr_lang.specs.Terms.{Binary, Entry, Index, IsWithin, Neg, Not, Number, Term, depth_of, term_of}
pub use Rattle.expr_lang.specs.Values.{Outcome, after_reads, decided, is_true, no_read, outcome_of, ranged, result_of, then_from, truth, unless_decided}
