-- What a bound expression shows: its term over numbers of leaves, and the number of leaves and the rank that it asks for.
use Rattle.std.specs.Prelude.{◌≡◌, ℕ, List, length}
use Rattle.record_dim.specs.declared.path.PathStep.{PathStep}
use Rattle.record_dim.specs.Prelude.{Fields, leaves, paths_of}
use Rattle.expr_lang.specs.declared.bound.Bound.{Bound}
use Rattle.expr_lang.specs.Terms.{Term}
use Rattle.expr_lang.specs.Chains.{chain_term}
use Rattle.expr_lang.specs.Binding.{numbered}

abbrev pub bound_term : Bound → Term ℕ
bound_term bound = chain_term bound.chain

abbrev pub bound_leaves : Bound → ℕ
bound_leaves bound = bound.leaves

abbrev pub bound_rank : Bound → ℕ
bound_rank bound = bound.rank

-- it is the term with the number of its leaf in place of each path, for the leaves of this record and this rank
pub record IsBoundTo (fields : Fields) (rank : ℕ) (term : Term (List PathStep)) (bound : Bound) : Type 0 where
  pub term_is : bound_term bound ≡ numbered (paths_of fields) term
  pub leaves_are : bound_leaves bound ≡ length (leaves fields)
  pub rank_is : bound_rank bound ≡ rank
