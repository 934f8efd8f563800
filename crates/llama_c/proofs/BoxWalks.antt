-- What the two walks of the parts of a box cite, and what both are handed: the tokens of the two type parameters' lifetimes, and how long these live.
use Rattle.llama_c.proofs.Imports.{List, [], ◌∷◌, Ura, Lft, Share, ftrue, flft, ◌⊑◌, fact, Item, ‵, raw, ◌⊛◌, Bx}
pub use mathlib.Core.Path.{◌≡◌, refl, sym, subst, ap, ◌∙◌}
pub use mathlib.Core.List.{List, [], ◌∷◌, ◌++◌}
pub use lib.Dec.{T}
pub use mir.Syntax.{Fn, Args, a_type, dcons, dnil}
pub use mir.MapTy.{inst_fn}
pub use mir.Raw.{raw as bare}
pub use mir.Val.{Val, vptr, vstruct, of_list, has_ty, WT}
pub use base.Logic.{id⊢, never, fst∗}
pub use base.Fml.{ftrue, fsep, flft}
pub use prog.Wp.{WpFn}
pub use types.Logic.{sem}
pub use contract.Monad.{fact}
pub use contract.Running.{tables}
pub use types.Kit.{Item, ‵, raw, ◌⊛◌, some, later, prop, at_ret, ◌$◌, ◌∵◌, !, qed, move, drop, use1, join, split, split3, pick, rewrite, regoal, fsplit, fjoin, fpick, feq_i, feq_l, suffices, await, done}
pub use types.Part.{whole, sub, agg}
pub use types.Run.{stop, fld, no_more, and_then, of_opd, returns, enter, first, blocks, exec}
pub use types.ByLocal.{alloc_all, pass_all, free_all, look_at, get, get_in, sets, lands_as, lands_last, env}
pub use denote.Exit.{no}
pub use denote.Param.{bounded}
pub use denote.RawPtr.{Ptr, RawPtr, block_ptr, null_ptr, ptr_val, in_a_block}
pub use denote.Signature.{plain}
pub use denote.Steps.{heard, nothing, only}
pub use denote.Struct.Tuple.{Tuple}
pub use denote.Triple.Call.{calls_at, calls_at_last}
pub use denote.Triple.Spec.{triple_of}
pub use denote.Triple.Table.{framed}
pub use denote.Triple.Walked.{says, Stays, stay_dropped, walk_of, ends_at}
pub use Rattle.std.proofs.alloc.Calls.{token, handle_tells, Goes-blank}
pub use Rattle.record_dim.specs.Std.{proved_at, box_owns}
pub use Rattle.std.proofs.BoxSteps.Form.{Bx, D, τ, R, P, B, word, box_typed}
pub use Rattle.std.proofs.BoxSteps.Steps.{box_out, box_in}

module _ (E : Bx) {M : Type 1} (𝓤 : Ura M) where
  abbrev pub tokens : Lft × (Lft × Unit {0}) → Share × (Share × Unit {0}) → Item 𝓤
  tokens κs qs = ‵ (flft κs.0 qs.0) ⊛ ‵ (flft κs.1.0 qs.1.0) ⊛ ‵ ftrue

  abbrev pub alive : Lft × (Lft × Unit {0}) → Item 𝓤
  alive κs = raw (fact 𝓤 (κs.0 ⊑ E.row.lives)) ⊛ raw (fact 𝓤 (κs.1.0 ⊑ E.al.row.lives)) ⊛ ‵ ftrue
