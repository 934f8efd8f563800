-- What the three walks of the part cite, and the box whose pointer it keeps.
use Rattle.llama_c.proofs.Imports.{impl, tnil, dnil, [], RattleType, T, lit<, vstruct, vcons, vnil, has_ty, WT, box_ty, and_tt, Fits, α, plain, Bx, ghosts, dict}
use Rattle.std.specs.contracts.alloc.Global as heap
use Rattle.std.proofs.alloc.Global.TheLaws as heap_laws
use Rattle.views.specs.contracts.view.View as view
use Rattle.views.proofs.view.View.TheLaws as view_laws
use Rattle.llama_c.specs.contracts.box_parts.Parts as parts
pub use mathlib.Core.Path.{◌≡◌, refl, sym, subst, ap}
pub use mathlib.Core.List.{List, [], ◌∷◌, ◌++◌}
pub use Rattle.record_dim.specs.Std.{Option, Some, None, IsSome, false≢true, proved_at}
pub use mir.Val.{Val}
pub use base.Logic.{emp, id⊢}
pub use base.Fml.{ftrue, fsep}
pub use prog.Wp.{WpFn}
pub use contract.Monad.{fact}
pub use contract.Running.{tables}
pub use types.Kit.{‵, raw, ◌⊛◌, prop, ◌$◌, ◌∵◌, !, qed, move, drop, use1, join, split, regoal, rewrite, fsplit, fjoin, fpick, feq_i, feq_l, fpack, suffices, done}
pub use types.Part.{whole, sub, agg}
pub use types.Run.{stop, fld, no_more, and_then, of_opd, returns, enter}
pub use types.ByLocal.{alloc_all, pass_all, free_all, look_at, get, get_in, sets}
pub use denote.Exit.{yes}
pub use denote.RattleType.{Valss}
pub use denote.RawPtr.{Ptr, RawPtr, ptr_val, block_ptr, null_ptr, rawptr_Lawful}
pub use denote.Signature.{plain}
pub use denote.Steps.{heard, nothing}
pub use denote.Struct.Struct.{within}
pub use denote.Struct.Owning.{shape, to}
pub use denote.Triple.Walked.{says, Stays, stay_dropped, walk_of, ends_at, Goes-dropped}
pub use Rattle.std.proofs.alloc.Calls.{handle_tells}
pub use Rattle.std.proofs.BoxSteps.Form.{D, B, word, box_typed}
pub use Rattle.std.proofs.BoxSteps.Steps.{box_out, box_in}

-- a box of a view
abbrev pub E : Bx
E = record { row = view.the_row; laws = view_laws.the_row_laws; al = record { row = heap.the_row; laws = heap_laws.the_row_laws; g = ghosts; d = dict; drops = impl [] tnil dnil } }

-- its parts
abbrev pub Taken : RattleType
Taken = parts.the_row view.the_row heap.the_row ghosts

-- the value of an option that has one
pub value_in : {A : Type 0} (held : Option A) → IsSome held → (x : A) × (held ≡ Some x)
value_in None full = absurd (false≢true full)
value_in (Some x) full = (x, refl)

-- a pointer, be it null, and a handle as one machine value
abbrev pub packed : Ptr → Val → Val
packed at hv = vstruct (vcons (ptr_val at) (vcons hv vnil))

pub packed_typed : (at : Ptr) (hv : Val) → Fits E.al hv → T (has_ty (box_ty E) (packed at hv)) × WT (packed at hv)
packed_typed (block_ptr b o) hv fits = box_typed E hv b o fits
packed_typed null_ptr hv fits = (and_tt (has_ty (α E.al) hv) fits.0, (record { fits = lit< tt }, (fits.1, tt)))
