-- What the proofs of this crate speak of.
pub use mathlib.Core.List.{List, [], ◌∷◌}
pub use seplogic.Ra.Ura.{Ura}
pub use base.Fml.{Lft, Share, ftrue, flft}
pub use contract.BorrowLft.{◌⊑◌}
pub use contract.Monad.{fact}
pub use types.Kit.{Item, ‵, raw, ◌⊛◌}
pub use Rattle.std.proofs.BoxSteps.Form.{Bx, box_ty}
pub use Rattle.line_grammar.specs.Prelude.{Sentence}
pub use Rattle.views.specs.Prelude.{Table}
pub use Rattle.c_lines.specs.Prelude.{Answer, Tells, given_or, on_held, fault_of, on_box, gathered, reads_signed, code_of, blob_told, buffer_after, needed_after, put_told, view_line, lent, ReturnsSame, printed, record_line, file_told, is_do, is_kernel, answer_map, TellsPlaces, after_relaid, relaid, done_of, after_return, returned, loaded, described, opened_told}
pub use Rattle.c_lines.specs.declared.refusal.Fault.{Fault}
pub use Rattle.c_lines.specs.declared.refusal.Refusal.TheVariants.{NoView, NoMemory}
pub use Rattle.llama_c.specs.Calls.{IsCallDone, IsLineDone, IsLineTold, IsMade, IsPutInto, TellsPlacesOf}
pub use mir.Syntax.{impl, tnil, dnil}
pub use denote.RattleType.{RattleType}
pub use lib.Dec.{T, lit<}
pub use mir.Val.{vstruct, vcons, vnil, has_ty, WT}
pub use Rattle.std.proofs.ResultValues.{and_tt}
pub use Rattle.std.proofs.alloc.Calls.{Fits, α}
pub use denote.Signature.{plain}
pub use Rattle.std.specs.contracts.impls.GlobalAllocator.TheImpl.{ghosts, dict}
pub use Rattle.std.proofs.VecSteps.Shapes.{after}
pub use Rattle.std.proofs.boxed.Box.from_raw.Met.{met}
pub use Rattle.record_dim.specs.Std.{length, rules, Option, ap, ◌∙◌, SFits, w32, to_z-of_z, Ok, subst, IfSome, Contains, Err, refl}
pub use Rattle.record_dim.specs.Prelude.{texts_of}
