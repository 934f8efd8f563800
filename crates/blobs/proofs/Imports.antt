-- What the proofs of this crate speak of.
pub use Rattle.record_dim.specs.Std.{◌≡◌, ℕ, ◌+◌, ◌<◌, ◌≤◌, List, length, get_or, take, drop, sym, ◌∙◌, arith, zero, suc, ◌*◌, ◌-◌, ◌/◌, ◌%◌, ◌^◌, refl, ap, subst, ⊎_elim, set, length-set, same_lists, get_or-take, get_or-drop, get_or_default, length-take, length-drop, get_or_append_left, get_or-append_right, length-append, bit_at, byte_at, bytes_low_first, bytes_high_first, cases_lt, pow-add, bit_at-lt, bit_at_above, bit_at_cat_low, bit_at_cat_high, pow-suc, div-one, common_steps}
pub use Rattle.std.proofs.Common.{mod-eq_of_lt}
pub use Rattle.byteorder.specs.Endian.{little_from}
pub use Rattle.places.specs.Prelude.{number, number_same, number_bits, number_lt, bit_number}
pub use mathlib.Core.Bool.{Bool, true, false}
pub use mathlib.Core.List.{[], ◌∷◌, ◌++◌}
pub use lib.Dec.{T, lit<}
pub use seplogic.Ra.Ura.{Ura}
pub use mir.Syntax.{w64, Fn, ty_unit, ty_array, Body, named}
pub use mir.Val.{Val, vint, vptr, vstruct, vnil, of_list, has_ty, WT, vunit, vcons}
pub use base.Logic.{SProp, ent, sep, ex, guard, emp, id⊢}
pub use base.Fml.{Lft, Share, ftrue, fsep, flft, froom, Incl-trans}
pub use prog.Memory.{Memory, align, capped}
pub use prog.Routine.{Routine}
pub use types.Logic.{Logic, sem}
pub use contract.BorrowLft.{◌⊑◌}
pub use contract.Monad.{Fun, fact, fact_i}
pub use types.Kit.{Goal, Step, step, Seq, Item, ‵, raw, ◌⊛◌, some, later, ◌$◌, ◌∵◌, !, qed, move, keep, use0, use1, split, join, pick, rewrite, fsplit, fjoin, fjoin3, fpick, feq_i, feq_l, flt_i, flt_l, check, show, await, updating, now, done, given, at_ret, use2, use3, learn, fsplit3, suffices, Post as After, any_q, by, fpack}
pub use denote.RattleType.{RattleType, owns, Valss}
pub use denote.Param.{layout}
pub use denote.RawPtr.{Ptr, RawPtr, block_ptr, in_block}
pub use denote.Builtin.{usize, RefOf}
pub use denote.Shadow.{pure_i}
pub use denote.Steps.{only, heard, nothing}
pub use denote.Struct.Struct.{Struct, Struct-Makes, within}
pub use denote.Struct.Owning.{shape}
pub use denote.Struct.Tuple.{Tuple, tuple_type}
pub use denote.Triple.Spec.{triple_of, Meets}
pub use denote.Triple.Statement.{Contract, Triple}
pub use Rattle.core.specs.Mem.Slots.Ownership.{slots, owned, Filled}
pub use Rattle.core.specs.Mem.Slots.{slots_items, slots_filled, slots_ptr, slots_len, SamePlaces}
pub use Rattle.core.proofs.alloc.Calls.{Al, token, gives_key, Gives, at_gives, Gives-goes, Gives-Gives, Answer-typed, takes_key, Takes, at_takes, Answered, Takes-goes, Takes-gives, answers}
pub use Rattle.core.proofs.slots.Leases.{lease_val, block_ty, P, uncapped, block_size, block_align, args}
pub use Rattle.core.proofs.mem.Param.{El, el_x, R, elτ}
pub use Rattle.core.proofs.slots.Places.{sz, to_room, of_room}
pub use Rattle.core.proofs.slots.Opens.{Sr, words_val, row_val, row_had, row_made}
pub use prog.Capped.{capped_fits}
pub use mir.MapTy.{inst_fn}
pub use prog.Wp.{Env, WpFn, Tables, Wp, after_seq, at_return}
pub use contract.Running.{tables}
unfoldable pub use contract.Running.{tables_of}
pub use denote.Signature.{plain, types_at}
pub use denote.Triple.Clauses.{Clauses, Ended, closing}
pub use denote.Triple.Table.{entered}
pub use sound.WpLaws.{fm_of, WpFn-mono}
pub use types.Part.{whole, sub, agg}
pub use types.Run.{stop, fld, size_word, align_word, unit_lit, no_more, and_then, of_opd, bin, first, blocks, exec, returns, enter, lit, switches_on}
pub use types.ByLocal.{alloc_all, pass_all, free_all, look_at, get, get_in, is, sets, lands_last, env, get_tag, sets_last, lands_as}
pub use denote.Exit.{yes, no}
pub use denote.Triple.Call.{calls_at_last, calls_at}
pub use denote.Triple.Walked.{Stays, stay_dropped, walk_of, ends_at, Goes-dropped, walk_Meets, says, walked}
pub use Rattle.core.proofs.slots.Bodies.{after, head, arm_body}
pub use lib.ListN.{replicate, length-replicate}
pub use types.Match.{live, vrt, in_variant}
pub use denote.Laws.{Is}
pub use denote.Plain.{uint_vals, uint_Tells}
pub use denote.Ref.{shr_vals, shr_Tells}
pub use denote.Enum.Row.{tagged_with}
pub use denote.Enum.Enum.{form_of, in_a_row}
pub use denote.Triple.Entry.{alive}
pub use Rattle.core.specs.Result.{IfOk}
pub use Rattle.core.specs.declared.result.Result.TheVariants.{Ok, Err}
pub use Rattle.blobs.specs.Bits.{bit_of, AreBytes}
pub use Rattle.blobs.specs.Turned.{turned_from, turned_place}
pub use Rattle.blobs.specs.BytesLaws.{bit_of_byte, bit_of_part, IsPut, byte_and_bit, place_is, read_step, read_fits, put_more}
pub use Rattle.blobs.specs.FieldsLaws.{past_end, field_put, field_read}
pub use Rattle.blobs.specs.WordsLaws.{read_field, field_inside, field_before, field_after, field_small}
pub use Rattle.blobs.specs.Moves.{IsMoved}
pub use Rattle.blobs.specs.MovesLaws.{moved_bytes, moved_more}
pub use Rattle.blobs.specs.Held.{IsLeaseOf}
pub use Rattle.blobs.specs.contracts.memory.release.Key.{name as #self}
