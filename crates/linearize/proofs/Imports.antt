-- What the proofs of this crate speak of.
pub use Rattle.std.proofs.Common.{◌≡◌, ℕ, ◌+◌, ◌*◌, ◌/◌, ◌%◌, ◌<◌, sym, ap, ◌∙◌, arith, ◌≢◌, zero, suc, ◌-◌, ◌^◌, ◌≤◌, max, cond, eqb, ltb, List, [], ◌∷◌, length, get_or, ⊎_elim, lit<, min, true, refl, take, ◌⊎◌, Bool}
pub use Rattle.std.proofs.Math.Nat.{mul_comm, mul_assoc, mul-add, mod-lt, mul-div-mul_right, mod-eq-sub-div-mul, div-mul-le_self, pow-le-pow_right, mod-eq_of_lt}
pub use Rattle.std.proofs.lemmas.Nat.{div-mul-add, mul-add-lt, div-add-mod', mod-mul-add, mod_below, mul-le, le-div, pow_pos, pow_below, and_le_r, and_mask, shr_split}
pub use Rattle.std.specs.Prelude.{fold, nat_le, bit_or, bit_and, reverse, IsSomeAnd, Some, slice_get}
pub use Rattle.std.specs.Int.{bit_at}
pub use Rattle.std.specs.Int.Bits.{or_zero_l}
pub use Rattle.std.specs.List.{position_or_len, range_with_len, list_all}
pub use Rattle.std.proofs.lemmas.Bool.{cases_lt, cases_eq, cond-true, cond-false, lt-leb, le-leb, lt-ltb, le-ltb, eq-eqb, ne_eqb, cond_both, eqb-true, eqb-false, ltb-true, ltb-false, leb-true, false≢true}
pub use Rattle.std.proofs.lemmas.List.Elements.{length_all_zip, All-get_or}
pub use Rattle.std.proofs.lemmas.List.FromFn.{length-range_with_len}
pub use Rattle.std.proofs.lemmas.List.Sums.{position_or_len_is, AllPass-from_list_all}
pub use Rattle.std.proofs.lemmas.Nat.Bits.{bit_at-zero, bit_at_or, same_from_bits, bit_at_and, bit_at_above, bit_at_cat_low, bit_at_cat_high, bit_at-lt}
pub use Rattle.std.proofs.lemmas.Grind.{pow_more, reverse_onto}
pub use Rattle.std.proofs.lemmas.List.{take_more, reverse-append, take_all}
pub use Rattle.std.specs.Iterator.Adapters.{zip_first, zip_second}
pub use Rattle.std.specs.Slice.Iter.{iter_rest}
pub use Rattle.extents.specs.Indices.{IsInside, indices, product}
pub use Rattle.extents.specs.RowLaws.{IsRowSoFar, row_turn, IsRowSoFar-none, row_end, row_so_far_le}
pub use Rattle.extents.specs.IndicesLaws.{place, place_below, slice_get-place, length-indices, row_of_inside}
pub use Rattle.extents.specs.ShapeLaws.{product-push}
pub use Rattle.extents.specs.declared.order.Order.{Order}
pub use Rattle.extents.specs.declared.order.Order.TheVariants.{Row, Col}
pub use Rattle.linearize.specs.Slots.{interleaved, place_in, slot_of, slot_count, row_at}
unfoldable pub use Rattle.linearize.specs.Slots.{digits_for}
pub use Rattle.linearize.specs.Inner.Spreads.{IsSpread}
pub use Rattle.linearize.specs.MortonLaws.{self_lt_pow, at_own_place, component_fits, digits_enough, digit_of, bit_at-interleaved, below_from_digits}
pub use Rattle.linearize.specs.SlotsLaws.{place_in_is, row_at-slot_of, IsInside-reverse, slot_below, same_index}
