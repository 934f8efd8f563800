-- What all crates take of the kit's library.
pub use Rattle.std.proofs.Common.{All, Bool, Contains, Err, FitsSigned, IfErr, IfSome, IsErr, IsSomeAnd, List, MatchBool, MatchOption, MutBor, None, Ok, OnOk, Option, Result, SFits, Some, [], add-one}
pub use Rattle.std.proofs.Common.{add-zero, ap, append-nil, append_assoc, arith, below_more, bit_and, bit_or, bit_xor, bytes_eq, codes, cond, count_by, drop, drop-cons, drop-drop, false, filter, fold}
pub use Rattle.std.proofs.Common.{get_or, get_or-drop, get_or-set_other, get_or-set_same, if◌then◌else◌, inl, inr, is_err, is_none, is_ok, is_some, length, length-append, length-drop, length-set}
pub use Rattle.std.proofs.Common.{length-take, lit<, lit≤, ltb, map, max, min, nat_eq, nat_le, nat_lt, neg_ℤ, negsuc, not, of_z, option_map, pos, refl, replicate, reverse, rules, set, slice_get}
pub use Rattle.std.proofs.Common.{slice_index, slice_index_or, slice_range, slice_set, string_bytes, subst, suc, sum_by, sym, take, take_all, tests, to_z, true, unwrap_or, vec_len, w32, w64, zero}
pub use Rattle.std.proofs.Common.{zero-add, ℕ, ℤ, ⊎_elim, ◌%◌, ◌&&◌, ◌*ℤ◌, ◌*◌, ◌++◌, ◌+ℤ◌, ◌+◌, ◌-ℤ◌, ◌-◌, ◌/◌, ◌<ℤ◌, ◌<◌, ◌==◌, ◌^◌, ◌||◌, ◌∙◌, ◌∷◌, ◌≡◌, ◌≢◌, ◌≤ℤ◌, ◌≤◌, ◌⊎◌}
pub use Rattle.std.proofs.Math.Bool.{and-true, or-false}
pub use Rattle.std.proofs.Math.Facts.{Fits-of_z}
pub use Rattle.std.proofs.Math.IntN.{nat_abs}
pub use Rattle.std.proofs.Math.ListN.{drop_of_length-le, get_or-append}
pub use Rattle.std.proofs.Math.Nat.{add-div_right, add-mod_right, add-mul-div_right, div-eq_of_lt, div-le_self, div-lt_iff_lt-mul, div-mul-le_self, div-one, div_self, le-max_left, le-max_right}
pub use Rattle.std.proofs.Math.Nat.{mod-eq-sub-mod, mod-eq_of_lt, mod-le, mod-lt, mod-one, mod_self, mul-add, mul-add-div, mul-div-le, mul-le-mul, mul-le-mul_left, mul-le-mul_right}
pub use Rattle.std.proofs.Math.Nat.{mul-lt-mul_of_pos_left, mul-mod_left, mul-sub, mul-suc, mul_assoc, mul_comm, pow-le-pow_right, pow-suc, suc-mul, zero-mul}
pub use Rattle.std.proofs.Math.Path.{fun_ext}
pub use Rattle.std.proofs.Math.Pow.{mod-mod-pow, pow-lt, pow_mono}
pub use Rattle.std.proofs.Math.Seq.{drop-length, get_or-append_seam, take-add, take-append_seam, take-length}
pub use Rattle.std.proofs.lemmas.Bool.{and_cases, and_from, and_left, and_parts, and_right, both_ways, cases_Bool, cases_eq, cases_lt, cond-false, cond-true, cond_both, eq-eqb, eqb-true}
pub use Rattle.std.proofs.lemmas.Bool.{false_from_ne_true, false≢true, le-leb, le-ltb, leb-false, leb-true, lt-leb, lt-ltb, ltb-false, ltb-true, ne_eqb, not-true, or_cases, or_from, or_left, or_parts}
pub use Rattle.std.proofs.lemmas.Bool.{or_right, true≢false}
pub use Rattle.std.proofs.lemmas.Bool.Decides.{Decides-and, Decides-eqb, Decides-like, Decides-ltb, Decides-not, Decides-or, nat_tests}
pub use Rattle.std.proofs.lemmas.Cmp.{nat_eq_equiv, nat_list_eq_equiv}
pub use Rattle.std.proofs.lemmas.Fmt.{decimal_by_steps_wide, decimal_digit, decimal_injective, decimal_is_IsNumeral_wide, digits_value-decimal, parse-decimal}
pub use Rattle.std.proofs.lemmas.Grind.{common_steps, div_ceil_times, flat_map-append, same_number_lists}
pub use Rattle.std.proofs.lemmas.Int.{fits_signed_from_abs, int_max_is, int_min_is, ints, of_z-to_z, quot-rem, to_z-of_z, to_z_pos, unsigned_abs-mul}
pub use Rattle.std.proofs.lemmas.Int.Digits.{digits_value_more}
pub use Rattle.std.proofs.lemmas.List.{append_cancel_right, at_drop_more, drop-append-le, drop-map, drop-replicate, drop-set, drop-set-lt, drop-take, drop_all, drop_at, drop_more, ext_get_or}
pub use Rattle.std.proofs.lemmas.List.{get_or-append-add, get_or-append_right, get_or-map, get_or-replicate, get_or-take, get_or_append_left, get_or_at, get_or_default, get_or_past, get_or_push}
pub use Rattle.std.proofs.lemmas.List.{get_or_read, length-map, length-replicate, length-reverse, length-take-le, length_push, map-append, map-id, map-set, map_more, map_push, nil_from_length}
pub use Rattle.std.proofs.lemmas.List.{replicate_more, reverse-append, reverse-reverse, same_lists, set-append_right, set-get_or, set-set, set_past, take-append-drop, take-append-le, take-map}
pub use Rattle.std.proofs.lemmas.List.{take-set-le, take-take, take_at, take_more, take_more_set, take_rest, with_items_is}
pub use Rattle.std.proofs.lemmas.List.Concat.{flat_map-cons, flat_map_single, get_or-flat_map}
pub use Rattle.std.proofs.lemmas.List.Edits.{get_or-remove_above, get_or-remove_below, length-remove, map_over_more}
pub use Rattle.std.proofs.lemmas.List.Elements.{All-append, All-cons, All-drop, All-get_or, All-head, All-map, All-nil, All-push, All-replicate, All-tail, All-weaker, AllZip-get_or, Contains-get_or}
pub use Rattle.std.proofs.lemmas.List.Elements.{filter-append, length_all_zip}
pub use Rattle.std.proofs.lemmas.List.Folds.{Any-from_list_any, find_at, flat_map-map, fold-map, length-flat_map-take, length-prefix_len, list_all-append, list_all-map, list_all_at, list_all_more}
pub use Rattle.std.proofs.lemmas.List.Folds.{list_any-append, list_any_at, list_any_more, list_any_none}
pub use Rattle.std.proofs.lemmas.List.FromFn.{get_or-enumerate_from, get_or-map-range_with_len, get_or-range_with_len, length-enumerate_from, length-map-range_with_len, length-range_with_len}
pub use Rattle.std.proofs.lemmas.List.FromFn.{map-range_with_len_more}
pub use Rattle.std.proofs.lemmas.List.Sorted.{All-permutation, IsPermutation-reverse}
pub use Rattle.std.proofs.lemmas.List.Splits.{slice_split-cons_no, slice_split-cons_yes, slice_split_at, slice_split_first, slice_split_none}
pub use Rattle.std.proofs.lemmas.List.Sums.{AllPass-from_list_all, count_by-le-length, count_by_more_no, count_by_more_yes, fails_before_first, fold-append, fold_more, get_or-le-sum_by, length-filter}
pub use Rattle.std.proofs.lemmas.List.Sums.{list_all-from_AllPass, passes_at_first, position_or_len_is, prefix_len-le-length, prefix_len_passes, sum-map, sum_by-append, sum_by-cons, sum_by-le-sum_by}
pub use Rattle.std.proofs.lemmas.List.Sums.{sum_by-take-le, sum_by_more, sum_by_more_le, sum_by_push}
pub use Rattle.std.proofs.lemmas.Map.Keys.{IsDistinct-push}
pub use Rattle.std.proofs.lemmas.Map.Steps.{length-le_from_distinct_below}
pub use Rattle.std.proofs.lemmas.Nat.{and_le_l, and_mask, div-add-mod', div-mul-add, le-div, le_or_l, le_or_r, mod-mul-add, mod-pow-add, mod_below, mod_low, mul-le, or_lt, pow-add, pow_pos, row_fits}
pub use Rattle.std.proofs.lemmas.Nat.{shl_below, shl_whole, shr-shr, shr_split, xor_block}
pub use Rattle.std.proofs.lemmas.Nat.Bits.{bit_at-lt, bit_at-trailing_zeros, bit_at-zero, bit_at_above, bit_at_and, bit_at_cat_high, bit_at_cat_low, bit_at_lowest, bit_at_mask_above}
pub use Rattle.std.proofs.lemmas.Nat.Bits.{bit_at_mask_below, bit_at_mask_inside, bit_at_not, bit_at_or, ones_shr, same_from_bits, shr_and_one}
pub use Rattle.std.proofs.lemmas.Option.{IfSome_then, get_or_from_slice_get, slice_get-get_or, slice_get_past, slice_get_within}
pub use Rattle.std.proofs.lemmas.Simd.{Each1-chunk, Each1-get_or, Each1-replicate, Each1-weaker, Each2-of, get_or-zip2, length-zip2, map-map, zip2-map}
pub use Rattle.std.proofs.lemmas.Slice.{take-put_mid}
pub use Rattle.std.proofs.lemmas.Slice.Eq.{bytes_eq-Decides, slice_eq-Decides}
pub use Rattle.std.proofs.lemmas.Slice.Zip.{AllZip-long}
pub use Rattle.std.proofs.lemmas.Str.{IsUtf8-from_ascii, digit_value_digit}
pub use Rattle.std.proofs.lemmas.Str.Parse.{digit_from_value, digits_value-take-le, numerals_by_value, tells_digits}
pub use Rattle.std.proofs.raw_atomic.Walks.{proved_at}
pub use Rattle.std.specs.BTreeMap.{BTreeMap, Updates, get, is_at}
pub use Rattle.std.specs.BTreeSet.{contains}
pub use Rattle.std.specs.Bool.{Decides, then_some}
pub use Rattle.std.specs.Borrow.{Bor}
pub use Rattle.std.specs.Box.Ownership.{box_owns}
pub use Rattle.std.specs.Char.{digit_value, is_ascii_alphabetic, is_ascii_alphanumeric, is_ascii_digit}
pub use Rattle.std.specs.Cmp.Lexicographic.{bytes_decides, pointwise, pointwise_decides, slice_cmp, texts_ties}
pub use Rattle.std.specs.Cmp.Rules.{signed_items}
pub use Rattle.std.specs.Coded.{Coded, Unit-prop, coded_list, coded_option, coded_ℕ, coded_ℤ, le_prop, ×_prop}
pub use Rattle.std.specs.Fmt.{decimal, signed_decimal}
pub use Rattle.std.specs.Global.{Global}
pub use Rattle.std.specs.Int.{bit_at, bit_not, byte_at, bytes_high_first, bytes_low_first, cast_signed, cast_unsigned, div_ceil, int_max, int_min, is_in_range, trailing_zeros, w128}
pub use Rattle.std.specs.Iterator.Adapters.{zip_first, zip_second}
pub use Rattle.std.specs.List.{AllByRecursion, AllPass, IsDistinct, enumerate_from, find, flat_map, insert, list_all, list_any, onto_first, position_from, position_or_len, prefix_len, range_with_len}
pub use Rattle.std.specs.List.{remove, slice_split, sum}
pub use Rattle.std.specs.Option.{option_copied, option_map_or, option_or}
pub use Rattle.std.specs.Ordering.{int_cmp, int_eq, is_le, is_some_and, nat_cmp}
pub use Rattle.std.specs.Prelude.{IfOk, IsSome, MatchResult, OnErr, int_div, int_le, unsigned_abs, ⊤}
pub use Rattle.std.specs.Result.{IsErrAnd, IsErrOf, result_unwrap_or}
pub use Rattle.std.specs.Simd.Lanes.{Each1, Each2, zip2}
pub use Rattle.std.specs.Slice.Iter.{iter_rest}
pub use Rattle.std.specs.Str.{IsUtf8, byte}
pub use Rattle.std.specs.Str.Parse.{AllDigits, ParsesUnsigned, digits_value, digits_value_after}
