-- The lemmas that the search tries at goals with no answer of their own.
use Rattle.map_bits.proofs.Arrays.{bits_all, blob_count_is}
use Rattle.map_bits.proofs.Imports.{kept_are, narrow_more, not_dense, slice_index}
use Rattle.map_bits.proofs.Slots.{begin_at, begins_each, bound_is, stored_all}
use Rattle.map_bits.proofs.Widths.{taken_is}
use Rattle.std.proofs.lemmas.Grind.{common_steps}

pub ruleset steps = (common_steps, bits_all, blob_count_is, kept_are, narrow_more, not_dense, slice_index, begin_at, begins_each, bound_is, stored_all, taken_is)
