-- The lemmas that the search tries at goals with no answer of their own.
use Rattle.leaf_places.proofs.Leading.{ahead_of, all_from, as_many, below_of, from_first, leaves_later, none_some, place_same, some_bits, some_later, sought_some, stands_so, way_of}
use Rattle.leaf_places.proofs.Placing.{along_of, cell_in, hold_of, owned_so, placed, sought_of}
use Rattle.leaf_places.proofs.Shorts.{columns_spot}
use Rattle.leaf_places.specs.Spots.{spot_by}
use Rattle.places.specs.Prelude.{within_blobs}
use Rattle.record_dim.specs.Std.{below_more, common_steps, get_or, get_or_from_slice_get, length, map, slice_index}

pub ruleset steps = (ahead_of, all_from, as_many, below_of, from_first, leaves_later, none_some, place_same, some_bits, some_later, sought_some, stands_so, way_of, along_of, cell_in, hold_of, owned_so, placed, sought_of, columns_spot, spot_by, within_blobs, below_more, common_steps, get_or, get_or_from_slice_get, length, map, slice_index)
