-- What this crate takes of others.
pub use Rattle.actor_steps.specs.Prelude.{Fetch, IsByte, Job, Micro, all_bytes, bytes_in, changes, is_in, leaves_read, lets_through, owners_of_byte, places_of, row_steps, steps_of, stores_of}
pub use Rattle.actor_steps.specs.declared.place.Place.{Place}
pub use Rattle.places.specs.Prelude.{IsLaidOut, IsLocated, Owner, hot_place, in_granule, is_bit_of, is_in_granule, is_touched, touched_hot, within, within_blobs}
pub use Rattle.places.specs.declared.piece.Piece.{Piece}
pub use Rattle.row_updates.specs.Rows.{Setting}
pub use Rattle.std.specs.List.{flat_map, list_any, range_with_len, Contains}
pub use Rattle.std.proofs.Math.ListN.{get_or-append}
pub use Rattle.std.proofs.lemmas.List.{length-map, get_or-map, get_or-append_right, length-append, drop_all, drop_more}
pub use Rattle.std.proofs.lemmas.List.FromFn.{length-map-range_with_len, get_or-map-range_with_len, get_or-range_with_len, length-range_with_len}
pub use Rattle.std.proofs.lemmas.Bool.{cond-true, cond-false, and_right, false_from_ne_true, cases_lt, and_from}
pub use Rattle.std.proofs.lemmas.List.Elements.{All-head, All-tail, All-append, All-contains, All-nil, All-map, Contains-append_left, Contains-append_right}
pub use Rattle.std.proofs.Common.{arith}
pub use Rattle.std.proofs.lemmas.Bool.Decides.{nat_tests}
pub use Rattle.std.proofs.lemmas.List.Concat.{flat_map-append}
