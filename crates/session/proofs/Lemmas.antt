-- The lemmas of this crate that answers cite.
pub use Rattle.session.proofs.Imports.{rules, ◌≡◌, Err, ◌⊎◌, ◌<◌, ◌∙◌, length, Some, None, inl, inr, ⊎_elim, sym, ap, Rose, file_named, IsMissing, ◌^◌, ℕ, false, List, New, Table, read, ◌>>=◌, Named, named, World, goes_then, named_of, new_of, filled_table, world_in, Ok, refl, sure, map, view_of, ◌*◌, subst, live_bits, Answers, Stands, world_of, stencil_run, view, Gives, left_of, Left, GivesUp, GivesUp-then, IsAt, known_place, Tested, goes_gives, Bool, true, File, Goes, quiet, with_view, Loads, UnreadOnly, ToldFor, ◌+◌, free, room, placed_table, [], term_of, Entry, known_at, ViewEntry, laid_pair, sentence_of, Line, step, command, no_file, file_read_by, known, AreLeft, gave_up}
pub use Rattle.session.proofs.Copies.{AreApart, apart_not, apart_to, are_apart, copied_goes, copy_refused, first_of, copy_in, laid_at, made_at}
pub use Rattle.session.proofs.CopySteps.{apart_within, copy_steps, copy_within, no_copy, laid_within, none_taken}
pub use Rattle.session.proofs.Reading.{file_there, file_missing, was_read, was_unread, was_long, IsOf, within_first, before_reading, told_of, loads_of, unloads_of, unread_of, unread_test, unread_gives, after_load, unread_after, told_first}
pub use Rattle.session.proofs.Opening.{placed_gives, placed_refused}
pub use Rattle.session.proofs.Steps.{line_left, line_shows, line_gives, steps_read, steps_shown, cause_shown, unread_read, unread_shown, untaken_quiet, untaken_shown}
pub use Rattle.session.proofs.Named.{gives_up_still, table_changed}
pub use Rattle.session.proofs.Views.{session_left, view_worked}
unfoldable pub use Rattle.session.proofs.Imports.{copy, laid_anew, load, loaded_table, on_view, open_view, opened_beside, opened_table, relayout}
