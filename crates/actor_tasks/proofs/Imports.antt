-- What the proofs of this crate speak of.
pub use Rattle.actor_tasks.specs.Imports.{Piece, Place, Owner, IsLaidOut, IsLocated, within, within_blobs, is_in_granule, is_touched, hot_place, in_granule, touched_hot, IsByte, all_bytes, Job}
pub use Rattle.std.proofs.Common.{◌≡◌, ℕ, zero, suc, ◌+◌, ◌<◌, ◌≤◌, List, [], ◌∷◌, length, get_or, take, Option, Some, None, sym, subst, ⊎_elim, inl, inr, arith, Bool, true, false, filter, refl, ap, ◌∙◌, ◌-◌, drop, map}
pub use Rattle.std.specs.Prelude.{◌⊎◌, IfSome, ◌&&◌, ◌||◌, not, nat_lt, if◌then◌else◌}
pub use Rattle.std.proofs.lemmas.Bool.{true≢false, cases_Bool, cases_lt, and_from, and_parts, or_left, or_right, eq-eqb, lt-ltb, not-true}
pub use Rattle.std.proofs.lemmas.Bool.Decides.{nat_tests}
pub use Rattle.places.specs.declared.piece.Hold.{Hold}
pub use Rattle.actor_tasks.specs.Places.{ComesFrom, is_before, byte_holds_bit, IsHead}
pub use Rattle.actor_tasks.specs.Inner.Nexts.{Touches, AnyTouches, IsFound, IsNext, IsEarlier}
pub use Rattle.actor_tasks.specs.PlacesLaws.{occurs-all, places_from-first}
pub use Rattle.actor_tasks.specs.Marks.{IsTaskNext, task_at, IsRowOf, AreRowsOf}
pub use Rattle.actor_tasks.specs.MarksLaws.{read_task, no_read, set_task, no_set, task_count, task_found, task_done, none_left, row_told}
pub use Rattle.actor_tasks.specs.Tasks.{all_tasks, tasks_steps, left_in}
pub use Rattle.actor_tasks.specs.RowsLaws.{rows_found, rows_over, rows_none}
