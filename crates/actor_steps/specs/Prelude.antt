-- What other crates take of this one.
pub use Rattle.actor_steps.specs.Agree.{IsLawful, IsParted, SchedulesAgree}
pub use Rattle.actor_steps.specs.AgreeLaws.{leaf_count, memory_is, rows_read}
pub use Rattle.actor_steps.specs.Bytes.{IsByte}
pub use Rattle.actor_steps.specs.BytesOfLaws.{with_byte-sized}
pub use Rattle.actor_steps.specs.Confluence.{Actor, State, moved, turned}
pub use Rattle.actor_steps.specs.Cuts.{AreCuts, actor_of, are_cuts, parts_from, team_of}
pub use Rattle.actor_steps.specs.CutsLaws.{are_cuts-are, cuts_end}
pub use Rattle.actor_steps.specs.HeldLaws.{length-row_in, row_in-at}
pub use Rattle.actor_steps.specs.Jobs.{fresh_of, job_of, memory_of, team_start, written_by}
pub use Rattle.actor_steps.specs.MemoryLaws.{zeros-sized}
pub use Rattle.actor_steps.specs.Micro.{Fetch, Job, Load, Micro, Registers, Store, all_bytes, byte_at, bytes_in, changes, fetches, filter_reads, is_in, leaves_read, lets_through, loaded, number_in}
pub use Rattle.actor_steps.specs.Micro.{owners_of_byte, places_of, row_as_it_stands, row_in, row_steps, set_reads, steps_of, stored, stores_of, test_of, value_kept_on, with_bits_of, with_byte}
pub use Rattle.actor_steps.specs.ScheduleLaws.{run_by-append}
pub use Rattle.actor_steps.specs.Schedules.{entries, finished, idle_with, next, run_by, schedule_of, turns_from, turns_left}
pub use Rattle.actor_steps.specs.Shared.{are_of_two, first_of_all, is_shared, shared_byte}
pub use Rattle.actor_steps.specs.UpdateLaws.{length-with_values, passed, updated_at, updated_length}
