-- The lemmas that the search tries at goals with no answer of their own.
use Rattle.actors.proofs.Blobs.{all_copied, all_fresh, one_copied, one_fresh}
use Rattle.actors.proofs.Bytes.{put_lengths, there_still}
use Rattle.actors.proofs.Finishes.{actor_done, turn_made}
use Rattle.actors.proofs.Firsts.{first_here, first_later}
use Rattle.actors.proofs.Imports.{length-leaf_cells, memory_is, still_sized, with_byte-sized}
use Rattle.actors.proofs.Laws.{lawful_from}
use Rattle.actors.proofs.Marks.{one_set}
use Rattle.actors.proofs.Tried.{row_reads}
use Rattle.actors.proofs.Turns.{cursor_over, plans_told, targets_inside}
use Rattle.std.proofs.lemmas.Grind.{common_steps}

pub ruleset steps = (all_copied, all_fresh, one_copied, one_fresh, put_lengths, there_still, actor_done, turn_made, first_here, first_later, length-leaf_cells, memory_is, still_sized, with_byte-sized, lawful_from, one_set, row_reads, cursor_over, plans_told, targets_inside, common_steps)
