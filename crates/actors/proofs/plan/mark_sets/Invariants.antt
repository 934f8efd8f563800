use Rattle.actors.proofs.Imports.{◌≡◌, [], None, map, take, fold, flat_map, setting_of, job_of, set_reads, marked}
use Rattle.actors.proofs.plan.mark_sets.Given as goal

abbrev pub invariant-loop-set : goal.invariant-loop-set
invariant-loop-set l = l.asked ≡ fold marked l.initial.asked (flat_map (set_reads (job_of l.view None []) l.row) (take l.set-index (map setting_of l.sets)))
