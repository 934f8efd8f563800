use Rattle.actors.proofs.Imports.{◌≡◌, [], map, take, get_or, set, stores_log, setting_of, after_stores, row_held, with_held}
use Rattle.actors.proofs.back.store_row.Given as goal

abbrev pub invariant-loop-set : goal.invariant-loop-set
invariant-loop-set g l =
    l.view ≡ after_stores l.initial.view (set l.initial.view.rows l.row (with_held (take l.set-index (map setting_of l.sets)) (row_held l.initial.view l.memory l.row) (get_or l.initial.view.rows l.row [])))
    (stores_log l.row (take l.set-index (map setting_of l.sets)))
