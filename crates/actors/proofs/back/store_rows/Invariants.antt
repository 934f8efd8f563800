use Rattle.actors.proofs.Lemmas.{◌≡◌, List, ℤ, Ok, length, map, filter_term, setting_of, updated_of, AreBack}
use Rattle.actors.proofs.back.store_rows.Given as goal

abbrev pub invariant-loop-row : goal.invariant-loop-row
invariant-loop-row g l = record {
  back : (rows : List (List ℤ)) (plain : updated_of l.initial.view (filter_term l._filter) (map setting_of l.sets) (length l.initial.view.rows) ≡ Ok rows)
      (count : length rows ≡ length l.initial.view.rows) → AreBack l.initial.view (filter_term l._filter) (map setting_of l.sets) rows plain count l.view l.row;
}
