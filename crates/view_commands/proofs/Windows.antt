-- What a print of a window does.
use Rattle.view_commands.proofs.Imports.{◌≡◌, List, refl, print_text, Span, texts_of, WindowOf, sub_table, sub_reads, Table, leaf_count_of, after_log, done_to, windowed, print_window, GivesUp, GivesUp-then, StepFault, left_with, Ok, reading}

pub no_window : (table : Table) (spans : List Span) (fault : StepFault) → GivesUp (windowed table.extents spans) fault → GivesUp (done_to table (reading (λ content. print_window content spans) table)) fault
unfolding print_window
no_window table spans fault gives = GivesUp-then _ _ fault (GivesUp-then _ _ fault (GivesUp-then _ _ fault gives))

pub window_goes : (table : Table) (spans : List Span) (window : WindowOf) → windowed table.extents spans ≡ Ok window
    → done_to table (reading (λ content. print_window content spans) table) ≡ Ok (left_with (after_log table (sub_reads window (leaf_count_of table))) (print_text (texts_of table.fields) (sub_table window table.rows)))
unfolding print_window
window_goes table spans window is = rw is refl
