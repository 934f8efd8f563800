-- Accesses to the rows, one after another.
use Rattle.csv_rows.proofs.Imports.{◌≡◌, ℕ, ◌+◌, ℤ, List, [], sym, ap, ◌∙◌, Write, Tally, row_accesses, all_accesses, tallied-none, after_log-append, after_stores-append, logs_more, Table, owners_of, after_log, after_stores}
use Rattle.views.specs.Prelude.{Read}

-- no store
pub after_stores-none : (seen : Table) → seen ≡ after_stores seen seen.rows []
after_stores-none seen = ap (λ (tally : Tally). record seen { tally = tally }) (sym (tallied-none (owners_of seen) seen.tally))

-- a row more
pub row_written : (seen : Table) (table last : List (List ℤ)) (leaves row : ℕ) → after_stores (after_stores seen table (all_accesses Write leaves row)) last (row_accesses Write leaves row) ≡ after_stores seen last (all_accesses Write leaves (row + 1))
row_written seen table last leaves row = after_stores-append seen table last (all_accesses Write leaves row) (row_accesses Write leaves row) ∙ ap (after_stores seen last) (sym (logs_more (row_accesses Write leaves) row))

pub row_was_read : (seen : Table) (leaves row : ℕ) → after_log (after_log seen (all_accesses Read leaves row)) (row_accesses Read leaves row) ≡ after_log seen (all_accesses Read leaves (row + 1))
row_was_read seen leaves row = after_log-append seen (all_accesses Read leaves row) (row_accesses Read leaves row) ∙ ap (after_log seen) (sym (logs_more (row_accesses Read leaves) row))
