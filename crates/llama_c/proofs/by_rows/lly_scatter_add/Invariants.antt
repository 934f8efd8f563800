-- the ledger that the blank opens
use Rattle.llama_c.proofs.by_rows.lly_scatter_add.Given as goal

abbrev pub ghosts-scatter_add : goal.ghosts-scatter_add
ghosts-scatter_add a = record { name = a.blank.name; parts = a.blank.parts }
