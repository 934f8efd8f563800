-- the ledger that the blank opens
use Rattle.bench_layouts.proofs.main.Given as goal

abbrev pub ghosts-checksum : goal.ghosts-checksum
ghosts-checksum a = record { name = a.blank.name; parts = a.blank.parts }
