-- Which tables are copied by runs of rows.
use Rattle.std.specs.Prelude.{ℕ, ◌<◌}
use Rattle.views.specs.Prelude.{TakesAll, Table, leaf_count_of}

-- each leaf of a table takes each value of its type
abbrev pub AllTake : Table → Type 0
AllTake table = (leaf : ℕ) → leaf < leaf_count_of table → TakesAll table leaf
