-- What a mapping of run time shows of its array.
use Rattle.map_any.specs.Imports.{ℕ, List, Term, term_of}
use Rattle.map_any.specs.declared.any.AnyMap.{AnyMap}

-- the extents of the array that it maps
abbrev pub extents_of : AnyMap → List ℕ
extents_of map = map.extents

-- the expression that it is of
abbrev pub term_of_map : AnyMap → Term
term_of_map map = term_of map.expr
