-- The counters that stand at the top of an expression.
use Rattle.map_any.specs.Imports.{ℕ, Bool, true, false, Option, Some, None, Term, Count, Heat}

-- it counts accesses by leaf
abbrev pub has_count : Term → Bool
has_count (Count inner) = true
has_count (Heat granule inner) = has_count inner
has_count _ = false

-- the bytes of a granule, where it counts accesses by granule
abbrev pub granule_of : Term → Option ℕ
granule_of (Heat granule inner) = Some granule
granule_of (Count inner) = granule_of inner
granule_of _ = None

-- it counts accesses, by leaf or by granule
abbrev pub is_counted : Term → Bool
is_counted (Count inner) = true
is_counted (Heat granule inner) = true
is_counted _ = false
