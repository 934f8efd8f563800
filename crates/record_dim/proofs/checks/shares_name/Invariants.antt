-- a name stands twice among all names just where one of the names left is in the set, or stands twice among them
use Rattle.record_dim.proofs.Imports.{◌≡◌, ◌||◌, list_any, nat_cmp, contains, slice_cmp, fields_of, names_of, has_twice}
use Rattle.record_dim.proofs.checks.shares_name.Given as goal

abbrev pub invariant-loop-left : goal.invariant-loop-left
invariant-loop-left l =
    (list_any (contains (slice_cmp nat_cmp) l.seen) (names_of (fields_of l.left)) || has_twice (names_of (fields_of l.left))) ≡ has_twice (names_of (fields_of l.fields))
