-- What being built, and being accepted, say of an expression.
use Rattle.map_any.proofs.Imports.{◌≡◌, Bool, true, false, Ok, Err, if◌then◌else◌, not, nat_lt, Result, BadMapping, TooDeep, Counter, Side, Field, NotFull, Term, Split, Byteswap, Bytesplit, Change, Count, Heat, Named, depth_of, IsNameless, checked, answered, bad_number, counts_once, IsBuiltTerm, accepted, bad_field, bad_side, else_for, not_full, Cell, Fields, Option, None, List, arith}

-- no name stands in it
pub built_nameless : (term : Term) → IsBuiltTerm term → IsNameless term
built_nameless (Split path first rest) h = (built_nameless first h.0, built_nameless rest h.1)
built_nameless (Byteswap inner) h = built_nameless inner h
built_nameless (Bytesplit inner) h = built_nameless inner h
built_nameless (Change from to inner) h = built_nameless inner h
built_nameless (Count inner) h = built_nameless inner h
built_nameless (Heat granule inner) h = built_nameless inner h
built_nameless (Named name) h = absurd h
built_nameless other h = tt

answered_none : (deep twice : Bool) (bad : Option BadMapping) → (if deep then Err TooDeep else (if twice then Err Counter else answered bad)) ≡ Ok tt → bad ≡ None
answered_none deep twice bad e = grind arith

-- its numbers are in their ranges
pub accepted_numbers : (term : Term) → checked term ≡ Ok tt → bad_number term ≡ None
accepted_numbers term e = answered_none (nat_lt 8 (depth_of term)) (not (counts_once true true term)) (bad_number term) e

-- neither a cause nor an earlier one
else_ok : (bad : BadMapping) (holds : Bool) (earlier : Result Unit BadMapping) → else_for bad holds earlier ≡ Ok tt → (holds ≡ false) × (earlier ≡ Ok tt)
else_ok bad holds earlier e = grind arith

-- over cells, too: its parts under byteswap and bytesplit are full
module _ (term : Term) (fields : Fields) (cells : List Cell) (ok : accepted term fields cells ≡ Ok tt) where
  abbrev with_sides : Result Unit BadMapping
  with_sides = else_for Side (bad_side term fields cells) (checked term)

  abbrev with_fields : Result Unit BadMapping
  with_fields = else_for Field (bad_field term fields cells) with_sides

  pub good_parts : not_full term fields cells ≡ false
  good_parts = (else_ok NotFull (not_full term fields cells) with_fields ok).0

  pub good_number : bad_number term ≡ None
  good_number = grind (arith, else_ok, accepted_numbers)
