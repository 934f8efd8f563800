-- What the answer to a store in a strict view says of the value.
use Rattle.std.specs.Prelude.{◌≡◌, true, false, ℤ, ◌≤ℤ◌, Ok, Err, refl, int_le}
use Rattle.views.specs.Imports.{arith, ints, cases_Bool, and_parts, LeafType, least_of, greatest_of, least_in, greatest_in, IsIn, IsDeclared, Hold, Strict}
use Rattle.views.specs.Stores.{is_between, store_answer, Fits}
use Rattle.views.specs.declared.fault.StoreFault.TheVariants.{Range, Narrow}

int_le-true : (a b : ℤ) → int_le a b ≡ true → a ≤ℤ b
int_le-true a b e = grind (arith, ints)

-- the test of a range
pub between_true : (least greatest value : ℤ) → is_between least greatest value ≡ true → (least ≤ℤ value) × (value ≤ℤ greatest)
between_true least greatest value e = grind (arith, and_parts, int_le, int_le-true)

-- the three answers
pub answer_range : (kind : LeafType) (hold : Hold) (value : ℤ) → is_between (least_of kind) (greatest_of kind) value ≡ false → store_answer Strict kind hold value ≡ Err Range
answer_range kind hold value e = rw e refl

pub answer_narrow : (kind : LeafType) (hold : Hold) (value : ℤ) → is_between (least_of kind) (greatest_of kind) value ≡ true →
    is_between (least_in hold.signed hold.width) (greatest_in hold.signed hold.width) value ≡ false → store_answer Strict kind hold value ≡ Err Narrow
answer_narrow kind hold value e f = rw (e, f) refl

-- a store that is taken is one of a value that fits
pub stored_fits : (kind : LeafType) (hold : Hold) (value : ℤ) → store_answer Strict kind hold value ≡ Ok value → Fits kind hold value
stored_fits kind hold value taken = grind (arith, between_true, answer_narrow, cases_Bool, answer_range)

true_between : (least greatest value : ℤ) → least ≤ℤ value → value ≤ℤ greatest → is_between least greatest value ≡ true
true_between least greatest value low high = grind (arith, ints)

-- a value that fits is taken
pub fitting_stored : (kind : LeafType) (hold : Hold) (value : ℤ) → IsDeclared kind value → IsIn hold.signed hold.width value → store_answer Strict kind hold value ≡ Ok value
fitting_stored kind hold value declared held = grind (arith, true_between)
