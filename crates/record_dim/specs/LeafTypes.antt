-- The nine leaf types: a number for each, how many bits each takes, whether it is signed, and which values it declares.
use Rattle.std.specs.Prelude.{ℕ, ◌-◌, ◌^◌, Bool, true, false, ℤ, pos, ◌-ℤ◌, ◌≤ℤ◌}
use Rattle.record_dim.specs.declared.leaf_type.LeafType.{LeafType}
use Rattle.record_dim.specs.declared.leaf_type.LeafType.TheVariants.{Bool as Truth, U8, U16, U32, U64, I8, I16, I32, I64}

-- a type by a number of its own
abbrev pub kind_number : LeafType → ℕ
kind_number Truth = 0
kind_number U8 = 1
kind_number U16 = 2
kind_number U32 = 3
kind_number U64 = 4
kind_number I8 = 5
kind_number I16 = 6
kind_number I32 = 7
kind_number I64 = 8

-- the width in bits; the size in bytes is an eighth of it, and the alignment is the size
abbrev pub width_of : LeafType → ℕ
width_of Truth = 8
width_of U8 = 8
width_of U16 = 16
width_of U32 = 32
width_of U64 = 64
width_of I8 = 8
width_of I16 = 16
width_of I32 = 32
width_of I64 = 64

-- whether the values are two's complement
abbrev pub is_signed : LeafType → Bool
is_signed Truth = false
is_signed U8 = false
is_signed U16 = false
is_signed U32 = false
is_signed U64 = false
is_signed I8 = true
is_signed I16 = true
is_signed I32 = true
is_signed I64 = true

-- the least and the greatest number of a sign and a width
abbrev pub least_in : Bool → ℕ → ℤ
least_in true width = pos 0 -ℤ pos (2 ^ (width - 1))
least_in false width = pos 0

abbrev pub greatest_in : Bool → ℕ → ℤ
greatest_in true width = pos (2 ^ (width - 1)) -ℤ pos 1
greatest_in false width = pos (2 ^ width) -ℤ pos 1

-- the declared range
abbrev pub least_of : LeafType → ℤ
least_of kind = least_in (is_signed kind) (width_of kind)

abbrev pub greatest_of : LeafType → ℤ
greatest_of Truth = pos 1
greatest_of kind = greatest_in (is_signed kind) (width_of kind)

-- whether a number lies in the range of a sign and a width
abbrev pub IsIn : Bool → ℕ → ℤ → Type 0
IsIn signed width value = (least_in signed width ≤ℤ value) × (value ≤ℤ greatest_in signed width)

-- whether a number lies in the declared range of a leaf type
abbrev pub IsDeclared : LeafType → ℤ → Type 0
IsDeclared kind value = (least_of kind ≤ℤ value) × (value ≤ℤ greatest_of kind)
