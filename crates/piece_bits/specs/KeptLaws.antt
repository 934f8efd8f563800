-- The low bits of numbers, and what is kept of a value.
use Rattle.std.specs.Prelude.{◌≡◌, ℕ, ◌^◌, ◌<◌, ◌≤◌, Bool, ℤ}
use Rattle.piece_bits.specs.Imports.{⊎_elim, sym, ap, ◌∙◌, subst, arith, cases_lt, pow_mono, LeafType, is_signed, IsIn, IsDeclared, Hold, number, digit, decoded, number_same, number_lt, bit_number, bit_digits, digit_lt, decoded_digits, decoded_in}
use Rattle.piece_bits.specs.LowBits.{low_bits, value_bits, declared, held, kept}

-- digits make a number below 2^width
pub digits_small : (value : ℤ) (width : ℕ) → number (digit value) width < 2 ^ width
digits_small value width = number_lt (digit value) width (λ k l. digit_lt value k)

-- low bits have the digits of the number
pub low_digit : (signed : Bool) (width : ℕ) (value : ℤ) (k : ℕ) → k < width → digit (low_bits signed width value) k ≡ digit value k
low_digit signed width value k inside = grind (arith, bit_digits, digits_small, bit_number, digit_lt)

-- fewer low bits of low bits
pub low_number : (signed : Bool) (width few : ℕ) (value : ℤ) → few ≤ width → number (digit (low_bits signed width value)) few ≡ number (digit value) few
low_number signed width few value less = grind (arith, number_same, low_digit)

pub low_low : (signed other : Bool) (width few : ℕ) (value : ℤ) → few ≤ width → low_bits other few (low_bits signed width value) ≡ low_bits other few value
low_low signed other width few value less = ap (decoded other few) (low_number signed width few value less)

-- low bits are in their range, and a number in the range is its low bits
pub low_in : (signed : Bool) (width : ℕ) (value : ℤ) → 1 ≤ width → IsIn signed width (low_bits signed width value)
low_in signed width value some = decoded_in signed width (number (digit value) width) some (digits_small value width)

pub low_same : (signed : Bool) (width : ℕ) (value : ℤ) → 1 ≤ width → IsIn signed width value → low_bits signed width value ≡ value
low_same signed width value some inside = decoded_digits signed width value some inside

-- the declared range is that of the type's sign and bits
pub some_bits : (kind : LeafType) → 1 ≤ value_bits kind
some_bits kind = grind arith

pub is_declared : (kind : LeafType) (value : ℤ) → IsIn (is_signed kind) (value_bits kind) value → IsDeclared kind value
is_declared kind value inside = grind arith

pub in_bits : (kind : LeafType) (value : ℤ) → IsDeclared kind value → IsIn (is_signed kind) (value_bits kind) value
in_bits kind value inside = grind arith

pub declared_in : (kind : LeafType) (value : ℤ) → IsDeclared kind (declared kind value)
declared_in kind value = is_declared kind (declared kind value) (low_in (is_signed kind) (value_bits kind) value (some_bits kind))

pub declared_same : (kind : LeafType) (value : ℤ) → IsDeclared kind value → declared kind value ≡ value
declared_same kind value inside = low_same (is_signed kind) (value_bits kind) value (some_bits kind) (in_bits kind value inside)

-- a hold that has room for all bits of the type changes no bit of them
pub wide_kept : (kind : LeafType) (hold : Hold) (value : ℤ) → value_bits kind ≤ hold.width → kept kind hold value ≡ declared kind value
wide_kept kind hold value wide = low_low hold.signed (is_signed kind) hold.width (value_bits kind) value wide

-- a narrower one has the low bits of what is declared
pub narrow_held : (kind : LeafType) (hold : Hold) (value : ℤ) → hold.width ≤ value_bits kind → held hold (declared kind value) ≡ held hold value
narrow_held kind hold value narrow = low_low (is_signed kind) hold.signed (value_bits kind) hold.width value narrow

-- so it does not matter whether a value is brought into the declared range first
pub kept_declared : (kind : LeafType) (hold : Hold) (value : ℤ) → kept kind hold (declared kind value) ≡ kept kind hold value
kept_declared kind hold value = grind (arith, narrow_held, wide_kept, declared_same, declared_in, cases_lt)

-- what is kept is kept
pub kept_again : (kind : LeafType) (hold : Hold) (value : ℤ) → 1 ≤ hold.width → kept kind hold (kept kind hold value) ≡ kept kind hold value
kept_again kind hold value some = kept_declared kind hold (held hold value) ∙ ap (declared kind) (low_same hold.signed hold.width (held hold value) some (low_in hold.signed hold.width value some))

pub kept_in : (kind : LeafType) (hold : Hold) (value : ℤ) → IsDeclared kind (kept kind hold value)
kept_in kind hold value = declared_in kind (held hold value)

-- a value that fits is kept as it is
pub fitting_kept : (kind : LeafType) (hold : Hold) (value : ℤ) → 1 ≤ hold.width → IsDeclared kind value → IsIn hold.signed hold.width value → kept kind hold value ≡ value
fitting_kept kind hold value some inside held_in = ap (declared kind) (low_same hold.signed hold.width value some held_in) ∙ declared_same kind value inside

-- a number of few bits is one of more
pub wider_in : (signed : Bool) (few width : ℕ) (value : ℤ) → 1 ≤ few → few ≤ width → IsIn signed few value → IsIn signed width value
wider_in signed few width value some less inside = grind (arith, pow_mono)

-- what is kept fits a hold that has the sign of the type, however narrow it is
pub own_sign_held : (kind : LeafType) (hold : Hold) (value : ℤ) → 1 ≤ hold.width → hold.signed ≡ is_signed kind → IsIn hold.signed hold.width (kept kind hold value)
own_sign_held kind hold value some same =
    let bits = value_bits kind in
    let own : IsIn (is_signed kind) bits (kept kind hold value) = low_in (is_signed kind) bits (held hold value) (some_bits kind) in
    ⊎_elim (λ (narrow : hold.width < bits).
    let inside : IsIn hold.signed hold.width (held hold value) = low_in hold.signed hold.width value some in
    let here : IsIn (is_signed kind) bits (held hold value) =
    wider_in (is_signed kind) hold.width bits (held hold value) some (omega (arith, narrow)) (subst (λ (s : Bool). IsIn s hold.width (held hold value)) same inside) in
    subst (λ (v : ℤ). IsIn hold.signed hold.width v) (sym (low_same (is_signed kind) bits (held hold value) (some_bits kind) here)) inside)
    (λ (wide : bits ≤ hold.width).
    wider_in hold.signed bits hold.width (kept kind hold value) (some_bits kind) wide (subst (λ (s : Bool). IsIn s bits (kept kind hold value)) (sym same) own))
    (cases_lt hold.width bits)

-- the digits of what the image of a value says are those of the value
pub held_digit : (hold : Hold) (value : ℤ) (k : ℕ) → k < hold.width → digit (held hold value) k ≡ digit value k
held_digit hold value k inside = low_digit hold.signed hold.width value k inside
