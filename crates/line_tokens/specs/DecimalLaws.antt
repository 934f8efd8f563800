-- The value of decimal digits, read from the left.
use Rattle.std.specs.Prelude.{◌≡◌, ℕ, ◌+◌, ◌-◌, ◌*◌, ◌/◌, ◌^◌, ◌<◌, ◌≤◌, Bool, true, List, length, get_or, take}
use Rattle.record_dim.specs.Std.{arith, is_ascii_digit, AllPass, prefix_len, digits_value, get_or-take, length-prefix_len, prefix_len_passes, digits_value_more, digit_value_digit, digits_value-take-le}

-- one digit more
pub digits_more : (digits : List ℕ) (i : ℕ) → i < length digits → is_ascii_digit (get_or digits i 0) ≡ true →
    digits_value 10 (take (i + 1) digits) ≡ digits_value 10 (take i digits) * 10 + (get_or digits i 0 - 48)
digits_more digits i l h = grind (arith, digits_value_more, digit_value_digit)

-- where a value is above a tenth of the greatest, one digit more passes it, and so do all the digits
pub digits_pass : (digits : List ℕ) (i value : ℕ) → i < length digits → is_ascii_digit (get_or digits i 0) ≡ true →
    value ≡ digits_value 10 (take i digits) → (2 ^ 127 - 1) / 10 < value → 2 ^ 127 ≤ digits_value 10 digits
digits_pass digits i value l h e over =
    let more = digits_more digits i l h in
    omega (arith, digits_value-take-le 10 digits (i + 1) (omega arith))

-- each byte of a run passes the test of the run
pub AllPass-take_prefix_len : (p : ℕ → Bool) (xs : List ℕ) → AllPass p (take (prefix_len p xs) xs)
AllPass-take_prefix_len p xs k d l = grind (arith, prefix_len, length-prefix_len, get_or-take, prefix_len_passes)
