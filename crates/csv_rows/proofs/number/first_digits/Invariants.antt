use Rattle.csv_rows.proofs.Imports.{◌≡◌, ◌^◌, ◌<◌, take, true, list_all, is_ascii_digit, digits_value}
use Rattle.csv_rows.proofs.number.first_digits.Given as goal

abbrev pub invariant-loop-count : goal.invariant-loop-count
invariant-loop-count l = (list_all is_ascii_digit (take l.count l.bytes) ≡ true) × (l.value ≡ digits_value 10 (take l.count l.bytes)) × (l.value < 10 ^ l.count)
