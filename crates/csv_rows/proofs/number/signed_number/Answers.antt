use Rattle.csv_rows.proofs.Lemmas.{arith, option_map, to_z-of_z, take_rest, common_steps, given_fits, minus_number}
use Rattle.csv_rows.proofs.number.signed_number.Goals as goal

pub returns-then-first-eq45 : goal.returns-then-first-eq45
returns-then-first-eq45 c = grind (arith, common_steps, option_map, take_rest, given_fits, to_z-of_z, minus_number)
