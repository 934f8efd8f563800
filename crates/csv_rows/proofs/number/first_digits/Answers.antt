use Rattle.csv_rows.proofs.Lemmas.{rules, arith, ◌≡◌, ◌<◌, true, get_or, length, is_ascii_digit, one_digit, power_next, low_power}
use Rattle.csv_rows.proofs.number.first_digits.Goals as goal

pub overflow_mul-value : goal.overflow_mul-value
overflow_mul-value c =
    let below = low_power c.loop-count.count c.loop-count.value (omega arith) c.loop-count.invariant.2 in
    omega arith

pub overflow_add-value : goal.overflow_add-value
overflow_add-value c =
    let below = low_power c.loop-count.count c.loop-count.value (omega arith) c.loop-count.invariant.2 in
    let here : is_ascii_digit (get_or c.args.bytes.now c.loop-count.count 0) ≡ true = search rules in
    let inside : c.loop-count.count < length c.args.bytes.now = omega arith in
    let next = one_digit c.args.bytes.now c.loop-count.count inside here c.loop-count.invariant.0 in
    omega (arith, c.from.ensures, next.small)

pub loop-count-preserved : goal.loop-count-preserved
loop-count-preserved c =
    let here : is_ascii_digit (get_or c.args.bytes.now c.loop-count.count 0) ≡ true = search rules in
    let inside : c.loop-count.count < length c.args.bytes.now = omega arith in
    let next = one_digit c.args.bytes.now c.loop-count.count inside here c.loop-count.invariant.0 in
    (next.all, omega (arith, c.from.ensures, next.value, c.loop-count.invariant.1), omega (arith, c.from.ensures, next.small, power_next c.loop-count.count, c.loop-count.invariant.2))
