use Rattle.c_lines.proofs.Lemmas.{rules, ◌≡◌, ◌+◌, ◌-◌, ◌*◌, ◌≤◌, ℕ, ℤ, List, length, map, take, drop, Ok, Err, sym, ap, subst, ◌∙◌, arith, mul-le-mul_left, length-drop, length-take-le, take_rest, drop-drop, length-map-range_with_len, leaf_count_of, Answer, IsSet, number_in, numbers_in, numbers_within, front_set, front_refused_set, nothing_set, set_behind, still_rows}
use Rattle.c_lines.proofs.caller_bytes.store_bytes.Goals as goal

pub take_numbers-requires-clause-room : goal.take_numbers-requires-clause-room
take_numbers-requires-clause-room g c =
    let size = c.args.size in
    let done = c.loop-done.done in
    let part = c.min-part.result in
    let below : done + part ≤ c.args.count = omega arith in
    omega (arith, mul-le-mul_left size below, c.requires.room, ap length (take_rest c.args.bytes.now (size * done)), length-drop (size * done) c.args.bytes.now, ap (λ (n : ℕ). size * n) (length-take-le part c.loop-done.buffer (omega arith)))

pub loop-done-preserved : goal.loop-done-preserved
loop-done-preserved g c =
    let sign = g.N.Number64.sign in
    let size = c.args.size in
    let bytes = c.args.bytes.now in
    let leaf = c.args.leaf in
    let done = c.loop-done.done in
    let part = c.min-part.result in
    let at = c.args.first + done in
    let numbers = numbers_in sign size c.args.count bytes in
    let rest = drop done numbers in
    let old = c.loop-done.view in
    let mid = c.store_run.new.view in
    let so_far = c.loop-done.invariant in
    let below : done + part ≤ c.args.count = omega arith in
    let inside : part ≤ length rest = omega (arith, below, length-drop done numbers, length-map-range_with_len (λ (i : ℕ). number_in sign size (drop (size * i) bytes)) 0 c.args.count) in
    let are : map g.N.Number64.number c.take_numbers.new.numbers ≡ take part rest =
    c.take_numbers.ensures ∙ ap (λ (n : ℕ). numbers_in sign size n (take (length bytes - size * done) (drop (size * done) bytes))) (length-take-le part c.loop-done.buffer (omega arith))
    ∙ ap (numbers_in sign size part) (take_rest bytes (size * done)) ∙ numbers_within sign size c.args.count done part bytes below in
    let set : IsSet at leaf (take part rest) old mid (Ok tt) = subst (λ (vs : List ℤ). IsSet at leaf vs old mid (Ok tt)) are (subst (λ (r : Answer (Unit {0})). IsSet at leaf (map g.N.Number64.number c.take_numbers.new.numbers) old mid r) c.in_ok-store_run.was c.store_run.ensures) in
    let stored = front_set at leaf part rest old mid inside set in
    let assoc : c.args.first + (done + part) ≡ at + part = omega arith in
    record {
      inside = below;
      rows = still_rows leaf at part rest old mid stored ∙ so_far.rows;
      leaves = ap leaf_count_of stored.1 ∙ so_far.leaves;
      whole = λ new answer is.
          so_far.whole new answer
          (set_behind at leaf part rest old mid new answer inside stored
          (subst (λ (vs : List ℤ). IsSet (at + part) leaf vs mid new answer) (sym (drop-drop part done numbers)) (subst (λ (n : ℕ). IsSet n leaf (drop (done + part) numbers) mid new answer) assoc is)));
    }

-- a number that is refused
pub returns-in_err-store_run : goal.returns-in_err-store_run
returns-in_err-store_run g c =
    let sign = g.N.Number64.sign in
    let size = c.args.size in
    let bytes = c.args.bytes.now in
    let leaf = c.args.leaf in
    let done = c.loop-done.done in
    let part = c.min-part.result in
    let at = c.args.first + done in
    let numbers = numbers_in sign size c.args.count bytes in
    let rest = drop done numbers in
    let old = c.loop-done.view in
    let new = c.store_run.new.view in
    let refusal = c.in_err-store_run.field-0.0 in
    let is : c.from_residual.result ≡ Err refusal = search rules in
    let below : done + part ≤ c.args.count = omega arith in
    let inside : part ≤ length rest = omega (arith, below, length-drop done numbers, length-map-range_with_len (λ (i : ℕ). number_in sign size (drop (size * i) bytes)) 0 c.args.count) in
    let are : map g.N.Number64.number c.take_numbers.new.numbers ≡ take part rest =
    c.take_numbers.ensures ∙ ap (λ (n : ℕ). numbers_in sign size n (take (length bytes - size * done) (drop (size * done) bytes))) (length-take-le part c.loop-done.buffer (omega arith))
    ∙ ap (numbers_in sign size part) (take_rest bytes (size * done)) ∙ numbers_within sign size c.args.count done part bytes below in
    let set : IsSet at leaf (take part rest) old new (Err refusal) = subst (λ (vs : List ℤ). IsSet at leaf vs old new (Err refusal)) are (subst (λ (r : Answer (Unit {0})). IsSet at leaf (map g.N.Number64.number c.take_numbers.new.numbers) old new r) c.in_err-store_run.was c.store_run.ensures) in
    subst (λ (r : Answer (Unit {0})). IsSet c.args.first leaf numbers c.args.view.now new r) (sym is) (c.loop-done.invariant.whole new (Err refusal) (front_refused_set at leaf part rest old new refusal inside set))

pub returns : goal.returns
returns g c =
    let sign = g.N.Number64.sign in
    let numbers = numbers_in sign c.args.size c.args.count c.args.bytes.now in
    let none : length (drop c.loop-done.done numbers) ≡ 0 = omega (arith, length-drop c.loop-done.done numbers, length-map-range_with_len (λ (i : ℕ). number_in sign c.args.size (drop (c.args.size * i) c.args.bytes.now)) 0 c.args.count) in
    c.loop-done.invariant.whole c.loop-done.view (Ok tt) (nothing_set (c.args.first + c.loop-done.done) c.args.leaf (drop c.loop-done.done numbers) c.loop-done.view none)
