use Rattle.c_lines.proofs.Lemmas.{rules, ◌≡◌, ◌+◌, ◌-◌, ◌*◌, ◌<◌, ◌≤◌, ◌++◌, ℕ, ℤ, pos, List, get_or, length, map, take, drop, refl, sym, ap, ◌∙◌, arith, mul-le-mul_left, length-drop, length-take-le, flat_map-append, take-put_mid, low_64, column_reads, run_of, Table, after_log, after_log-none, bytes_of_numbers, leaf_type_of, run_declared, run_length, declared_within, IsWithin64, little_bytes, low_bytes, w64, bytes_of_lows, run_more, log_more}
use Rattle.c_lines.proofs.caller_bytes.read_bytes.Goals as goal

pub loop-done-init : goal.loop-done-init
loop-done-init g c = record { inside = omega arith; room = refl; read = (let none : c.args.size * 0 ≡ 0 = omega arith in ap (λ (n : ℕ). take n c.args.bytes.now) none); log = sym (after_log-none c.args.view.now) }

pub loop-done-preserved : goal.loop-done-preserved
loop-done-preserved g c =
    let table = c.args.view.now in
    let leaf = c.args.leaf in
    let first = c.args.first in
    let size = c.args.size in
    let done = c.loop-done.done in
    let part = c.min-part.result in
    let so_far = c.loop-done.invariant in
    let put = c.put_numbers.new.bytes in
    let below : done + part ≤ c.args.count = omega arith in
    let inside : size * (done + part) ≤ length c.loop-done.bytes = omega (arith, so_far.room, c.requires.room, mul-le-mul_left size below) in
    let some = run_of leaf (first + done) part table in
    let many : length put ≡ size * part = c.put_numbers.auto.bytes ∙ length-take-le (size * (done + part) - size * done) (drop (size * done) c.loop-done.bytes) (omega (arith, inside, length-drop (size * done) c.loop-done.bytes)) ∙ omega arith in
    let room : length (take part c.loop-done.buffer) ≡ part = length-take-le part c.loop-done.buffer (omega (arith, c.min-part.array_long)) in
    let there : first + done + part ≤ length table.rows = omega (arith, below, c.requires.rows) in
    let within : (k : ℕ) → k < length some → IsWithin64 (get_or some k (pos 0)) = λ k short.
    declared_within (leaf_type_of table leaf) (get_or some k (pos 0))
    (run_declared table leaf (first + done) part c.laws_of_table.ensures.table c.requires.leaf there k (omega (arith, short, run_length leaf (first + done) part table.rows there))) in
    let is : put ≡ bytes_of_numbers size some =
    c.put_numbers.ensures ∙ ap (bytes_of_numbers size) (c.read_run.ensures.values ∙ ap (λ (n : ℕ). map low_64 (run_of leaf (first + done) n c.loop-done.view)) room ∙ ap (λ (t : Table). map low_64 (run_of leaf (first + done) part t)) so_far.log)
    ∙ bytes_of_lows size some within in
    record {
      inside = below;
      room = search rules;
      read = take-put_mid (size * done) (size * (done + part) - size * done) c.loop-done.bytes put (size * (done + part)) (omega (arith, many)) (omega (arith, inside))
          ∙ ap (λ (bs : List ℕ). bs ++ put) so_far.read ∙ ap (λ (bs : List ℕ). bytes_of_numbers size (run_of leaf first done table) ++ bs) is
          ∙ sym (flat_map-append (λ (value : ℤ). little_bytes size (low_bytes w64 size value)) (run_of leaf first done table) some) ∙ ap (bytes_of_numbers size) (run_more leaf first done part table);
      log = c.read_run.ensures.same ∙ ap (λ (n : ℕ). after_log c.loop-done.view (column_reads leaf (first + done) n)) room ∙ ap (λ (t : Table). after_log t (column_reads leaf (first + done) part)) so_far.log ∙ log_more leaf first done part table;
    }
