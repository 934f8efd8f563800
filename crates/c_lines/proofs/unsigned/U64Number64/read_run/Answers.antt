use Rattle.c_lines.proofs.Lemmas.{rules, ◌≡◌, ◌+◌, ◌-◌, ◌++◌, ℕ, ℤ, pos, List, length, map, take, refl, sym, ap, ◌∙◌, arith, length-take-le, map-append, take-put_mid, U64, low_64, column_reads, raised, run_of, Table, after_log, after_log-none, unsigned_run, run_more, log_more}
use Rattle.c_lines.proofs.unsigned.U64Number64.read_run.Goals as goal

pub loop-done-init : goal.loop-done-init
loop-done-init g c = record { inside = omega arith; count = refl; read = refl; log = sym (after_log-none c.args.view.now) }

pub loop-done-preserved : goal.loop-done-preserved
loop-done-preserved g c =
    let table = c.args.view.now in
    let leaf = c.args.leaf in
    let first = c.args.first in
    let done = c.loop-done.done in
    let count = c.min-count.result in
    let so_far = c.loop-done.invariant in
    let raise = c.raise.new.values in
    let many : length raise ≡ count = omega arith in
    let room : length (take count c.loop-done.buffer) ≡ count = length-take-le count c.loop-done.buffer (omega (arith, c.min-count.array_long)) in
    let part : map (λ n. pos n) raise ≡ run_of leaf (first + done) count table =
    c.raise.ensures ∙ ap (map (raised U64)) (c.read_run.ensures.values ∙ ap (λ (n : ℕ). map low_64 (run_of leaf (first + done) n c.loop-done.view)) room ∙ ap (λ (t : Table). map low_64 (run_of leaf (first + done) count t)) so_far.log)
    ∙ unsigned_run leaf (first + done) count table c.laws_of_table.ensures.table c.requires.leaf (omega (arith, so_far.count, c.requires.rows)) c.requires.reads in
    record {
      inside = omega (arith, so_far.count);
      count = search rules;
      read = ap (map (λ n. pos n)) (take-put_mid done (done + count - done) c.loop-done.values raise (done + count) (omega (arith, many)) (omega (arith, so_far.count)))
          ∙ map-append (λ n. pos n) (take done c.loop-done.values) raise
          ∙ ap (λ (vs : List ℤ). vs ++ map (λ n. pos n) raise) so_far.read ∙ ap (λ (vs : List ℤ). run_of leaf first done table ++ vs) part
          ∙ run_more leaf first done count table;
      log = c.read_run.ensures.same ∙ ap (λ (n : ℕ). after_log c.loop-done.view (column_reads leaf (first + done) n)) room ∙ ap (λ (t : Table). after_log t (column_reads leaf (first + done) count)) so_far.log ∙ log_more leaf first done count table;
    }
