use Rattle.views.proofs.Lemmas.{◌≡◌, ◌+◌, ◌*◌, ℕ, length, sym, ap, subst, arith, IfSome, blocks, array_of, size_of, IsRunMoved, rows_after, Table, leaf_count_of, leaf_type_of, nothing_moved, runs_more}
use Rattle.views.proofs.view.View.move_blocks.Goals as goal

pub loop-k-init : goal.loop-k-init
loop-k-init g c =
    let old : Table = c.args.self.now in
    let still : c.move_even.new.self ≡ old = c.move_even.ensures.none c.if-move_even.false in
    record {
      same = c.move_even.ensures.same;
      moved = subst (λ (t : Table). IfSome (array_of old.mapping) (λ array. IsRunMoved array.0 old.extents (length old.rows) (leaf_count_of old) c.args.leaf c.args.slot (0 * c.args.n)
          c.args.source.now.rows old.rows t.rows)) (sym still) (nothing_moved old c.args.leaf c.args.slot (0 * c.args.n) c.args.source.now.rows (omega arith));
      steps = omega (arith, c.move_even.ensures.no_steps c.if-move_even.false);
    }

pub loop-k-preserved : goal.loop-k-preserved
loop-k-preserved g c =
    let old : Table = c.args.self.now in
    let now : Table = c.loop-k.self in
    let n : ℕ = c.args.n in
    let k : ℕ = c.loop-k.k in
    let leaf : ℕ = c.args.leaf in
    let same = c.loop-k.invariant.same in
    let end : k * n + n ≡ (k + 1) * n = grind arith in
    let one : ℕ = blocks (n * size_of (leaf_type_of old leaf)) in
    let size : blocks (n * size_of (leaf_type_of now leaf)) ≡ one = ap (λ (t : Table). blocks (n * size_of (leaf_type_of t leaf))) same in
    let more : k * one + one ≡ (k + 1) * one = grind arith in
    record {
      same = rows_after old now c.move_run.new.self same c.move_run.ensures.same;
      moved = subst (λ (m : ℕ). IfSome (array_of old.mapping) (λ array. IsRunMoved array.0 old.extents (length old.rows) (leaf_count_of old) leaf c.args.slot m
          c.args.source.now.rows old.rows c.move_run.new.self.rows)) end
          (runs_more old now leaf c.args.slot (k * n) n c.args.source.now.rows c.move_run.new.self.rows same c.laws_of_table.ensures.table c.laws_of_table-in-loop-k.ensures.table
          c.requires.leaf_in c.loop-k.invariant.moved c.move_run.ensures.moved);
      steps = omega (arith, c.move_run.ensures.steps, c.loop-k.invariant.steps, size, more);
    }
