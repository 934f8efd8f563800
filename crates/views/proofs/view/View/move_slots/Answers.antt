use Rattle.views.proofs.Lemmas.{◌≡◌, ◌∙◌, ◌+◌, ◌*◌, ◌<◌, ◌≤◌, ◌||◌, ℕ, zero, suc, true, sym, ap, subst, arith, ◌==◌, range_with_len, or_right, row_fits, blocks, slots_within, block_in, same_slots, same_steps, all_pieces, size_of, rows_after, is_cut, piece_at, span_pieces, Table, leaf_type_of, common_steps, sum_by, piece_is, runs_more}
use Rattle.views.proofs.view.View.move_slots.Goals as goal

pub loop-done-preserved : goal.loop-done-preserved
loop-done-preserved g c =
    let a = c.args in
    let from = c.in-Some.from in
    let to = c.in-Some-array_slots.to in
    let old : Table = c.args.self.now in
    let now : Table = c.loop-done.self in
    let done : ℕ = c.loop-done.done in
    let count : ℕ = c.pieces_at-pieces.result.count in
    let number : ℕ = c.pieces_at-pieces.result.number in
    let same = c.loop-done.invariant.same in
    let are = c.pieces_at-pieces.ensures in
    let size : ℕ = size_of (leaf_type_of old a.leaf) in
    let value : ℕ → ℕ = piece_at from.lanes to.lanes size a.slot (a.slot + a.n) in
    let one : ℕ = blocks (count * size) in
    let still : number * blocks (count * size_of (leaf_type_of now a.leaf)) ≡ number * one = ap (λ (t : Table). number * blocks (count * size_of (leaf_type_of t a.leaf))) same in
    let place : (k : ℕ) → a.slot + done + k * count ≡ a.slot + (done + k * count) = λ k. omega arith in
    let each : (k : ℕ) → k < number → value (a.slot + (done + k * count)) ≡ one = λ k l.
    ap value (sym (place k)) ∙ piece_is from.lanes to.lanes size a.slot (a.slot + a.n) (a.slot + done + k * count) count
    (first_or from.lanes to.lanes a.slot done k count number (a.slot + a.n) l (c.loop-done.invariant.begins c.loop-done-test.true)
    (λ some. are.cuts k some (let le : k ≤ number = omega (arith, l) in le)
    (let in_it : a.slot + done + k * count < a.slot + a.n = omega (arith, row_fits k count number count l (omega arith), are.inside, are.some) in in_it)))
    (are.each k l) in
    record {
      inside = omega (arith, are.inside);
      same = rows_after old now c.move_blocks.new.self same c.move_blocks.ensures.same;
      moved = runs_more old now a.leaf a.slot done (number * count) a.source.now.rows c.move_blocks.new.self.rows same c.laws_of_table.ensures.table c.laws_of_table-in-loop-done.ensures.table
          c.requires.leaf_in c.loop-done.invariant.moved c.move_blocks.ensures.moved;
      begins = λ more. or_right _ _ (ap (is_cut from.lanes to.lanes) (sym (place number))
          ∙ are.cuts number are.more (let le : number ≤ number = omega arith in le) (let in_it : a.slot + done + number * count < a.slot + a.n = omega (arith, more) in in_it));
      steps = omega (arith, c.move_blocks.ensures.steps, c.loop-done.invariant.steps, still, span_pieces value a.slot done count number one are.some each);
    } where
      first_or : (one two slot done k count number end : ℕ) → k < number → ((slot + done == slot) || is_cut one two (slot + done)) ≡ true
          → (0 < k → is_cut one two (slot + done + k * count) ≡ true) → ((slot + done + k * count == slot) || is_cut one two (slot + done + k * count)) ≡ true
      first_or one two slot done zero count number end l begins cuts =
          let here : slot + done ≡ slot + done + zero * count = omega arith in
          subst (λ (at : ℕ). ((at == slot) || is_cut one two at) ≡ true) here begins
      first_or one two slot done (suc k) count number end l begins cuts = or_right _ _ (cuts (omega arith))

-- there are slots on both sides
pub move_blocks-requires-clause-other_block : goal.move_blocks-requires-clause-other_block
move_blocks-requires-clause-other_block g c k l =
    let a = c.args in
    let are = c.pieces_at-pieces.ensures in
    let from = sym c.in-Some.ensures.value in
    let to = sym c.in-Some-array_slots.ensures.value in
    let within = slots_within a.self.now.mapping a.self.now.extents c.in-Some-array_slots.to a.slot a.n to c.requires.slots in
    let same = same_slots a.source.now.mapping a.self.now.mapping a.source.now.extents a.self.now.extents c.in-Some.from c.in-Some-array_slots.to c.requires.alike.1 c.requires.arrays from to in
    grind (arith, block_in, row_fits)

pub returns-clause-moved : goal.returns-clause-moved
returns-clause-moved g c =
    let all : c.loop-done.done ≡ c.args.n = omega (arith, c.loop-done.invariant.inside, c.loop-done-test.false) in grind arith

pub returns-clause-steps : goal.returns-clause-steps
returns-clause-steps g c = grind (arith, common_steps, sum_by, range_with_len, all_pieces, same_steps)
