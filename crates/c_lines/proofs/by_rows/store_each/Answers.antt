use Rattle.c_lines.proofs.Lemmas.{rules, ◌≡◌, ◌+◌, ◌<◌, ◌≤◌, ◌∙◌, ℤ, pos, length, map, get_or, SFits, w128, to_z, of_z, to_z-of_z, sym, ap, arith, length-map, get_or-map, Turned, turn_done, turn_refused, turns_over}
use Rattle.c_lines.proofs.by_rows.store_each.Goals as goal

pub loop-k-preserved : goal.loop-k-preserved
loop-k-preserved g c =
    let number = g.N.Number64.number in
    let store = g.T.Turn.store c.args.leaf in
    let rows = g.R.RowList.rows c.args.rows.now in
    let numbers = c.args.values.now in
    let values = map number numbers in
    let k = c.loop-k.k in
    let now = c.loop-k.view in
    let fits : SFits w128 c.whole.result = search rules in
    let there : k < length numbers = omega arith in
    let inside : k < length rows = omega (arith, there, c.requires.count) in
    let at : c.row_at.result ≡ get_or rows k 0 = c.row_at.ensures in
    let told = rw at at c.store.ensures.answer in
    let left = rw at at c.store.ensures.left in
    let value : get_or values k (pos 0) ≡ to_z w128 (of_z w128 c.whole.result) =
    get_or-map number numbers k c.index-values-k.result (pos 0) there ∙ ap number (sym c.index-values-k.is) ∙ sym c.whole.ensures.number ∙ sym (to_z-of_z w128 c.whole.result fits) in
    record {
      rows = c.store.ensures.rows ∙ c.loop-k.invariant.rows;
      leaves = c.store.ensures.leaves ∙ c.loop-k.invariant.leaves;
      rest = turn_done store rows values k now (k + 1) c.store.new.view (omega arith) inside (omega (arith, there, length-map numbers number))
          (ap (λ (v : ℤ). (store (get_or rows k 0) v now).answer) value ∙ sym told ∙ c.in_default.is)
          (left ∙ ap (λ (v : ℤ). (store (get_or rows k 0) v now).left) (sym value))
          ∙ c.loop-k.invariant.rest;
    }

-- a value that is refused
pub returns-in-Err : goal.returns-in-Err
returns-in-Err g c =
    let number = g.N.Number64.number in
    let store = g.T.Turn.store c.args.leaf in
    let rows = g.R.RowList.rows c.args.rows.now in
    let numbers = c.args.values.now in
    let values = map number numbers in
    let k = c.loop-k.k in
    let now = c.loop-k.view in
    let fits : SFits w128 c.whole.result = search rules in
    let there : k < length numbers = omega arith in
    let inside : k < length rows = omega (arith, there, c.requires.count) in
    let at : c.row_at.result ≡ get_or rows k 0 = c.row_at.ensures in
    let told = rw at at c.store.ensures.answer in
    let left = rw at at c.store.ensures.left in
    let value : get_or values k (pos 0) ≡ to_z w128 (of_z w128 c.whole.result) =
    get_or-map number numbers k c.index-values-k.result (pos 0) there ∙ ap number (sym c.index-values-k.is) ∙ sym c.whole.ensures.number ∙ sym (to_z-of_z w128 c.whole.result fits) in
    let done = sym (turn_refused store rows values k now c.in-Err.refusal inside (omega (arith, there, length-map numbers number))
    (ap (λ (v : ℤ). (store (get_or rows k 0) v now).answer) value ∙ sym told ∙ c.in-Err.is)) ∙ c.loop-k.invariant.rest in
    record {
      answer = ap (λ (d : Turned). d.answer) done;
      left = left ∙ ap (λ (v : ℤ). (store (get_or rows k 0) v now).left) (sym value) ∙ ap (λ (d : Turned). d.left) done;
    }

pub returns : goal.returns
returns g c =
    let store = g.T.Turn.store c.args.leaf in
    let rows = g.R.RowList.rows c.args.rows.now in
    let values = map g.N.Number64.number c.args.values.now in
    let over : length rows ≤ c.loop-k.k = omega (arith, c.requires.count) in
    let done = sym (turns_over store rows values c.loop-k.k c.loop-k.view over) ∙ c.loop-k.invariant.rest in
    record { answer = ap (λ (d : Turned). d.answer) done; left = ap (λ (d : Turned). d.left) done }
