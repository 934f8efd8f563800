use Rattle.c_lines.proofs.Lemmas.{rules, ◌≡◌, ◌<◌, ℕ, ℤ, List, [], ◌∷◌, ◌++◌, length, map, take, get_or, refl, sym, ap, ◌∙◌, arith, entry, Read, after_log, after_log-none, map_made, map_more, read_one}
use Rattle.c_lines.proofs.by_rows.read_each.Goals as goal

pub loop-k-init : goal.loop-k-init
loop-k-init g c = record { count = refl; read = refl; log = sym (after_log-none c.args.view.now) }

pub loop-k-preserved : goal.loop-k-preserved
loop-k-preserved g c =
    let number = g.N.Number64.number in
    let table = c.args.view.now in
    let leaf = c.args.leaf in
    let rows = g.R.RowList.rows c.args.rows.now in
    let k = c.loop-k.k in
    let so_far = c.loop-k.invariant in
    let row = get_or rows k 0 in
    let value = c.of.result in
    let at : c.row_at.result ≡ row = c.row_at.ensures in
    let room : k < length c.loop-k.values = omega (arith, so_far.count) in
    let inside : k < length rows = omega (arith, so_far.count, c.requires.count) in
    let is : number value ≡ entry table.rows row leaf = search rules in
    record {
      count = search rules;
      read = map_made number c.loop-k.values k value room ∙ ap (λ (vs : List ℤ). vs ++ number value ∷ []) so_far.read
          ∙ ap (λ (v : ℤ). map (λ (n : ℕ). entry table.rows n leaf) (take k rows) ++ v ∷ []) is ∙ sym (map_more (λ (n : ℕ). entry table.rows n leaf) rows k 0 inside);
      log = read_one row leaf table c.loop-k.view c.get.new.self (map (λ (n : ℕ). Read n leaf) (take k rows)) so_far.log (rw at at c.get.ensures.same)
          ∙ ap (after_log table) (sym (map_more (λ (n : ℕ). Read n leaf) rows k 0 inside));
    }
