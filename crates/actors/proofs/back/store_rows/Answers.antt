use Rattle.actors.proofs.Lemmas.{◌≡◌, ◌<◌, ◌≤◌, ◌∙◌, false, ℕ, [], List, ℤ, length, map, sym, ap, arith, indices, filter_term, setting_of, answer_of, kept_of, job_of, memory_of, lets_through, Asks, updated_length, row_held, none_back, one_back, all_back, back_sized, back_held, back_takes, back_sets, back_count}
use Rattle.actors.proofs.back.store_rows.Goals as goal

pub loop-row-init : goal.loop-row-init
loop-row-init g c = record { back = λ rows plain count. none_back c.args.view.now (filter_term c.args._filter) (map setting_of c.args.sets.now) rows plain count }

pub store_asked-requires : goal.store_asked-requires
store_asked-requires g c =
    let table = c.args.view.now in
    let filter = filter_term c.args._filter in
    let sets = map setting_of c.args.sets.now in
    let rows = c.requires.plain.0 in
    let plain = c.requires.plain.1 in
    let row = c.loop-row.row in
    let count = updated_length (answer_of table) (kept_of table) filter sets table.extents table.rows rows (length table.rows) plain in
    let all : length (indices c.extents.result) ≡ length table.rows = ap (λ (e : List ℕ). length (indices e)) c.extents.ensures.value ∙ sym c.extents.ensures.table.rows in
    let inside : row < length table.rows = omega arith in
    let low : row ≤ length table.rows = omega arith in
    let so_far = c.loop-row.invariant.back rows plain count in
    let lawful = c.schedules_agree.ensures.lawful table filter sets rows c.laws_of_view.ensures.lawful plain in
    let memory = c.args.memory.now in
    record {
      sets = back_sets table filter sets rows plain count c.loop-row.view row row low so_far memory lawful c.requires.plain.2 c.args.sets.now c.requires.sets;
      row_in = omega (arith, inside, back_count table filter sets rows plain count c.loop-row.view row low so_far);
      sized = back_sized table filter sets rows plain count c.loop-row.view row row low so_far memory lawful c.requires.plain.2;
      stays = λ leaf leaf_in. back_takes table filter sets rows plain count c.loop-row.view row row low so_far memory lawful c.requires.plain.2 leaf inside leaf_in;
    }

pub loop-row-preserved : goal.loop-row-preserved
loop-row-preserved g c = record {
  back = λ rows plain count.
      (let table = c.args.view.now in
      let filter = filter_term c.args._filter in
      let sets = map setting_of c.args.sets.now in
      let row = c.loop-row.row in
      let all : length (indices c.extents.result) ≡ length table.rows = ap (λ (e : List ℕ). length (indices e)) c.extents.ensures.value ∙ sym c.extents.ensures.table.rows in
      let inside : row < length table.rows = omega arith in
      let low : row ≤ length table.rows = omega arith in
      let so_far = c.loop-row.invariant.back rows plain count in
      let lawful = c.schedules_agree.ensures.lawful table filter sets rows c.laws_of_view.ensures.lawful plain in
      let same_rows : c.requires.plain.0 ≡ rows = (let both = sym c.requires.plain.1 ∙ plain in cc) in
      let memory = c.requires.plain.2 ∙ ap (λ (r : List (List ℤ)). memory_of (record table { rows = r })) same_rows in
      let held = back_held table filter sets rows plain count c.loop-row.view row row low so_far c.args.memory.now lawful memory in
      let through : c.asks.result.through ≡ lets_through (job_of table filter sets) row =
      ap (λ (a : Asks). a.through) c.asks.ensures ∙ (c.requires.planned.each row (record { reads = []; through = false }) inside).through in
      one_back table filter sets rows plain count c.loop-row.view c.store_asked.new.view row (row_held c.loop-row.view c.args.memory.now row) c.asks.result.through inside through held so_far
      c.store_asked.ensures.stored c.store_asked.ensures.left);
}

pub returns : goal.returns
returns g c =
    let table = c.args.view.now in
    let filter = filter_term c.args._filter in
    let sets = map setting_of c.args.sets.now in
    let rows = c.requires.plain.0 in
    let plain = c.requires.plain.1 in
    let count = updated_length (answer_of table) (kept_of table) filter sets table.extents table.rows rows (length table.rows) plain in
    let all : length (indices c.extents.result) ≡ length table.rows = ap (λ (e : List ℕ). length (indices e)) c.extents.ensures.value ∙ sym c.extents.ensures.table.rows in
    (rows, plain, all_back table filter sets rows plain count c.loop-row.view c.loop-row.row (omega arith) (c.loop-row.invariant.back rows plain count))
