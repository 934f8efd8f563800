use Rattle.row_updates.proofs.Lemmas.{◌≡◌, ◌∙◌, ℕ, List, length, sym, ap, bound_term, indices, none_rows, from_none, whole_count}
use Rattle.row_updates.proofs.count.count_where.Goals as goal

pub returns : goal.returns
returns g c =
    let view = c.args.view.now in
    let filter = bound_term c.args.filter.now in
    let rows : c.count-count.result ≡ length view.rows =
    c.count-count.ensures.rows ∙ ap (λ (e : List ℕ). length (indices e)) c.extents-2.ensures.value ∙ sym c.extents-2.ensures.table.rows in
    let none = none_rows view filter in
    let all = whole_count view c.count_between.new.view filter c.count-count.result c.count_between.result rows (from_none view c.count_between.new.view filter c.count-count.result c.count_between.result (c.count_between.ensures.done view 0 none)) (c.count_between.ensures.stopped view 0 none) in
    record { value = all.value; same = all.same; so_far = all.so_far }
