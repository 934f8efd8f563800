use Rattle.c_lines.proofs.Lemmas.{rules, ◌≡◌, List, ℤ, map, take, refl, sym, subst, Err, Result, ℕ, arith, map-id, LaneFault, IsFrontStored, front_refused}
use Rattle.c_lines.proofs.number.I64Number64.store_front.Goals as goal

pub returns-in_err-store_run-clause-stored : goal.returns-in_err-store_run-clause-stored
returns-in_err-store_run-clause-stored g c =
    let values = c.args.values.now in
    let count = c.min-count.result in
    let fault = c.in_err-store_run.field-0.0 in
    let is : c.from_residual.result ≡ Err fault = search rules in
    subst (λ (r : Result ℕ LaneFault). IsFrontStored c.args.leaf c.args.first (map (λ n. n) values) c.args.view.now c.store_run.new.self r) (sym is)
    (subst (λ (vs : List ℤ). IsFrontStored c.args.leaf c.args.first vs c.args.view.now c.store_run.new.self (Err fault)) (sym (map-id values))
    (front_refused c.args.leaf c.args.first count values (take count values) c.args.view.now c.store_run.new.self fault (omega arith) refl c.in_err-store_run.ensures.named c.in_err-store_run.ensures.stored))
