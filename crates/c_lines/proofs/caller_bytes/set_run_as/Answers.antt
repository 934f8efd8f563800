use Rattle.c_lines.proofs.Lemmas.{true, false, sym, ◌∙◌, no_rows, set_as}
use Rattle.c_lines.proofs.caller_bytes.set_run_as.Goals as goal

pub returns-then-not-is_run : goal.returns-then-not-is_run
returns-then-not-is_run g c =
    let none = no_rows c.args.bits c.args.sign c.args.first c.args.leaf c.in_ok-size.size c.args.bytes.now c.args.view.now c.in_ok-size.ensures.told (sym c.if-not-is_run.true ∙ c.is_run.ensures.run) in
    record { answer = none.0; left = none.1 }

pub returns-then-sign : goal.returns-then-sign
returns-then-sign g c =
    let done = set_as c.args.bits true c.args.first c.args.leaf c.in_ok-size.size c.args.bytes.now c.args.view.now c.in_ok-size.ensures.told c.store_bytes.new.view c.store_bytes.result (sym c.if-not-is_run.false ∙ c.is_run.ensures.run) c.store_bytes.ensures in
    rw c.if-sign.true (record { answer = done.0; left = done.1 })

pub returns : goal.returns
returns g c =
    let done = set_as c.args.bits false c.args.first c.args.leaf c.in_ok-size.size c.args.bytes.now c.args.view.now c.in_ok-size.ensures.told c.store_bytes-else-sign.new.view c.store_bytes-else-sign.result (sym c.if-not-is_run.false ∙ c.is_run.ensures.run) c.store_bytes-else-sign.ensures in
    rw c.if-sign.false (record { answer = done.0; left = done.1 })
