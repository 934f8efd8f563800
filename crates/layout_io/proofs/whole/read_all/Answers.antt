use Rattle.layout_io.proofs.Imports.{◌≡◌, ◌+◌, ◌≤◌, ◌++◌, ◌∙◌, length, take, refl, rules, arith, common_steps}
use Rattle.layout_io.proofs.ReadsFront.{ReadsFront-none, ReadsFront-more, ReadsFront-all}
use Rattle.layout_io.proofs.whole.read_all.Goals as goal

pub loop-count-init : goal.loop-count-init
loop-count-init g c = (rw c.new-bytes.ensures.items (ReadsFront-none _ _ _ _ _), refl)

pub returns-then-count-eq0-clause-whole : goal.returns-then-count-eq0-clause-whole
returns-then-count-eq0-clause-whole g c =
    let so_far = c.loop-count.invariant.0 in
    let here : c.len.result ≡ length c.loop-count.bytes.items = c.len.ensures ∙ c.loop-count.bytes.ok.0 in
    (ReadsFront-all c.read_at.new.into so_far (rw (here, c.if-count-eq0.true) at c.in-Ok.ensures.bytes) (search rules), so_far.within, c.in-Ok.ensures.ok ∙ so_far.unfailed)

pub loop-count-preserved : goal.loop-count-preserved
loop-count-preserved g c =
    let so_far = c.loop-count.invariant.0 in
    let here : c.len.result ≡ length c.loop-count.bytes.items = c.len.ensures ∙ c.loop-count.bytes.ok.0 in
    let items : c.extend_from_slice.new.self.items ≡ c.loop-count.bytes.items ++ take c.in-Ok.count c.read_at.new.into = grind (arith, common_steps) in
    let room : length c.loop-count.bytes.items + c.in-Ok.count ≤ c.args.limit = omega (arith, so_far.within) in
    (rw items (ReadsFront-more _ c.in-Ok.count _ so_far c.in-Ok.ensures.files c.in-Ok.ensures.ok (rw here at c.in-Ok.ensures.bytes) (search rules) room), search rules)
