use Rattle.map_bytes.proofs.Imports.{◌≡◌, ℕ, ◌+◌, ◌*◌, ◌/◌, ◌≤◌, List, length, get_or, take, ap, ◌∙◌, arith, flat_map, sum_by, sum_by_more_le, PieceRule, rule_byte, rule_bytes, length-parts, sum_of_bytes}
use Rattle.map_bytes.proofs.swap.swap_rules.Goals as goal

pub push_bytes-requires-clause-room : goal.push_bytes-requires-clause-room
push_bytes-requires-clause-room c =
    let rules : List PieceRule = c.args.inner.now.items in
    let items : List PieceRule = c.as_slice-rule-items.result.now in
    let i : ℕ = c.loop-rule.rule-index in
    let item : PieceRule = c.rule-item.result in
    let bytes : PieceRule → ℕ = λ (r : PieceRule). r.bits / 8 in
    let same : items ≡ rules = c.as_slice-rule-items.ensures.value in
    let size : length items ≡ length rules = ap (λ (rs : List PieceRule). length rs) same in
    let read : item ≡ get_or rules i item = c.rule-item.is ∙ ap (λ (rs : List PieceRule). get_or rs i item) same in
    let here : bytes item ≡ bytes (get_or rules i item) = ap bytes read in
    let so_far : c.loop-rule.bytes.items ≡ flat_map rule_bytes (take i rules) = c.loop-rule.invariant in
    let made : length c.loop-rule.bytes.items ≡ sum_by bytes (take i rules) =
    ap (λ (rs : List PieceRule). length rs) so_far ∙ length-parts rule_byte bytes (take i rules) in
    let within : sum_by bytes (take i rules) + bytes (get_or rules i item) ≤ sum_by bytes rules =
    sum_by_more_le bytes rules i item (omega (arith, c.loop-rule-test.true)) in
    let all : sum_by (λ (r : PieceRule). r.bits) rules ≡ 8 * sum_by bytes rules = sum_of_bytes (λ (r : PieceRule). r.bits) rules c.requires.whole in
    let few : sum_by (λ (r : PieceRule). r.bits) rules ≤ 64 = c.requires.few in
    let z : length c.loop-rule.bytes.items + bytes item ≤ 8 = omega arith in
    z
