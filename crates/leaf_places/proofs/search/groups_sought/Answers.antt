use Rattle.leaf_places.proofs.Imports.{false, refl, sym, ◌∙◌, arith, spot_by}
use Rattle.leaf_places.proofs.Leading.{way_of, ahead_of, leads_on, leaves_later, below_of, sought_some}
use Rattle.leaf_places.proofs.search.groups_sought.Goals as goal

pub returns-in_err-one-clause-only : goal.returns-in_err-one-clause-only
returns-in_err-one-clause-only g c blob base lanes lane block some along none =
    absurd (c.in_err-one.ensures blob (spot_by false base lanes lane block) (way_of c.args.sought _ blob base lanes lane block some along))

pub returns-then-led-eq0-clause-only : goal.returns-then-led-eq0-clause-only
returns-then-led-eq0-clause-only g c blob base lanes lane block some along none =
    let begun = c.in_ok-one.ensures blob (spot_by false base lanes lane block) (way_of c.args.sought _ blob base lanes lane block some along) in
    let led_in = below_of _ _ c.rows_led-led.ensures.few (λ e. c.if-led-rows.false (e ∙ sym c.slots-rows.ensures)) in
    let later = leaves_later c.laws_of.ensures.lawful c.args.sought (sought_some c.laws_of.ensures.lawful c.args.sought c.requires.sought) blob base lanes lane block some along
    c.in_ok-one.one begun c.rows_led-led.result led_in c.rows_led-led.ensures.led (c.rows_led-led.ensures.astray led_in) in
    absurd (omega (arith, later, c.if-led-eq0.true))

pub returns-in_err-block-clause-only : goal.returns-in_err-block-clause-only
returns-in_err-block-clause-only g c blob base lanes lane block some along none =
    let begun = c.in_ok-one.ensures blob (spot_by false base lanes lane block) (way_of c.args.sought _ blob base lanes lane block some along) in
    let led = c.rows_led-led.result in
    let led_in = below_of _ _ c.rows_led-led.ensures.few (λ e. c.if-led-rows.false (e ∙ sym c.slots-rows.ensures)) in
    let ahead = ahead_of c.laws_of.ensures.lawful c.args.sought (sought_some c.laws_of.ensures.lawful c.args.sought c.requires.sought) blob base lanes lane block some along
    c.in_ok-one.one begun led led_in c.rows_led-led.ensures.led (c.rows_led-led.ensures.astray led_in) in
    absurd (c.in_err-block.ensures blob (spot_by false base lanes lane block led) (along led led_in) ahead)

pub returns-else-rows_led-rows-clause-only : goal.returns-else-rows_led-rows-clause-only
returns-else-rows_led-rows-clause-only g c blob base lanes lane block some along none =
    let begun = c.in_ok-one.ensures blob (spot_by false base lanes lane block) (way_of c.args.sought _ blob base lanes lane block some along) in
    let led = c.rows_led-led.result in
    let led_in = below_of _ _ c.rows_led-led.ensures.few (λ e. c.if-led-rows.false (e ∙ sym c.slots-rows.ensures)) in
    let wide = sought_some c.laws_of.ensures.lawful c.args.sought c.requires.sought in
    let ahead = ahead_of c.laws_of.ensures.lawful c.args.sought wide blob base lanes lane block some along
    c.in_ok-one.one begun led led_in c.rows_led-led.ensures.led (c.rows_led-led.ensures.astray led_in) in
    let jumps = c.in_ok-block.ensures blob (spot_by false base lanes lane block led) (along led led_in) ahead in
    let at = c.rows_led.result in
    let at_in = below_of _ _ c.rows_led.ensures.few (λ e. c.if-rows_led-rows.false (e ∙ sym c.slots-rows.ensures)) in
    c.rows_led.ensures.astray at_in
    (leads_on c.laws_of.ensures.lawful c.args.sought wide blob base lanes lane block some along c.in_ok-one.one begun led led_in c.rows_led-led.ensures.led
    (c.rows_led-led.ensures.astray led_in) c.in_ok-block.block jumps at at_in (spot_by false c.in_ok-one.one.base led c.in_ok-one.one.lane c.in_ok-block.block) (λ n. refl))
