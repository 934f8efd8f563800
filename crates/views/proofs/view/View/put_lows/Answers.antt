use Rattle.views.proofs.Lemmas.{◌≡◌, ℤ, pos, get_or, length, map, to_z, of_z, w64, sym, ap, subst, ◌∙◌, rules, arith, w128, to_z-of_z, get_or-map, length-map, LeafType, declared, declared_same, length-with_column, raised, Table, leaf_type_of, IsSettledIn, kind_seen, some_seen, fit_settled, stored_more, all_stored}
use Rattle.views.proofs.view.View.put_lows.Goals as goal
use Rattle.views.proofs.view.View.put_lows.Goals.{After-raised, In-loop-k}

-- no row is gone
rows : (c : In-loop-k) → length c.loop-k.self.rows ≡ length c.args.self.now.rows
rows c = grind (arith, length-with_column)

pub row_after-row-requires : goal.row_after-row-requires
row_after-row-requires c = omega (arith, rows (goal.at.row_after-row-requires c).In-loop-k, c.requires.rows_in)

pub store-requires-clause-row_in : goal.store-requires-clause-row_in
store-requires-clause-row_in c = omega (arith, c.row_after-row.ensures, rows (goal.at.store-requires-clause-row_in c).In-loop-k, c.requires.rows_in)

-- the value of a row
value : (c : After-raised) → to_z w128 (of_z w128 c.raised.result) ≡ raised (leaf_type_of c.args.self.now c.args.leaf) (get_or c.args.lows.now c.loop-k.k (pos 0))
value c =
    let low = get_or c.args.lows.now c.loop-k.k (pos 0) in
    let kind_is = kind_seen c.self.invariant.1 c.self.view_is c.args.leaf c.leaf_type-kind.result c.leaf_type-kind.ensures in
    to_z-of_z w128 c.raised.result (search rules) ∙ c.raised.ensures ∙ ap (raised c.leaf_type-kind.result) (to_z-of_z w64 low (search rules)) ∙ ap (λ (k : LeafType). raised k low) (sym kind_is)

pub store-requires-clause-settled : goal.store-requires-clause-settled
store-requires-clause-settled c =
    let old = c.args.self.now in
    let leaf = c.args.leaf in
    let fits = c.requires.fits c.loop-k.k c.loop-k-test.true in
    let some = some_seen c.self.invariant.1 c.self.view_is leaf c.requires.leaf_in in
    subst (λ (t : Table). IsSettledIn t leaf (to_z w128 (of_z w128 c.raised.result))) (sym c.loop-k.invariant.stored)
    (subst (λ (v : ℤ). IsSettledIn old leaf v) (sym (value (goal.at.store-requires-clause-settled c).After-raised)) (fit_settled old leaf (raised (leaf_type_of old leaf) (get_or c.args.lows.now c.loop-k.k (pos 0))) some fits))

pub loop-k-preserved : goal.loop-k-preserved
loop-k-preserved c =
    let old = c.args.self.now in
    let leaf = c.args.leaf in
    let kind = leaf_type_of old leaf in
    let k = c.loop-k.k in
    let lows = c.args.lows.now in
    let fits = c.requires.fits k c.loop-k-test.true in
    let same = value (goal.at.loop-k-preserved c).After-raised in
    let is : declared kind _ ≡ get_or (map (raised kind) lows) k (pos 0) =
    ap (declared kind) same ∙ declared_same kind (raised kind (get_or lows k (pos 0))) fits.declared ∙ sym (get_or-map (raised kind) lows k (pos 0) (pos 0) c.loop-k-test.true) in
    stored_more leaf c.args.first k c.row_after-row.result old c.loop-k.self c.store.new.self (map (raised kind) lows) _ c.loop-k.invariant
    (omega (arith, c.loop-k-test.true, length-map lows (raised kind))) (omega (arith, c.loop-k-test.true, c.requires.rows_in)) c.row_after-row.ensures is c.store.ensures

pub returns : goal.returns
returns c =
    let values = map (raised (leaf_type_of c.args.self.now c.args.leaf)) c.args.lows.now in
    let end : c.loop-k.k ≡ length c.args.lows.now = omega (arith, c.put_near-done.ensures.few) in
    all_stored c.args.leaf c.args.first c.loop-k.k (length c.args.lows.now) c.args.self.now c.loop-k.self values c.loop-k.invariant end
    (length-map c.args.lows.now (raised (leaf_type_of c.args.self.now c.args.leaf)))
