use Rattle.map_any.proofs.Lemmas.{◌≡◌, List, schema_fields, Fields, Cell, Term, term_of, arith, good_parts, good_number}
use Rattle.map_any.proofs.cell_map.CellMap.new.Goals as goal

-- what is said of an expression, leaves and cells is said of equal ones
of_equal : (P : Term → Fields → List Cell → Type 0) {t u : Term} {f g : Fields} {c d : List Cell} → u ≡ t → g ≡ f → d ≡ c → P t f c → P u g d
of_equal P {t} {u} {f} {g} {c} {d} terms trees lists h = grind arith

pub invariant_of-result : goal.invariant_of-result
invariant_of-result c =
    let term : Term = term_of c.args.expr.now in
    let fields : Fields = schema_fields c.args.schema.now in
    let cells : List Cell = c.args.cells.now in
    grind (arith, good_number, of_equal, good_parts)
