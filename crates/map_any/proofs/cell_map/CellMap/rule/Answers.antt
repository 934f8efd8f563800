use Rattle.map_any.proofs.Lemmas.{◌≡◌, ◌<◌, ◌∙◌, ℕ, List, length, get_or, ap, arith, schema_fields, term_of, Rule, CellMap, common_steps, has_rule, rule_in}
use Rattle.map_any.proofs.cell_map.CellMap.rule.Goals as goal

inside : (m : CellMap) (rules : List Rule) (cell : ℕ) → rules ≡ m.plan.rules → cell < length m.cells.items → cell < length rules
inside m rules cell is low = grind (arith, has_rule)

pub bounds-as_slice-cell : goal.bounds-as_slice-cell
bounds-as_slice-cell c = inside c.args.self.now c.as_slice.result.now c.args.cell c.as_slice.ensures c.requires

pub offset_bounds-as_slice-cell : goal.offset_bounds-as_slice-cell
offset_bounds-as_slice-cell c = grind (arith, common_steps, inside)

pub returns : goal.returns
returns c =
    let m = c.args.self.now in
    let item : Rule = c.index-as_slice-cell.result in
    rule_in (term_of m.expr) m.extents (schema_fields m.schema) m.cells.items m.plan m.made c.args.cell c.requires item
    (c.index-as_slice-cell.is ∙ ap (λ (rs : List Rule). get_or rs c.args.cell item) c.as_slice.ensures)
