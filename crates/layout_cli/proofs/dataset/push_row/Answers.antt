use Rattle.layout_cli.proofs.Imports.{◌≡◌, ◌++◌, ◌*◌, List, ℕ, pos, neg_ℤ, drop, codes, ap, ◌∙◌, refl, ◌%◌, ◌-◌, decimal_text, generated_row, row_text}
use Rattle.layout_cli.proofs.Texts.{value_more, grown_row_is}
use Rattle.layout_cli.proofs.dataset.push_row.Goals as goal

pub returns : goal.returns
returns c =
    let row = c.args.row in
    let one = value_more (pos row) (codes ",") _ _ _ c.in_ok-push_number.ensures refl in
    let two = value_more (neg_ℤ (pos row)) (codes ",") _ _ _ c.in_ok-push_negated.ensures one in
    let three = value_more (pos (row % 1000)) (codes ",") _ _ _ c.in_ok-push_number-2.ensures two in
    let four = value_more (pos (row % 2)) (codes ",") _ _ _ c.in_ok-push_number-3.ensures three in
    let five = value_more (pos (row % 256)) (codes ",") _ _ _ c.in_ok-push_number-4.ensures four in
    let six = value_more (pos (255 - row % 256)) (codes ",") _ _ _ c.in_ok-push_number-5.ensures five in
    let last : c.push_number-5.new.text ++ decimal_text (pos (65537 * row)) ++ codes "\n" ≡ c.args.text.now ++ row_text row =
    ap (λ (text : List ℕ). text ++ decimal_text (pos (65537 * row)) ++ codes "\n") six ∙ grown_row_is c.args.text.now (pos row) (drop 1 (generated_row row)) in
    rw last at c.push_number-6.ensures
