use Rattle.layout_cli.proofs.Imports.{◌++◌, map, flat_map, [], ◌∷◌, take, drop, ◌∙◌, script_text, with_line_end, generated_lines}
use Rattle.layout_cli.proofs.Texts.{more, grown_is}
use Rattle.layout_cli.proofs.script.gen_script.Goals as goal

pub returns : goal.returns
unfolding script_text
returns c =
    let lines = generated_lines c.args.n in
    let front = flat_map with_line_end (take 2 lines) in
    let back = flat_map with_line_end (drop 7 lines) in
    let begun = more front _ _ [] c.in_ok-push_str.ensures.ok c.new-text.ensures in
    let one = more _ _ _ _ c.in_ok-push_line.ensures begun in
    let two = more _ _ _ _ c.in_ok-push_line-2.ensures one in
    let three = more _ _ _ _ c.in_ok-push_line-3.ensures two in
    let four = more _ _ _ _ c.in_ok-push_line-4.ensures three in
    let five = more _ _ _ _ c.in_ok-push_line-5.ensures four in
    more back _ _ _ c.in_ok-push_str-2.ensures.ok five ∙ grown_is front (map with_line_end (take 5 (drop 2 lines)) ++ back ∷ [])
