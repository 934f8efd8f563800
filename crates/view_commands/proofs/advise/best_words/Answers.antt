use Rattle.view_commands.proofs.Imports.{◌≡◌, ◌∙◌, ℕ, List, ◌++◌, drop, codes, ap, digits_text, map_tokens, with_tokens_behind, term_of}
use Rattle.view_commands.proofs.Advice.{best_goes, rest_from}
use Rattle.view_commands.proofs.advise.best_words.Goals as goal

pub returns : goal.returns
returns c =
    let best = c.in-Some.best in
    let head : c.push_count.new.text.items ≡ codes "best " ++ digits_text best.cost = c.in_ok-push_count.ensures ∙ ap (λ (t : List ℕ). t ++ digits_text best.cost) (c.in_ok-push-2.ensures ∙ ap (λ (t : List ℕ). t ++ codes "best ") c.new-text.ensures.items) in
    let line : c.as_bytes.result.now ≡ with_tokens_behind (codes "mapping m =") (map_tokens (term_of best.expr)) = c.as_bytes.ensures.value ∙ c.as_str.ensures ∙ c.in_ok-line.ensures in
    let tail = c.in_ok-push-3.ensures ∙ ap (λ (t : List ℕ). c.push_count.new.text.items ++ t) (rest_from 11 c.as_bytes.result.now) ∙ ap (λ (t : List ℕ). t ++ drop 11 c.as_bytes.result.now) head in
    best_goes c.args.best best c.as_bytes.result.now _ c.in-Some.is line tail
