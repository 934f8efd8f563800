use Rattle.map_checks.proofs.Lemmas.{◌≡◌, ◌+◌, ◌<◌, ◌∙◌, ◌∷◌, [], ◌++◌, ℕ, Bool, true, false, List, length, get_or, sym, ap, arith, length-append, not, count_by, count_by_more_yes, count_by_more_no, Rule, rank_first, rank_rest, rank_first_in, rank_rest_in, more_first, more_rest}
use Rattle.map_checks.proofs.split_rules.split_rules.Goals as goal
use Rattle.map_checks.proofs.split_rules.split_rules.Goals.{then-is_first+in_ok-push, else-is_first+in_ok-push-2}

pub loop-is_first-preserved : goal.loop-is_first-preserved
loop-is_first-preserved c =
    let side : List Bool = c.args.side.now in
    let k : ℕ = c.loop-is_first.is_first-index in
    let inside : k < length side = omega arith in
    let so_far = c.loop-is_first.invariant in
    let count : length c.loop-is_first.rules ≡ k = so_far.each in
    elim c.if-is_first.branch [
      | then-is_first+in_ok-push w ↦
          let yes : get_or side k false ≡ true = w.if-is_first.true in
          let pushed : c.if-is_first.rules ≡ c.loop-is_first.rules ++ w.shifted.result ∷ [] = w.rules-is ∙ w.in_ok-push.ensures.ok in
          let rank : c.loop-is_first.from_first ≡ rank_first side k = so_far.first_is in
          let low : rank_first side k < count_by (λ (s : Bool). s) side = rank_first_in side k inside yes in
          let size : length c.args.first.now ≡ count_by (λ (s : Bool). s) side = c.requires.first in
          record {
            each = ap (λ (rs : List Rule). length rs) pushed ∙ length-append c.loop-is_first.rules (w.shifted.result ∷ []) ∙ ap (λ (n : ℕ). n + 1) count;
            split = more_first side c.args.by c.args.first.now c.args.rest.now c.loop-is_first.rules c.if-is_first.rules k c.loop-is_first.from_first
                w.index-first-from_first.result w.shifted.result count inside so_far.split pushed yes rank (omega arith) w.index-first-from_first.is w.shifted.ensures;
            first_is = w.from_first-is ∙ ap (λ (n : ℕ). n + 1) rank ∙ sym (count_by_more_yes (λ (s : Bool). s) side k false inside yes);
            rest_is = w.from_rest-is ∙ so_far.rest_is ∙ sym (count_by_more_no not side k false inside (ap not yes));
          }
      | else-is_first+in_ok-push-2 w ↦
          let no' : get_or side k false ≡ false = w.if-is_first.false in
          let pushed : c.if-is_first.rules ≡ c.loop-is_first.rules ++ w.shifted-else-is_first.result ∷ [] = w.rules-is ∙ w.in_ok-push-2.ensures.ok in
          let rank : c.loop-is_first.from_rest ≡ rank_rest side k = so_far.rest_is in
          let low : rank_rest side k < count_by not side = rank_rest_in side k inside no' in
          let size : length c.args.rest.now ≡ count_by not side = c.requires.rest in
          record {
            each = ap (λ (rs : List Rule). length rs) pushed ∙ length-append c.loop-is_first.rules (w.shifted-else-is_first.result ∷ []) ∙ ap (λ (n : ℕ). n + 1) count;
            split = more_rest side c.args.by c.args.first.now c.args.rest.now c.loop-is_first.rules c.if-is_first.rules k c.loop-is_first.from_rest
                w.index-rest-from_rest.result w.shifted-else-is_first.result count inside so_far.split pushed no' rank (omega arith) w.index-rest-from_rest.is
                w.shifted-else-is_first.ensures;
            first_is = w.from_first-is ∙ so_far.first_is ∙ sym (count_by_more_no (λ (s : Bool). s) side k false inside no');
            rest_is = w.from_rest-is ∙ ap (λ (n : ℕ). n + 1) rank ∙ sym (count_by_more_yes not side k false inside (ap not no'));
          }
    ]
