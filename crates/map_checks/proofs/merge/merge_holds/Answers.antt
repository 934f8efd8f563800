use Rattle.map_checks.proofs.Imports.{◌≡◌, ◌+◌, ◌<◌, ◌∙◌, ◌∷◌, [], ◌++◌, ℕ, Bool, true, false, List, suc, length, get_or, take, sym, ap, arith, not, count_by, get_or_from_slice_get, count_by_more_yes, count_by_more_no, Hold, merged, rank_first, rank_rest, rank_first_in, rank_rest_in, merged_more_first, merged_more_rest}
use Rattle.map_checks.proofs.merge.merge_holds.Goals as goal
use Rattle.map_checks.proofs.merge.merge_holds.Goals.{then-is_first+in_ok-push, else-is_first+in_ok-push-2}

pub loop-is_first-preserved : goal.loop-is_first-preserved
loop-is_first-preserved c =
    let side : List Bool = c.args.side.now in
    let first : List Hold = c.args.first.now in
    let rest : List Hold = c.args.rest.now in
    let k : ℕ = c.loop-is_first.is_first-index in
    let inside : k < length side = omega arith in
    let next : k + 1 ≡ suc k = omega arith in
    let so_far = c.loop-is_first.invariant in
    let size : length first ≡ count_by (λ (s : Bool). s) side = c.requires.first in
    let size' : length rest ≡ count_by not side = c.requires.rest in
    elim c.if-is_first.branch [
      | then-is_first+in_ok-push w ↦
          let yes : get_or side k false ≡ true = w.if-is_first.true in
          let rank : c.loop-is_first.from_first ≡ rank_first side k = so_far.1 in
          let low : rank_first side k < count_by (λ (s : Bool). s) side = rank_first_in side k inside yes in
          let item : Hold = w.hold_at.result in
          let read : get_or first (rank_first side k) item ≡ item =
          ap (λ (i : ℕ). get_or first i item) (sym rank) ∙ get_or_from_slice_get first c.loop-is_first.from_first item item w.hold_at.ensures in (
            w.holds-is ∙ w.in_ok-push.ensures.ok ∙ ap (λ (hs : List Hold). hs ++ item ∷ []) so_far.0
                ∙ sym (ap (λ (n : ℕ). merged (take n side) first rest) next
                ∙ merged_more_first item side first rest k inside yes (omega arith) (omega arith)
                ∙ ap (λ (h : Hold). merged (take k side) first rest ++ h ∷ []) read),
            w.from_first-is ∙ ap (λ (n : ℕ). n + 1) rank ∙ sym (count_by_more_yes (λ (s : Bool). s) side k false inside yes),
            w.from_rest-is ∙ so_far.2 ∙ sym (count_by_more_no not side k false inside (ap not yes)),
          )
      | else-is_first+in_ok-push-2 w ↦
          let no' : get_or side k false ≡ false = w.if-is_first.false in
          let rank : c.loop-is_first.from_rest ≡ rank_rest side k = so_far.2 in
          let low : rank_rest side k < count_by not side = rank_rest_in side k inside no' in
          let item : Hold = w.hold_at-else-is_first.result in
          let read : get_or rest (rank_rest side k) item ≡ item =
          ap (λ (i : ℕ). get_or rest i item) (sym rank) ∙ get_or_from_slice_get rest c.loop-is_first.from_rest item item w.hold_at-else-is_first.ensures in (
            w.holds-is ∙ w.in_ok-push-2.ensures.ok ∙ ap (λ (hs : List Hold). hs ++ item ∷ []) so_far.0
                ∙ sym (ap (λ (n : ℕ). merged (take n side) first rest) next
                ∙ merged_more_rest item side first rest k inside no' (omega arith) (omega arith)
                ∙ ap (λ (h : Hold). merged (take k side) first rest ++ h ∷ []) read),
            w.from_first-is ∙ so_far.1 ∙ sym (count_by_more_no (λ (s : Bool). s) side k false inside no'),
            w.from_rest-is ∙ ap (λ (n : ℕ). n + 1) rank ∙ sym (count_by_more_yes not side k false inside (ap not no')),
          )
    ]
