-- Rules of cells that lie in arrays.
use Rattle.map_checks.proofs.Imports.{◌≡◌, ℕ, ◌^◌, ◌≤◌, List, [], ◌∷◌, map, Owner, Hold, AreRulesOf, IsDense, PieceRule, IsArray, AreArrays, Rule, arith, rules}

-- the rule of one piece
pub array_rule : (layout : List (List Owner)) (slots lanes cell width : ℕ) (piece : PieceRule) (rule : Rule) → slots ≤ 2 ^ 24 → rule.pieces.items ≡ piece ∷ [] → piece.bits ≡ width
    → AreRulesOf layout slots cell width (piece ∷ []) → IsDense lanes piece → IsArray layout slots lanes cell width rule
array_rule layout slots lanes cell width piece rule few is bits places dense = grind arith

-- the rules of a base mapping
pub base_arrays : (made layout : List (List Owner)) (count slots lane_count lanes : ℕ) (holds stored : List Hold) (rules : List Rule) → made ≡ layout → count ≡ slots → lane_count ≡ lanes
    → holds ≡ stored → AreArrays made count lane_count (map (λ (h : Hold). h.width) holds) rules → AreArrays layout slots lanes (map (λ (h : Hold). h.width) stored) rules
base_arrays made layout count slots lane_count lanes holds stored rules a b c d h = grind arith
