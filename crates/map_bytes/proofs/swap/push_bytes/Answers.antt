use Rattle.map_bytes.proofs.Imports.{◌≡◌, ℕ, ◌+◌, List, [], ◌∷◌, ◌++◌, map, sym, ap, ◌∙◌, arith, length-append, append_assoc, range_with_len, length-map-range_with_len, map-range_with_len_more, PieceRule, rule_byte, common_steps}
use Rattle.map_bytes.proofs.swap.push_bytes.Goals as goal

pub push-requires : goal.push-requires
push-requires c = grind (arith, common_steps, range_with_len, length-map-range_with_len, length-append)

pub loop-byte-preserved : goal.loop-byte-preserved
loop-byte-preserved c =
    let byte : ℕ → PieceRule = λ (j : ℕ). rule_byte j c.args.rule.now in
    let old : List PieceRule = c.args.bytes.now.items in
    let so_far : c.loop-byte.bytes.items ≡ old ++ map byte (range_with_len 0 c.loop-byte.byte) = c.loop-byte.invariant in
    let start : 0 + c.loop-byte.byte ≡ c.loop-byte.byte = omega arith in
    c.push.ensures.items
    ∙ ap (λ (rs : List PieceRule). rs ++ c.byte_of.result ∷ []) so_far
    ∙ ap (λ (r : PieceRule). (old ++ map byte (range_with_len 0 c.loop-byte.byte)) ++ r ∷ []) c.byte_of.ensures
    ∙ append_assoc old (map byte (range_with_len 0 c.loop-byte.byte)) (byte c.loop-byte.byte ∷ [])
    ∙ ap (λ (rs : List PieceRule). old ++ rs) (sym (map-range_with_len_more byte 0 c.loop-byte.byte c.loop-byte.byte start))
