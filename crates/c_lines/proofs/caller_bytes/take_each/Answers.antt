use Rattle.c_lines.proofs.Imports.{◌≡◌, ◌*◌, length, drop, ℕ, pos, sym, ap, ◌∙◌, arith, take_rest, get_or-map-range_with_len, length-map-range_with_len, all, one_more, number_in, numbers_in}
use Rattle.c_lines.proofs.caller_bytes.take_each.Goals as goal

pub loop-k-preserved : goal.loop-k-preserved
loop-k-preserved g c =
    let size = c.args.size in
    let bytes = c.args.bytes.now in
    let count = length c.args.numbers.now in
    let k = c.loop-k.k in
    let at = λ (i : ℕ). number_in g.N.Number64.sign size (drop (size * i) bytes) in
    let here : g.N.Number64.number c.in_bytes.result ≡ at k = c.in_bytes.ensures ∙ ap (number_in g.N.Number64.sign size) (take_rest bytes (size * k)) in
    one_more g.N.Number64.number (numbers_in g.N.Number64.sign size count bytes) c.args.numbers.now c.loop-k.numbers k c.in_bytes.result (omega arith)
    (length-map-range_with_len at 0 count ∙ omega arith) c.loop-k.invariant
    (here ∙ sym (get_or-map-range_with_len at 0 count k k (pos 0) (omega arith) (omega arith)))

pub returns : goal.returns
returns g c =
    let size = c.args.size in
    let bytes = c.args.bytes.now in
    let count = length c.args.numbers.now in
    all g.N.Number64.number (numbers_in g.N.Number64.sign size count bytes) c.args.numbers.now c.loop-k.numbers c.loop-k.k (omega arith)
    (length-map-range_with_len (λ (i : ℕ). number_in g.N.Number64.sign size (drop (size * i) bytes)) 0 count ∙ omega arith) c.loop-k.invariant
