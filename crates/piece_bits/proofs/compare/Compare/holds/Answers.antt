use Rattle.piece_bits.proofs.Imports.{◌≡◌, ℤ, Some, ap, sym, ◌∙◌, arith, int_le, int_cmp, is_le, is_some_and, ints, compares}
use Rattle.piece_bits.proofs.compare.Compare.holds.Goals as goal

at_most : (x y : ℤ) → is_some_and is_le (Some (int_cmp x y)) ≡ int_le x y
at_most x y = grind (arith, ints)

pub returns-in-Le : goal.returns-in-Le
returns-in-Le g c =
    c.le.ensures ∙ ap (is_some_and is_le) (g.met.T.Number.order_law c.args.value c.args.c g.met.T.Integral.exact_law)
    ∙ at_most (g.T.Number.value c.args.value) (g.T.Number.value c.args.c)
    ∙ ap (λ op. compares op (g.T.Number.value c.args.value) (g.T.Number.value c.args.c)) (sym c.in-Le.is)

pub returns-in-Ge : goal.returns-in-Ge
returns-in-Ge g c =
    c.le-in-Ge.ensures ∙ ap (is_some_and is_le) (g.met.T.Number.order_law c.args.c c.args.value g.met.T.Integral.exact_law)
    ∙ at_most (g.T.Number.value c.args.c) (g.T.Number.value c.args.value)
    ∙ ap (λ op. compares op (g.T.Number.value c.args.value) (g.T.Number.value c.args.c)) (sym c.in-Ge.is)
