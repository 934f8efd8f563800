use Rattle.piece_bits.proofs.Lemmas.{◌≡◌, ℕ, List, [], ◌∷◌, sym, subst, IsRowPath, Walk, arith, list_of_two, column_path, digit_path}
use Rattle.piece_bits.proofs.path.by_lines.Goals as goal
use Rattle.piece_bits.proofs.path.by_lines.Goals.{After-of, in-Morton, in_default}

over : (c : After-of) → c.args.extents.now ≡ c.at.result ∷ c.of.result.columns ∷ []
over c = grind (arith, list_of_two)

pub returns : goal.returns
returns c =
    let order = c.args.order in
    let extents : List ℕ = c.args.extents.now in
    elim c.match-order.branch [
      | in-Morton w ↦
          subst (λ (way : Walk). IsRowPath order extents 0 way c.at.result c.of.result.columns) (sym w.result-is)
          (digit_path order extents c.at.result c.of.result.columns (over c) w.in-Morton.is)
      | in_default w ↦
          subst (λ (way : Walk). IsRowPath order extents 0 way c.at.result c.of.result.columns) (sym w.result-is)
          (column_path order extents c.at.result c.of.result.columns (over c) c.requires.order w.in_default.not-Morton)
    ]
