use Rattle.piece_bits.proofs.Lemmas.{sym, subst, IsRowPath, Walk, plain_path, block_path}
use Rattle.piece_bits.proofs.path.by_rows.Goals as goal
use Rattle.piece_bits.proofs.path.by_rows.Goals.{then-power-eq0, else-power-eq0}

pub returns : goal.returns
returns c =
    let order = c.args.order in
    let extents = c.args.extents.now in
    elim c.if-power-eq0.branch [
      | then-power-eq0 w ↦
          subst (λ (way : Walk). IsRowPath order extents c.args.power way 1 c.of.result.columns) (sym w.result-is)
          (plain_path order extents c.args.power 1 c.of.result.columns c.requires w.if-power-eq0.true)
      | else-power-eq0 w ↦
          subst (λ (way : Walk). IsRowPath order extents c.args.power way 1 c.of.result.columns) (sym w.result-is)
          (block_path order extents c.args.power 1 c.of.result.columns c.requires)
    ]
