use Rattle.piece_bits.proofs.Lemmas.{◌∙◌, sym, subst, rules, SFits, w128, to_z-of_z, IsWithin64, number_within}
use Rattle.piece_bits.proofs.read.number_at.Goals as goal

pub low_of-requires : goal.low_of-requires
low_of-requires c =
    let fits : SFits w128 c.read_word.result = search rules in
    subst IsWithin64 (sym (to_z-of_z w128 c.read_word.result fits ∙ c.read_word.ensures)) (number_within c.args.word c.args.field.now c.args.blob.now c.args.place c.requires.form)
