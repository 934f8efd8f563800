use Rattle.record_dim.specs.Std.{is_ascii_digit}
use Rattle.line_tokens.specs.DecimalLaws.{AllPass-take_prefix_len}
use Rattle.line_tokens.proofs.token.number_at.Goals as goal

pub value_of-requires : goal.value_of-requires
value_of-requires c = rw c.count_digits-length.ensures.count (AllPass-take_prefix_len is_ascii_digit c.args.rest.now)
