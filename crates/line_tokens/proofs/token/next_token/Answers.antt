use Rattle.record_dim.specs.Std.{◌≡◌, arith, common_steps}
use Rattle.line_tokens.specs.Next.{next_of}
use Rattle.line_tokens.specs.NextTokenLaws.{end_exactly, bad_exactly, token_exactly, number_value, next_inside}
use Rattle.line_tokens.proofs.token.next_token.Goals as goal

pub returns : goal.returns
returns c =
    let text = c.args.text.now in let at = c.args.at in let brackets = c.args.brackets in
    let is : c.standing.result ≡ next_of text at brackets = grind (arith, common_steps) in
    record {
      end = rw is (end_exactly text at brackets);
      bad = λ from. rw is (bad_exactly text at brackets from);
      token = λ from end kind. rw is (token_exactly text at brackets from end kind);
      number = λ from end value e. number_value text at brackets from end value (rw is at e);
      inside = rw is (next_inside text at brackets c.requires.within);
      next = is;
    }
