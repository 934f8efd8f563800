use Rattle.record_dim.specs.Std.{rules, ◌∙◌, SFits, w32, to_z-of_z}
use Rattle.llama_c.proofs.messages.lly_message.Goals as goal

pub returns : goal.returns
returns c =
    let fits : SFits w32 c.args.answer = search rules in
    let made : SFits w32 c.code.result = search rules in
    record {
      answer = c.put_message.result;
      tells = rw (to_z-of_z w32 c.args.answer fits) at c.put_message.ensures;
      code_is = to_z-of_z w32 c.code.result made ∙ c.code.ensures;
    }
