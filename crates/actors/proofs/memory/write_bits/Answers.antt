use Rattle.actors.proofs.Lemmas.{ℤ, ◌≡◌, ◌∙◌, subst, sym, ap, arith, rules, SFits, w128, to_z-of_z, IsIn, number, digit, IsCell, some_bits, few_bits, bit_count, apart, pieces_within, held, low_in, slice_index, common_steps, is_write}
use Rattle.actors.proofs.memory.write_bits.Given as given
use Rattle.actors.proofs.memory.write_bits.Goals as goal
use Rattle.actors.proofs.memory.write_bits.Goals.{After-as_slice}

at : (g : given.Over) (c : goal.After-as_slice g) →
    IsCell (g.M.Mapping.layout c.args.mapping.now) (g.M.Mapping.slot_count c.args.mapping.now) (g.M.Mapping.hold_list c.args.mapping.now)
    c.args.slot c.args.cell c.hold-hold.result c.as_slice.result.now
at g c =
    let m = c.args.mapping.now in
    record {
      laid = g.met.M.Mapping.laws m;
      slot_in = c.requires.slot_in;
      cell_in = omega (arith, g.met.M.Mapping.holds_cells m);
      is = c.hold-hold.ensures;
      located = grind (arith, slice_index);
    }

pub held-requires : goal.held-requires
held-requires g c = record { some = some_bits (at g c); narrow = few_bits (at g c) }

pub encode-requires : goal.encode-requires
encode-requires g c =
    let here = at g ((goal.at.encode-requires g c).After-as_slice) in
    let hold = c.hold-hold.result in
    let fits : SFits w128 c.held.result = search rules in
    let value_fits : SFits w128 c.args.value = search rules in
    let is : c.held.result ≡ held hold c.args.value = c.held.ensures ∙ ap (held hold) (to_z-of_z w128 c.args.value value_fits) in
    record {
      some = some_bits here;
      narrow = few_bits here;
      fits = subst (λ (v : ℤ). IsIn hold.signed hold.width v) (sym (to_z-of_z w128 c.held.result fits ∙ is)) (low_in hold.signed hold.width c.args.value (some_bits here));
    }

pub write_pieces-requires : goal.write_pieces-requires
write_pieces-requires g c =
    let here = at g ((goal.at.write_pieces-requires g c).After-as_slice) in
    record { within = grind (arith, common_steps, pieces_within); few = omega (arith, few_bits here, bit_count here); apart = apart here }

pub returns-clause-bits : goal.returns-clause-bits
returns-clause-bits g c =
    let here = at g ((goal.at.returns-clause-bits g c).After-as_slice) in
    let hold = c.hold-hold.result in
    let fits : SFits w128 c.held.result = search rules in
    let value_fits : SFits w128 c.args.value = search rules in
    let is : c.held.result ≡ held hold c.args.value = c.held.ensures ∙ ap (held hold) (to_z-of_z w128 c.args.value value_fits) in
    let code : c.encode.result ≡ number (digit (held hold c.args.value)) hold.width =
    c.encode.ensures ∙ ap (λ (v : ℤ). number (digit v) hold.width) (to_z-of_z w128 c.held.result fits ∙ is) in
    is_write here c.args.blobs.now.items c.write_pieces.new.blobs.items c.args.value c.encode.result code c.write_pieces.ensures.inside c.write_pieces.ensures.outside
