use Rattle.record_dim.specs.Std.{[], Some, sym, refl, append-nil, arith, common_steps}
use Rattle.line_tokens.specs.Spots.{Spots}
use Rattle.line_tokens.specs.SpotLaws.{brackets_after-le, Spots-more, same_spots, spot_at, spots_inside}
use Rattle.line_tokens.proofs.spots.spots_of.Goals as goal

pub returns-in-End : goal.returns-in-End
returns-in-End c =
    let all : Spots c.args.text.now 0 0 c.loop-spots.spots = rw append-nil at (c.loop-spots.invariant.found [] (sym c.in-End.ensures.next)) in
    record { spots = all; inside = spots_inside c.args.text.now 0 0 c.loop-spots.spots (omega arith) all; only = λ other h. same_spots c.args.text.now 0 0 c.loop-spots.spots other all h }

pub returns-in-Bad : goal.returns-in-Bad
returns-in-Bad c = grind (arith, common_steps, spots_inside, same_spots)

pub loop-spots-preserved : goal.loop-spots-preserved
loop-spots-preserved c =
    let text = c.args.text.now in let t = c.in-Token in
    let next = sym t.ensures.next in let inside = t.ensures.inside in
    record {
      within = omega arith;
      few = rw c.brackets_after-brackets.ensures (brackets_after-le text c.loop-spots.at c.loop-spots.brackets t.from t.end t.kind next c.loop-spots.invariant.few);
      found = λ rest h. rw c.in_ok-push-in-Token.ensures.ok
          (Spots-more text c.loop-spots.spots c.loop-spots.at c.loop-spots.brackets (spot_at t.from t.end (Some t.kind)) t.kind refl next c.loop-spots.invariant.found rest (rw c.brackets_after-brackets.ensures at h));
    }
