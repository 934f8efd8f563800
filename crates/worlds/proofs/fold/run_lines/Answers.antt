use Rattle.worlds.proofs.Imports.{◌≡◌, ◌∷◌, ℕ, List, length, ap, ◌∙◌, arith, [], lines_in}
use Rattle.worlds.proofs.Folding.{one_more, at_end, at_fault, at_unread, at_break, at_starved, cut_off}
use Rattle.worlds.proofs.fold.run_lines.Goals as goal

pub loop-line-preserved : goal.loop-line-preserved
loop-line-preserved g c =
    let cut : lines_in c.loop-line.rest.now ≡ c.in-Some.line.now ∷ lines_in c.in-Some.behind.now = c.in-Some.ensures.lines in
    let fewer = ap (λ (ls : List (List ℕ)). length ls) cut in
    record {
      so_far = λ files world told stands.
          let so = cut_off cut (c.loop-line.invariant.so_far files world told stands) in
          one_more g.S.Stepper.stands g.K.Sink.taken g.K.Sink.faults _ _ _ (g.S.Stepper.outcome c.args.first files) _ _ c.in-Some.line.now _ _ _ so ((rw c.loop-line.invariant.same at c.in-Ok.ensures.step) files so.world (c.loop-line.invariant.files ∙ told) so.stands);
      same = c.in-Ok.ensures.same ∙ c.loop-line.invariant.same;
      count = omega (arith, c.loop-line.invariant.count, fewer);
      files = c.step.ensures.files ∙ c.loop-line.invariant.files;
      reads = c.in-Ok.ensures.cause.0 ∙ c.loop-line.invariant.reads;
      writes = c.in-Ok.ensures.cause.1 ∙ c.loop-line.invariant.writes;
    }

pub returns-in-Command-clause-run : goal.returns-in-Command-clause-run
returns-in-Command-clause-run g c = λ files world told stands.
    let so = cut_off {cut = c.in-Some.line.now ∷ lines_in c.in-Some.behind.now} c.in-Some.ensures.lines (c.loop-line.invariant.so_far files world told stands) in
    let step = rw (c.in-Command.is, c.loop-line.invariant.same) at c.in-Err.ensures.step in
    rw c.ended.ensures (at_fault g.K.Sink.taken g.K.Sink.faults _ _ _ _ (g.S.Stepper.outcome c.args.first files) _ _ _ c.in-Some.line.now _ _ _ so (step files so.world (c.loop-line.invariant.files ∙ told) so.stands) c.write_fault.ensures)

pub returns-in-Source-clause-run : goal.returns-in-Source-clause-run
returns-in-Source-clause-run g c = λ files world told stands.
    let so = cut_off {cut = c.in-Some.line.now ∷ lines_in c.in-Some.behind.now} c.in-Some.ensures.lines (c.loop-line.invariant.so_far files world told stands) in
    let step = rw (c.in-Source.is, c.loop-line.invariant.same) at c.in-Err.ensures.step in
    let wider = rw c.loop-line.invariant.reads at step files so.world (c.loop-line.invariant.files ∙ told) so.stands in
    rw c.ended-in-Source.ensures (at_unread g.K.Sink.taken g.K.Sink.faults _ _ _ _ (g.S.Stepper.outcome c.args.first files) _ _ _ c.in-Some.line.now _ _ _ so wider (rw c.as_str.ensures at c.write_unread.ensures))

pub returns-in-Sink-clause-run : goal.returns-in-Sink-clause-run
returns-in-Sink-clause-run g c = λ files world told stands.
    let so = cut_off {cut = c.in-Some.line.now ∷ lines_in c.in-Some.behind.now} c.in-Some.ensures.lines (c.loop-line.invariant.so_far files world told stands) in
    let step = rw (c.in-Sink.is, c.loop-line.invariant.same) at c.in-Err.ensures.step in
    at_break g.K.Sink.taken g.K.Sink.faults _ _ _ (g.S.Stepper.outcome c.args.first files) _ _ _ c.in-Some.line.now _ so (step files so.world (c.loop-line.invariant.files ∙ told) so.stands)

pub returns-in-NoMemory-clause-run : goal.returns-in-NoMemory-clause-run
returns-in-NoMemory-clause-run g c = λ files world told stands.
    let so = cut_off {cut = c.in-Some.line.now ∷ lines_in c.in-Some.behind.now} c.in-Some.ensures.lines (c.loop-line.invariant.so_far files world told stands) in
    let step = rw (c.in-NoMemory.is, c.loop-line.invariant.same) at c.in-Err.ensures.step in
    at_starved g.K.Sink.taken g.K.Sink.faults _ _ _ (g.S.Stepper.outcome c.args.first files) _ _ _ c.in-Some.line.now _ so (step files so.world (c.loop-line.invariant.files ∙ told) so.stands)

pub returns-clause-run : goal.returns-clause-run
returns-clause-run g c = λ files world told stands.
    let none : lines_in c.loop-line.rest.now ≡ [] = rw c.in_default.is at c.next_line.ensures.lines in
    at_end g.K.Sink.taken g.K.Sink.faults _ _ (g.S.Stepper.outcome c.args.first files) _ _ _ (cut_off none (c.loop-line.invariant.so_far files world told stands))
