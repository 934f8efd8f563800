use Rattle.layout_io.proofs.Imports.{◌≡◌, ◌++◌, IsErr, rules, take-append-drop, Gathers-trans, Gathers-append, GathersOrStops-err, Stopped-gathered}
use Rattle.layout_io.proofs.Puts.{PutsFront-more, PutsFront-stop, PutsFront-all}
use Rattle.layout_io.proofs.text_buffer.TextBuffer.put_long.Goals as goal

pub returns-in_err-flush-clause-gathers : goal.returns-in_err-flush-clause-gathers
returns-in_err-flush-clause-gathers g c = λ first text gathers.
    let parts : c.split_at.result.0.now ++ c.split_at.result.1.now ≡ c.loop-rest.rest.now = rw (c.split_at.ensures.front, c.split_at.ensures.back) (take-append-drop _ _) in
    let err : IsErr c.from_residual.result = search rules in
    GathersOrStops-err _ _ err (Stopped-gathered (Gathers-append c.args.piece.now gathers) (PutsFront-stop _ _ _ _ parts c.append.ensures c.loop-rest.invariant c.in_err-flush.ensures.writes))

pub loop-rest-preserved : goal.loop-rest-preserved
loop-rest-preserved g c =
    let parts : c.split_at.result.0.now ++ c.split_at.result.1.now ≡ c.loop-rest.rest.now = rw (c.split_at.ensures.front, c.split_at.ensures.back) (take-append-drop _ _) in
    rw c.in_ok-flush.ensures.emptied (PutsFront-more _ _ _ _ parts c.append.ensures c.loop-rest.invariant c.in_ok-flush.ensures.writes)

pub returns-clause-gathers : goal.returns-clause-gathers
returns-clause-gathers g c = λ first text gathers. rw c.append-2.ensures (Gathers-trans (Gathers-append c.args.piece.now gathers) (PutsFront-all c.loop-rest.invariant))
