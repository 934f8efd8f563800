use Rattle.actors.proofs.Lemmas.{◌≡◌, ℕ, List, [], length, map, get_or, ap, ◌∙◌, arith, option_map, Owner, run_owner, owners_of, actor_of, blob_first, blob_here, blob_later}
use Rattle.actors.proofs.cuts.check_cuts.Goals as goal

pub returns-in-Some-clause-shared : goal.returns-in-Some-clause-shared
returns-in-Some-clause-shared c =
    let layout = owners_of c.args.view.now in
    let actor = actor_of c.args.cuts.now in
    let blob = c.loop-blob.blob in
    let same : c.deref.result.now ≡ map run_owner (get_or layout blob []) =
    c.deref.ensures.value ∙ c.in_ok-owners.ensures ∙ ap (λ (l : List (List Owner)). map run_owner (get_or l blob [])) c.map-map.ensures.layout in
    c.loop-blob.invariant.so_far
    ∙ blob_here layout actor blob (record { blob = blob; byte = c.in-Some.byte }) (omega (arith, ap {B = ℕ} length c.map-map.ensures.layout))
    (blob_first layout actor blob c.deref.result.now c.first_shared.result same c.first_shared.ensures ∙ ap (option_map (λ byte. record { blob = blob; byte = byte })) c.in-Some.is)

pub loop-blob-preserved : goal.loop-blob-preserved
loop-blob-preserved c =
    let layout = owners_of c.args.view.now in
    let actor = actor_of c.args.cuts.now in
    let blob = c.loop-blob.blob in
    let same : c.deref.result.now ≡ map run_owner (get_or layout blob []) =
    c.deref.ensures.value ∙ c.in_ok-owners.ensures ∙ ap (λ (l : List (List Owner)). map run_owner (get_or l blob [])) c.map-map.ensures.layout in
    record {
      so_far = c.loop-blob.invariant.so_far
          ∙ blob_later layout actor blob (omega (arith, ap {B = ℕ} length c.map-map.ensures.layout))
          (blob_first layout actor blob c.deref.result.now c.first_shared.result same c.first_shared.ensures ∙ ap (option_map (λ byte. record { blob = blob; byte = byte })) c.in_default.is);
    }
