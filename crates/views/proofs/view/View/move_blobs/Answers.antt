use Rattle.views.proofs.Lemmas.{◌≡◌, ◌∙◌, ℕ, List, length, ap, map, sym, arith, sum_by, blocks, blob_steps, owners_of, all_sized, all_steps, all_kept, all_seen}
use Rattle.views.proofs.view.View.move_blobs.Goals as goal

pub move_all-requires : goal.move_all-requires
move_all-requires g c = record { lengths = all_sized c.self.invariant.1 c.source.invariant.1 c.self.view_is c.source.view_is c.requires.alike c.requires.blobs ∙ sym (ap (λ (bs : List (List ℕ)). map (length {A = ℕ}) bs) c.as_slice.ensures.value) }

pub invariant_of-self : goal.invariant_of-self
invariant_of-self g c = (c.self.invariant.0, all_kept c.self.invariant.1 c.source.invariant.1 c.self.view_is c.source.view_is c.requires.alike c.requires.blobs (c.move_all.ensures.blobs ∙ c.as_slice.ensures.value) c.requires.modes, c.self.invariant.2)

pub returns-clause-rows : goal.returns-clause-rows
returns-clause-rows g c = all_seen c.self.invariant.1 c.source.invariant.1 c.self.view_is c.source.view_is c.requires.alike c.requires.blobs (c.move_all.ensures.blobs ∙ c.as_slice.ensures.value)

pub returns-clause-steps : goal.returns-clause-steps
returns-clause-steps g c =
    let count : sum_by (λ (blob : List ℕ). blocks (length blob)) c.as_slice.result.now ≡ blob_steps (owners_of c.args.self.now) =
    ap (sum_by (λ (blob : List ℕ). blocks (length blob))) c.as_slice.ensures.value ∙ all_steps c.self.invariant.1 c.source.invariant.1 c.self.view_is c.source.view_is c.requires.alike c.requires.blobs in
    omega (arith, c.move_all.ensures.steps, count)
