use Rattle.views.proofs.Lemmas.{◌≡◌, ℕ, ◌+◌, ◌-◌, ◌<◌, ◌≤◌, get_or, pos, ap, ◌∙◌, ⊎_elim, arith, cases_lt, get_or_read, low_64, [], stretch_blob, has_room, stretch_read}
use Rattle.views.proofs.runs.read_rows.Goals as goal
use Rattle.views.proofs.runs.read_rows.Goals.{After-index-blobs-short}

pub overflow_add-first : goal.overflow_add-first
overflow_add-first c =
    ⊎_elim
    (λ (some : 0 < c.loop-done.done). grind arith)
    (λ (none : c.loop-done.done ≤ 0). grind arith)
    (cases_lt 0 c.loop-done.done)

pub stretch-requires-clause-starts : goal.stretch-requires-clause-starts
stretch-requires-clause-starts c = λ lead k below.
    (c.short.ensures.form lead).starts (c.args.first + c.loop-done.done + k) (omega (arith, below, c.requires.rows_in, c.loop-done.invariant.count))

pub bounds-blobs-short : goal.bounds-blobs-short
bounds-blobs-short c =
    stretch_blob c.args.mapping.now.holds c.laws_of.ensures.lawful c.laws_of.ensures.paired c.requires.leaf_in (c.short.ensures.form c.in-Some.ensures.leads) c.in-Some.ensures (omega (arith, c.requires.rows_in, c.loop-done.invariant.count)) c.args.blobs.now c.requires.sized

pub offset_bounds-blobs-short : goal.offset_bounds-blobs-short
offset_bounds-blobs-short c =
    omega (arith, (stretch_blob c.args.mapping.now.holds c.laws_of.ensures.lawful c.laws_of.ensures.paired c.requires.leaf_in (c.short.ensures.form c.in-Some.ensures.leads) c.in-Some.ensures (omega (arith, c.requires.rows_in, c.loop-done.invariant.count)) c.args.blobs.now c.requires.sized))

-- what stands in the blob
blob : (c : After-index-blobs-short) → c.index-blobs-short.result ≡ get_or c.args.blobs.now c.short.result.now.short.blob []
blob c =
    get_or_read c.args.blobs.now c.short.result.now.short.blob c.index-blobs-short.result
    (stretch_blob c.args.mapping.now.holds c.laws_of.ensures.lawful c.laws_of.ensures.paired c.requires.leaf_in (c.short.ensures.form c.in-Some.ensures.leads) c.in-Some.ensures (omega (arith, c.requires.rows_in, c.loop-done.invariant.count)) c.args.blobs.now c.requires.sized)
    c.index-blobs-short.is []

pub read_stretch-requires-clause-room : goal.read_stretch-requires-clause-room
read_stretch-requires-clause-room c =
    has_room c.args.mapping.now.holds c.laws_of.ensures.lawful c.laws_of.ensures.paired c.requires.leaf_in (c.short.ensures.form c.in-Some.ensures.leads) c.in-Some.ensures (omega (arith, c.requires.rows_in, c.loop-done.invariant.count)) c.args.blobs.now c.requires.sized
    c.index-blobs-short.result (blob (goal.at.read_stretch-requires-clause-room c).After-index-blobs-short)

pub loop-done-preserved : goal.loop-done-preserved
loop-done-preserved c =
    let done = c.loop-done.done in
    let first = c.args.first in
    let stretch = c.in-Some.stretch in
    let bytes = blob (goal.at.loop-done-preserved c).After-index-blobs-short in
    record {
      inside = omega (arith, c.in-Some.ensures.few, c.loop-done.invariant.count);
      count = c.read_stretch.ensures.count ∙ c.loop-done.invariant.count;
      each = λ k below.
          ⊎_elim (λ (before : k < done). c.read_stretch.ensures.before k before ∙ c.loop-done.invariant.each k before)
          (λ (behind : done ≤ k).
          let there : k ≡ done + (k - done) = omega (arith, behind) in
          let row : first + done + (k - done) ≡ first + k = omega (arith, behind) in
          let inside : k - done < stretch.rows = omega (arith, below, behind) in
          ap (λ (n : ℕ). get_or c.read_stretch.new.values n (pos 0)) there ∙ c.read_stretch.ensures.each (k - done) inside
          ∙ ap low_64
          (stretch_read c.args.mapping.now.holds c.laws_of.ensures.lawful c.laws_of.ensures.paired c.requires.leaf_in (c.short.ensures.form c.in-Some.ensures.leads) c.in-Some.ensures (omega (arith, c.requires.rows_in, c.loop-done.invariant.count)) c.args.blobs.now c.requires.sized
          c.index-blobs-short.result bytes (k - done) (first + k) inside row))
          (cases_lt k done);
      leads = λ some. c.in-Some.ensures.leads;
    }
