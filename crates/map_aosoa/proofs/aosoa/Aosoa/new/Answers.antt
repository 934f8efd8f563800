use Rattle.map_aosoa.proofs.Imports.{◌≡◌, ℕ, ◌*◌, ◌^◌, ◌<◌, List, subst, ◌∙◌, rules, sum, widths_of, Cell, LieInBlocks, block_count, common_steps, arith}
use Rattle.map_aosoa.proofs.Blob.{big_block, big_blob, not_too_big, none_fits}
use Rattle.map_aosoa.proofs.aosoa.Aosoa.new.Goals as goal

pub returns-then-slots-eq0-clause-fits : goal.returns-then-slots-eq0-clause-fits
returns-then-slots-eq0-clause-fits c = grind (arith, common_steps, none_fits)

pub returns-in_err-block-clause-too_big : goal.returns-in_err-block-clause-too_big
returns-in_err-block-clause-too_big c =
    let kept : c.deref.result.now ≡ c.args.cells.now = c.deref.ensures.value ∙ c.in_ok-kept.ensures.items ∙ c.as_slice.ensures in
    λ t.
    let long : 2 ^ 31 < c.args.lanes * sum (widths_of c.args.cells.now) =
    subst (λ (cells : List Cell). 2 ^ 31 < c.args.lanes * sum (widths_of cells)) kept (c.in_err-block.ensures.too_big (search rules)) in
    big_block c.args.lanes c.args.slots (widths_of c.args.cells.now) (let h = c.if-not-contains.false in search rules) (search rules) long

pub returns-then-bits-gt-MAX_BLOB_BITS-clause-too_big :
    goal.returns-then-bits-gt-MAX_BLOB_BITS-clause-too_big
returns-then-bits-gt-MAX_BLOB_BITS-clause-too_big c =
    let kept : c.deref.result.now ≡ c.args.cells.now = c.deref.ensures.value ∙ c.in_ok-kept.ensures.items ∙ c.as_slice.ensures in
    let block = c.in_ok-block.block in
    let stored : LieInBlocks c.args.lanes (widths_of c.args.cells.now) block.offsets.items block.size =
    subst (λ (cells : List Cell). LieInBlocks c.args.lanes (widths_of cells) block.offsets.items block.size) kept c.in_ok-block.ensures.stored in
    let long : 2 ^ 31 < block_count c.args.lanes c.args.slots * block.size =
    subst (λ (n : ℕ). 2 ^ 31 < n * block.size) c.count_blocks.ensures c.if-bits-gt-MAX_BLOB_BITS.true in
    λ _. big_blob c.args.lanes c.args.slots (widths_of c.args.cells.now) block.offsets.items block.size (search rules) stored long

pub returns-clause-fits : goal.returns-clause-fits
returns-clause-fits c = grind (arith, common_steps, not_too_big)
