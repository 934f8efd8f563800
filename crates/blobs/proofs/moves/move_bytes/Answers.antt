use Rattle.blobs.proofs.Imports.{◌≡◌, ◌+◌, ◌*◌, ◌≤◌, ℕ, length, refl, subst, arith, IsMoved, moved_bytes, moved_more, common_steps}
use Rattle.blobs.proofs.moves.move_bytes.Goals as goal

pub loop-block-preserved : goal.loop-block-preserved
loop-block-preserved g c =
    let at = c.args.at in
    let from = c.args.from in
    let block = c.loop-block.block in
    let size : length c.loop-block.target ≡ length c.args.target.now = c.loop-block.invariant.moved.size in
    let next : 64 * block + 64 ≡ 64 * (block + 1) = omega arith in
    let last : 64 * (block + 1) ≤ c.args.len = omega (arith, c.loop-block-test.true) in
    let here : IsMoved c.loop-block.target (at + 64 * block) c.args.source.now (from + 64 * block) 64 c.move_block.new.self =
    moved_bytes c.loop-block.target (at + 64 * block) c.args.source.now (from + 64 * block) 64 c.move_block.new.self
    (omega (arith, c.requires.room)) (omega (arith, c.requires.there)) c.move_block.ensures.bytes in
    record {
      moved = subst (λ (n : ℕ). IsMoved c.args.target.now at c.args.source.now from n c.move_block.new.self) next
          (moved_more c.args.target.now at c.args.source.now from (64 * block) 64 c.loop-block.target c.move_block.new.self _ _ refl refl c.loop-block.invariant.moved here);
      steps = omega (arith, c.move_block.ensures.step, c.loop-block.invariant.steps);
    }

pub returns-then-rest-gt0-clause-bytes : goal.returns-then-rest-gt0-clause-bytes
returns-then-rest-gt0-clause-bytes g c = grind (arith, common_steps, moved_bytes, moved_more)
