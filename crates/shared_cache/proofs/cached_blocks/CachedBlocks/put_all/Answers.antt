use Rattle.std.proofs.Common.{length, arith}
use Rattle.shared_cache.specs.CachedBlocks.{blocks_of}
use Rattle.shared_cache.specs.laws.Ranges.{count_next, frames_step, puts_step}
use Rattle.shared_cache.proofs.cached_blocks.CachedBlocks.put_all.Goals as goal

pub put-requires-clause-frames : goal.put-requires-clause-frames
put-requires-clause-frames c =
    let next = count_next c.args.first c.loop-offset.offset (length c.args.blocks.now) (blocks_of c.loop-offset.self.pool c.loop-offset.self.blocks) c.loop-offset-test.true in
    let room = c.loop-offset.invariant.frames in
    omega (arith, next, room)

pub loop-offset-preserved : goal.loop-offset-preserved
loop-offset-preserved c = record {
  put = puts_step c.args.number c.args.first c.loop-offset.offset c.args.blocks.now _ _ _ _ c.loop-offset-test.true c.loop-offset.invariant.put c.put.ensures.blocks;
  frames = frames_step c.args.number c.args.first c.loop-offset.offset (length c.args.blocks.now) _ _ _ c.put.ensures.blocks c.loop-offset-test.true c.loop-offset.invariant.frames;
  order = c.put.ensures.order;
  held = c.put.ensures.held;
  room = omega (arith, c.put.ensures.spare, c.loop-offset.invariant.room);
}
