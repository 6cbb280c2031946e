use Rattle.std.proofs.Common.{◌+◌, arith}
use Rattle.shared_cache.specs.Blocks.{is_dirty}
use Rattle.shared_cache.specs.CachedBlocks.{blocks_of}
use Rattle.shared_cache.specs.laws.Ranges.{count_next, one_at_most}
use Rattle.shared_cache.proofs.cached_blocks.CachedBlocks.count_missing.Goals as goal

pub loop-offset-preserved : goal.loop-offset-preserved
loop-offset-preserved c =
    let held = blocks_of c.args.self.now.pool c.args.self.now.blocks in
    let next = count_next c.args.first c.loop-offset.offset c.args.count held c.loop-offset-test.true in
    let one = one_at_most (is_dirty (c.args.first + c.loop-offset.offset) held) in
    record {
      counted = omega (arith, next, c.missing_one-missing.ensures, c.loop-offset.invariant.counted);
      few = omega (arith, one, c.missing_one-missing.ensures, c.loop-offset.invariant.few);
    }
