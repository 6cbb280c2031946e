use Rattle.std.proofs.Common.{◌∙◌, refl, arith}
use Rattle.shared_cache.specs.laws.Ranges.{release_next, without_empty}
use Rattle.shared_cache.proofs.cached_blocks.CachedBlocks.release_range.Goals as goal

pub loop-offset-init : goal.loop-offset-init
loop-offset-init c = record { left = without_empty c.args.first _; spare = omega arith; held = c.requires.held }

pub loop-offset-preserved : goal.loop-offset-preserved
loop-offset-preserved c = record {
  left = c.release.ensures.blocks ∙ release_next c.args.first c.loop-offset.offset _ _ _ refl c.loop-offset.invariant.left;
  spare = omega (arith, c.release.ensures.spare, c.loop-offset.invariant.spare);
  held = c.release.ensures.held;
}
