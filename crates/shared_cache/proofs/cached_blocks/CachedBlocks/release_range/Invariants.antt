use Rattle.std.proofs.Common.{◌≡◌, ◌≤◌}
use Rattle.image_model.specs.Image.{covers}
use Rattle.shared_cache.specs.Blocks.{without}
use Rattle.shared_cache.specs.CachedBlocks.{IsHeld, blocks_of}
use Rattle.shared_cache.proofs.cached_blocks.CachedBlocks.release_range.Given as goal

abbrev pub invariant-loop-offset : goal.invariant-loop-offset
invariant-loop-offset l = record {
  left : blocks_of l.self.pool l.self.blocks ≡ without (covers l.first l.offset) (blocks_of l.initial.self.pool l.initial.self.blocks);
  spare : l.initial.self.spare ≤ l.self.spare;
  held : IsHeld l.self;
}
