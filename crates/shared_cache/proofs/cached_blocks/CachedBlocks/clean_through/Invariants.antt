use Rattle.std.proofs.Common.{◌≡◌, length}
use Rattle.shared_cache.specs.Blocks.{cleaned}
use Rattle.shared_cache.specs.CachedBlocks.{IsHeld, blocks_of}
use Rattle.shared_cache.proofs.cached_blocks.CachedBlocks.clean_through.Given as goal

abbrev pub invariant-loop : goal.invariant-loop
invariant-loop l = record {
  same : cleaned l.number (blocks_of l.self.pool l.self.blocks) ≡ cleaned l.number (blocks_of l.initial.self.pool l.initial.self.blocks);
  held : IsHeld l.self;
}

abbrev pub decreases-loop : goal.decreases-loop
decreases-loop l = length l.self.pool.dirty
