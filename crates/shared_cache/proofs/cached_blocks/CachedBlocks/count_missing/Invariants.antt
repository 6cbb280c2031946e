use Rattle.std.proofs.Common.{◌≡◌, ◌+◌, ◌-◌, ◌≤◌}
use Rattle.shared_cache.specs.Blocks.{count_missing}
use Rattle.shared_cache.specs.CachedBlocks.{blocks_of}
use Rattle.shared_cache.proofs.cached_blocks.CachedBlocks.count_missing.Given as goal

abbrev pub invariant-loop-offset : goal.invariant-loop-offset
invariant-loop-offset l = record {
  counted : l.missing + count_missing (l.first + l.offset) (l.count - l.offset) (blocks_of l.self.pool l.self.blocks)
      ≡ count_missing l.first l.count (blocks_of l.self.pool l.self.blocks);
  few : l.missing ≤ l.offset;
}
