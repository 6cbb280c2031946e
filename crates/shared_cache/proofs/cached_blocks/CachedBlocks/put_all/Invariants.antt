use Rattle.std.proofs.Common.{◌≡◌, ◌+◌, ◌-◌, ◌≤◌, length, take}
use Rattle.std.specs.List.{All}
use Rattle.frame_pool.specs.Pool.{DirtyFrame}
use Rattle.shared_cache.specs.Blocks.{available_frames, count_missing, with_puts}
use Rattle.shared_cache.specs.CachedBlocks.{IsHeld, blocks_of}
use Rattle.shared_cache.proofs.cached_blocks.CachedBlocks.put_all.Given as goal

abbrev pub invariant-loop-offset : goal.invariant-loop-offset
invariant-loop-offset l = record {
  put : blocks_of l.self.pool l.self.blocks ≡ with_puts l.number l.first (take l.offset l.blocks) (blocks_of l.initial.self.pool l.initial.self.blocks);
  frames : count_missing (l.first + l.offset) (length l.blocks - l.offset) (blocks_of l.self.pool l.self.blocks) ≤ available_frames (blocks_of l.self.pool l.self.blocks);
  order : All (λ (held : DirtyFrame). held.number ≤ l.number) l.self.pool.dirty;
  held : IsHeld l.self;
  room : l.initial.self.spare ≤ l.self.spare + l.offset;
}
