use Rattle.std.proofs.Common.{◌≡◌, ◌<◌, ◌≤◌, ℕ, true}
use Rattle.image_model.specs.Image.{covers}
use Rattle.shared_cache.specs.Blocks.{without}
use Rattle.shared_cache.specs.CachedBlocks.{IsHeld, block_at, blocks_of}
use Rattle.shared_cache.specs.inner.Blocks.{IsMissing}
use Rattle.shared_cache.proofs.cached_blocks.CachedBlocks.release_frames.Given as goal

abbrev pub invariant-loop-frame : goal.invariant-loop-frame
invariant-loop-frame l = record {
  left : without (covers l.first l.count) (blocks_of l.self.pool l.self.blocks) ≡ without (covers l.first l.count) (blocks_of l.initial.self.pool l.initial.self.blocks);
  gone : (frame : ℕ) → frame < l.frame → covers l.first l.count (block_at l.self.blocks frame) ≡ true → IsMissing (block_at l.self.blocks frame) l.self;
  kept : l.self.blocks ≡ l.initial.self.blocks;
  spare : l.initial.self.spare ≤ l.self.spare;
  held : IsHeld l.self;
}
