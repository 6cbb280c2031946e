-- frames that hold blocks
use Rattle.std.specs.Prelude.{ℕ, ◌≡◌, ◌+◌, ◌≤◌, List, [], length, map, slice_index, slice_index_or, Option, Some}
use Rattle.frame_pool.specs.Lists.{times}
use Rattle.frame_pool.specs.Pool.{DirtyFrame, PoolState, IsPool, frames_of}
use Rattle.shared_cache.specs.Blocks.{BlocksState, CleanBlock, DirtyBlock}

-- a pool, the block of each of its frames, and how many blocks more can be held before memory is needed
pub record CachedState : Type 0 where
  pub pool : PoolState
  pub blocks : List ℕ
  pub spare : ℕ

-- how often a frame stands among those that hold blocks, the clean and the dirty ones
abbrev pub held_times : ℕ → PoolState → ℕ
held_times frame pool = times frame pool.clean + times frame (frames_of pool.dirty)

-- the block of a frame
abbrev pub block_at : List ℕ → ℕ → ℕ
block_at blocks frame = slice_index blocks frame

-- Each frame has a block, and no two frames hold one block.
pub record IsHeld (held : CachedState) : Type 0 where
  pub pool : IsPool held.pool
  pub size : length held.blocks ≡ length held.pool.bytes
  pub apart : (frame other : ℕ) → 1 ≤ held_times frame held.pool → 1 ≤ held_times other held.pool
      → block_at held.blocks frame ≡ block_at held.blocks other → frame ≡ other

-- A look-up finds exactly the blocks that are held, each with its frame.
pub record IsIndexed (pool : PoolState) (blocks : List ℕ) (lookup : ℕ → Option ℕ) : Type 0 where
  pub pool_kept : IsPool pool
  pub size : length blocks ≡ length pool.bytes
  pub found : (frame : ℕ) → 1 ≤ held_times frame pool → lookup (block_at blocks frame) ≡ Some frame
  pub only : (block frame : ℕ) → lookup block ≡ Some frame → (1 ≤ held_times frame pool) × (block_at blocks frame ≡ block)

abbrev pub bytes_at : PoolState → ℕ → List ℕ
bytes_at pool frame = slice_index_or pool.bytes frame []

-- the block of a frame with the frame's bytes
abbrev pub clean_block : PoolState → List ℕ → ℕ → CleanBlock
clean_block pool blocks frame = record { block = block_at blocks frame; bytes = bytes_at pool frame }

abbrev pub dirty_block : PoolState → List ℕ → DirtyFrame → DirtyBlock
dirty_block pool blocks held = record { block = block_at blocks held.frame; number = held.number; bytes = bytes_at pool held.frame }

-- the blocks that the frames hold
abbrev pub blocks_of : PoolState → List ℕ → BlocksState
blocks_of pool blocks = record {
  free = length pool.free;
  clean = map (λ frame. clean_block pool blocks frame) pool.clean;
  dirty = map (λ (held : DirtyFrame). dirty_block pool blocks held) pool.dirty;
}
